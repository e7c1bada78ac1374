use Rattle.std.proofs.Common.{◌≡◌, drop, map}
use Rattle.tow_host.specs.Texts.{text_named}
use Rattle.tow_host.specs.Memory.{text_told}
use Rattle.tow_host.proofs.memory_texts.source_in.Given as goal

abbrev pub invariant-texts : goal.invariant-texts
invariant-texts l = text_named (map text_told l.texts) l.name ≡ text_named (map text_told (drop l.text-index l.texts)) l.name
