use Rattle.std.proofs.Common.{◌≡◌, ◌++◌, drop}
use Rattle.tow_model.specs.Texts.{escaped}
use Rattle.tow_page.specs.Escapes.{keeps}
use Rattle.tow_page.proofs.escapes.append_escaped.Given as goal

-- what was written, and then what the part has for the bytes that are left, is the whole
abbrev pub invariant-loop-byte : goal.invariant-loop-byte
invariant-loop-byte l = l.out.items ++ escaped (keeps l.part) (drop l.byte-index l.text) ≡ l.fn.out.items ++ escaped (keeps l.part) l.text
