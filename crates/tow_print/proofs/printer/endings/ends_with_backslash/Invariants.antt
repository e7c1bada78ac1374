use Rattle.std.proofs.Common.{◌≡◌, take}
use Rattle.tow_language.specs.Templates.{spelled_template}
use Rattle.tow_language.specs.Tokens.{last_byte}
use Rattle.tow_print.proofs.printer.endings.ends_with_backslash.Given as goal

abbrev pub invariant-loop-piece : goal.invariant-loop-piece
invariant-loop-piece l = l.last ≡ last_byte 0 (spelled_template (take l.piece-index l.template))
