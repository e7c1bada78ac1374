use Rattle.std.proofs.Common.{◌≡◌, drop}
use Rattle.tow_model.specs.Texts.{skip_blanks}
use Rattle.tow_text.proofs.trimming.without_blanks_before.Given as goal

abbrev pub invariant-loop-start : goal.invariant-loop-start
invariant-loop-start l = skip_blanks (drop l.start l.text) ≡ skip_blanks l.text
