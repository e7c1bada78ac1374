use Rattle.std.proofs.Common.{◌≡◌, ◌-◌}
use Rattle.tow_explain.specs.Lines as model
use Rattle.tow_explain.proofs.line.after_lines.Given as goal

abbrev pub invariant-lines : goal.invariant-lines
invariant-lines l = model.after_lines l.count l.text ≡ model.after_lines (l.count - l._line) l.rest
