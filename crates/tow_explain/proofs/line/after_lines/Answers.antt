use Rattle.std.proofs.Common.{◌≡◌, ◌∙◌, ◌+◌, ◌-◌, Some, None, ap, sym, arith}
use Rattle.std.specs.Option.{option_copied}
use Rattle.tow_model.specs.Texts.{after}
use Rattle.tow_explain.specs.Lines as model
use Rattle.tow_explain.proofs.Behind.{lines-none, lines-some}
use Rattle.tow_explain.proofs.line.after_lines.Goals as goal

pub returns-in-None : goal.returns-in-None
returns-in-None c =
    let e : after 10 c.lines.rest.now ≡ None = sym c.after.ensures ∙ ap option_copied c.in-None.is in
    sym (c.lines.invariant ∙ lines-none (c.args.count - c.lines._line) c.lines.rest.now (omega arith) e)

pub lines-preserved : goal.lines-preserved
lines-preserved c =
    let count = c.args.count in let line = c.lines._line in
    let e : after 10 c.lines.rest.now ≡ Some c.in-Some.more.now = sym c.after.ensures ∙ ap option_copied c.in-Some.is in
    let n : count - line - 1 ≡ count - (line + 1) = omega arith in
    c.lines.invariant ∙ lines-some (count - line) c.lines.rest.now c.in-Some.more.now (omega arith) e ∙ ap (λ k. model.after_lines k c.in-Some.more.now) n
