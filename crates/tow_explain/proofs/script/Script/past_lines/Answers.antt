use Rattle.std.proofs.Common.{◌≡◌, ◌∙◌, suc, ◌+◌, ◌-◌, false, true, length, sym, ap, arith}
use Rattle.tow_explain.specs.Scripts.{is_line_end, past_lines_of}
use Rattle.tow_explain.proofs.Neighbours.{past-here, past-line, past-none}
use Rattle.tow_explain.proofs.script.Script.past_lines.Goals as goal

pub returns-then-not-is_line_end : goal.returns-then-not-is_line_end
returns-then-not-is_line_end c =
    let tokens = c.args.self.now.tokens.now in let at = c.tokens.at in
    let next : length tokens - at ≡ suc (length tokens - at - 1) = omega arith in
    let is : is_line_end tokens at ≡ false = sym c.is_line_end.ensures ∙ c.if-not-is_line_end.true in
    sym (past-here tokens (length tokens - at - 1) (length tokens - at) at next is) ∙ c.tokens.invariant

pub tokens-preserved : goal.tokens-preserved
tokens-preserved c =
    let tokens = c.args.self.now.tokens.now in let at = c.tokens.at in
    let next : length tokens - at ≡ suc (length tokens - (at + 1)) = omega arith in
    let is : is_line_end tokens at ≡ true = sym c.is_line_end.ensures ∙ c.if-not-is_line_end.false in
    let after : suc at ≡ at + 1 = omega arith in
    ap (λ i. past_lines_of (length tokens - (at + 1)) tokens i) (sym after)
    ∙ sym (past-line tokens (length tokens - (at + 1)) (length tokens - at) at next is) ∙ c.tokens.invariant

pub returns : goal.returns
returns c =
    let tokens = c.args.self.now.tokens.now in
    let none : length tokens - c.tokens.at ≡ 0 = omega arith in
    sym (past-none tokens (length tokens - c.tokens.at) c.tokens.at none) ∙ c.tokens.invariant
