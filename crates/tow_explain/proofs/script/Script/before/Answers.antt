use Rattle.std.proofs.Common.{◌≡◌, ◌&&◌, ◌∙◌, suc, ◌+◌, ◌-◌, false, true, sym, arith}
use Rattle.tow_explain.specs.Scripts.{is_line_end}
use Rattle.tow_explain.proofs.Neighbours.{before-here, before-none, before-past}
use Rattle.tow_explain.proofs.script.Script.before.Goals as goal

pub returns-then-not-is_passed : goal.returns-then-not-is_passed
returns-then-not-is_passed c =
    let tokens = c.args.self.now.tokens.now in let at = c.args.index - 1 - c.tokens.back in
    let next : c.args.index - c.tokens.back ≡ suc at = omega arith in
    let is : (c.args.past_lines && is_line_end tokens at) ≡ false = sym c.is_passed.ensures ∙ c.if-not-is_passed.true in
    sym (before-here tokens c.args.past_lines at (c.args.index - c.tokens.back) next is) ∙ c.tokens.invariant

pub tokens-preserved : goal.tokens-preserved
tokens-preserved c =
    let tokens = c.args.self.now.tokens.now in let at = c.args.index - 1 - c.tokens.back in
    let next : c.args.index - c.tokens.back ≡ suc at = omega arith in
    let here : c.args.index - (c.tokens.back + 1) ≡ at = omega arith in
    let is : (c.args.past_lines && is_line_end tokens at) ≡ true = sym c.is_passed.ensures ∙ c.if-not-is_passed.false in
    rw here (sym (before-past tokens c.args.past_lines at (c.args.index - c.tokens.back) next is) ∙ c.tokens.invariant)

pub returns : goal.returns
returns c =
    let none : c.args.index - c.tokens.back ≡ 0 = omega arith in
    sym (before-none c.args.self.now.tokens.now c.args.past_lines (c.args.index - c.tokens.back) none) ∙ c.tokens.invariant
