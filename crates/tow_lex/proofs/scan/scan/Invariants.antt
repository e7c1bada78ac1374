use Rattle.std.proofs.Common.{List, ◌++◌, drop, ◌-◌, ◌≤◌, length, ℕ}
use Rattle.tow_language.specs.declared.token.Token.{Token}
use Rattle.tow_language.specs.Tokens.{CutsUpTo}
use Rattle.tow_lex.proofs.scan.scan.Given as goal

abbrev pub invariant-loop-tokens : goal.invariant-loop-tokens
invariant-loop-tokens l =
    (l.end ≤ length l.text) × ((more : List Token) (left : List ℕ) → CutsUpTo l.end (drop l.end l.text) more left → CutsUpTo 0 l.text (l.tokens ++ more) left)

abbrev pub decreases-loop-tokens : goal.decreases-loop-tokens
decreases-loop-tokens l = length l.text - l.end
