use Rattle.std.proofs.Common.{length, ◌-◌, ◌≡◌, ◌≤◌, ℕ, slice_range}
use Rattle.std.specs.List.{list_all}
use Rattle.tow_language.specs.Tokens.{is_white}
use Rattle.tow_lex.proofs.gap.gap_end.Given as goal

abbrev pub invariant-loop-at : goal.invariant-loop-at
invariant-loop-at l =
    (l.from ≤ l.at) × (l.at ≤ length l.text)
    × ((to : ℕ) → l.at ≤ to → to ≤ length l.text → list_all is_white (slice_range l.text l.from to) ≡ list_all is_white (slice_range l.text l.at to))

abbrev pub decreases-loop-at : goal.decreases-loop-at
decreases-loop-at l = length l.text - l.at
