use Rattle.std.proofs.Common.{◌≡◌, ◌≤◌, length, slice_range, ℕ, ◌+◌}
use Rattle.tow_language.specs.Tokens.{are_escaped, last_byte}
use Rattle.tow_lex.proofs.quote.quote_end.Given as goal

abbrev pub invariant-loop-at : goal.invariant-loop-at
invariant-loop-at l =
    (to : ℕ) → l.at ≤ to → to ≤ length l.text →
    (are_escaped l.quote l.quote (slice_range l.text (l.from + 1) to) ≡ are_escaped l.quote l.before (slice_range l.text l.at to))
    × (last_byte l.quote (slice_range l.text (l.from + 1) to) ≡ last_byte l.before (slice_range l.text l.at to))
