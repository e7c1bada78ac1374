-- Each entry is a refusal, an admission or queuing, or a leaving.
use Rattle.std.proofs.Common.{◌≡◌, ℕ, suc, ◌+◌, List, [], ◌∷◌, length, arith}
use Rattle.tow_history.specs.declared.entry.Entry.{Entry}
use Rattle.tow_history.specs.Deed.{Deed, Comes, Waits, Stays_out, Goes, deed_of}
use Rattle.tow_history.specs.Legal.{Who, LimitState, done, who_of, after_entry, state_from}
use Rattle.tow_history.specs.Histories.{refusals_in, refusals}

step_counts : (d : Deed) (w : Who) (s : LimitState) → refusals_in d + (done d w s).drawn + (done d w s).left ≡ suc (s.drawn + s.left)
step_counts Comes w s = omega arith
step_counts (Waits t) w s = omega arith
step_counts Stays_out w s = omega arith
step_counts Goes w s = omega arith

sum : (length_h refused here drawn left drawn_then left_then drawn_last left_last : ℕ) → here + drawn_then + left_then ≡ suc (drawn + left)
    → length_h + drawn_then + left_then ≡ refused + drawn_last + left_last → suc length_h + drawn + left ≡ here + refused + drawn_last + left_last
sum length_h refused here drawn left drawn_then left_then drawn_last left_last e f = omega (arith, e, f)

pub counts_from : (s : LimitState) (h : List Entry) → length h + s.drawn + s.left ≡ refusals h + (state_from s h).drawn + (state_from s h).left
counts_from s [] = omega arith
counts_from s (e ∷ h) =
    sum (length h) (refusals h) (refusals_in (deed_of e.call.what)) s.drawn s.left (after_entry s e).drawn (after_entry s e).left (state_from s (e ∷ h)).drawn (state_from s (e ∷ h)).left
    (step_counts (deed_of e.call.what) (who_of e) s) (counts_from (after_entry s e) h)
