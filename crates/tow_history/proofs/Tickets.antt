-- Tickets are granted in the order in which they were drawn, each at most once.
use Rattle.std.proofs.Common.{◌≡◌, ℕ, suc, ◌+◌, ◌<◌, ◌≤◌, List, [], ◌∷◌, ◌++◌, length, sym, ◌∙◌, ap, subst, arith}
use Rattle.std.proofs.lemmas.List.{append-nil, append_assoc}
use Rattle.std.specs.List.{AllByRecursion as Each}
use Rattle.tow_history.specs.declared.entry.Entry.{Entry}
use Rattle.tow_history.specs.Deed.{Deed, Comes, Waits, Stays_out, Goes, deed_of}
use Rattle.tow_history.specs.Legal.{Who, LimitState, tickets, without_first, done, May, who_of, after_entry, state_from, legal_from}
use Rattle.tow_history.specs.Histories.{drawn_by, drawn_tickets, front, granted_by, granted_from, rising_from}
use Rattle.tow_history.proofs.Sound.{Sound, sound_done, count_from, map_add}

-- what waits now and what is drawn later is what is granted later and what waits then
step_split : (d : Deed) (w : Who) (s : LimitState) (more rest : List ℕ) → tickets (done d w s).line ++ more ≡ rest → tickets s.line ++ (drawn_by d ++ more) ≡ granted_by d s ++ rest
step_split Comes w s more rest e = e
step_split Stays_out w s more rest e = e
step_split (Waits t) w s more rest e = sym (append_assoc (tickets s.line) (t ∷ []) more) ∙ ap (λ ts. ts ++ more) (sym (map_add s.line (w, t))) ∙ e
step_split Goes w s more rest e = goes_split s.line s w more rest e where
  goes_split : (line : List (Who × ℕ)) (s : LimitState) (w : Who) (more rest : List ℕ) → tickets (without_first line) ++ more ≡ rest → tickets line ++ more ≡ front line ++ rest
  goes_split [] s w more rest e = e
  goes_split (p ∷ line) s w more rest e = ap (λ ts. p.1 ∷ ts) e

pub tickets_split : (s : LimitState) (h : List Entry) → tickets s.line ++ drawn_tickets h ≡ granted_from s h ++ tickets (state_from s h).line
tickets_split s [] = append-nil (tickets s.line)
tickets_split s (e ∷ h) =
    step_split (deed_of e.call.what) (who_of e) s (drawn_tickets h) (granted_from (after_entry s e) h ++ tickets (state_from (after_entry s e) h).line) (tickets_split (after_entry s e) h)
    ∙ sym (append_assoc (granted_by (deed_of e.call.what) s) (granted_from (after_entry s e) h) (tickets (state_from (after_entry s e) h).line))

rising_lower : (m n : ℕ) (ts : List ℕ) → m ≤ n → rising_from n ts → rising_from m ts
rising_lower m n [] le r = tt
rising_lower m n (t ∷ ts) le r = (omega (arith, le, r.0), r.1)

step_rising : (most queue : ℕ) (d : Deed) (w : Who) (s : LimitState) (ts : List ℕ) → May most queue s w d → rising_from (done d w s).drawn ts → rising_from s.drawn (drawn_by d ++ ts)
step_rising most queue Comes w s ts may r = rising_lower s.drawn (suc s.drawn) ts (omega arith) r
step_rising most queue (Waits t) w s ts may r = let same : t ≡ s.drawn = may.3 in (omega arith, subst (λ n. rising_from (suc n) ts) (sym same) r)
step_rising most queue Stays_out w s ts may r = r
step_rising most queue Goes w s ts may r = r

pub drawn_rising : (most queue : ℕ) (s : LimitState) (h : List Entry) → legal_from most queue s h → rising_from s.drawn (drawn_tickets h)
drawn_rising most queue s [] ok = tt
drawn_rising most queue s (e ∷ h) ok = step_rising most queue (deed_of e.call.what) (who_of e) s (drawn_tickets h) ok.0 (drawn_rising most queue (after_entry s e) h ok.1)

step_left : (d : Deed) (w : Who) (s : LimitState) → s.left ≤ (done d w s).left
step_left Comes w s = omega arith
step_left (Waits t) w s = omega arith
step_left Stays_out w s = omega arith
step_left Goes w s = omega arith

left_grows : (s : LimitState) (h : List Entry) → s.left ≤ (state_from s h).left
left_grows s [] = omega arith
left_grows s (e ∷ h) = let one = step_left (deed_of e.call.what) (who_of e) s in let more = left_grows (after_entry s e) h in omega arith

-- a ticket that is granted is below the leavings and the number of places together
step_below : (most queue : ℕ) (d : Deed) (w : Who) (s : LimitState) (left : ℕ) (ts : List ℕ) → Sound most queue s → (done d w s).left ≤ left
    → Each (λ t. t < left + most) ts → Each (λ t. t < left + most) (granted_by d s ++ ts)
step_below most queue Comes w s left ts sound le r = r
step_below most queue (Waits t) w s left ts sound le r = r
step_below most queue Stays_out w s left ts sound le r = r
step_below most queue Goes w s left ts sound le r = goes_below most s.line s.left (length s.inside) left ts sound.full sound.in_order le r where
  goes_below : (most : ℕ) (line : List (Who × ℕ)) (now inside left : ℕ) (ts : List ℕ) → (0 < length line → inside ≡ most) → count_from (now + inside) (tickets line) → suc now ≤ left
      → Each (λ t. t < left + most) ts → Each (λ t. t < left + most) (front line ++ ts)
  goes_below most [] now inside left ts full in_order le r = r
  goes_below most (p ∷ line) now inside left ts full in_order le r = let there = in_order.0 in let all : inside ≡ most = full (omega arith) in (omega (arith, there, all, le), r)

pub granted_below : (most queue : ℕ) (s : LimitState) (h : List Entry) → Sound most queue s → legal_from most queue s h → Each (λ t. t < (state_from s h).left + most) (granted_from s h)
granted_below most queue s [] sound ok = tt
granted_below most queue s (e ∷ h) sound ok =
    step_below most queue (deed_of e.call.what) (who_of e) s (state_from (after_entry s e) h).left (granted_from (after_entry s e) h) sound (left_grows (after_entry s e) h)
    (granted_below most queue (after_entry s e) h (sound_done most queue s (who_of e) (deed_of e.call.what) ok.0 sound) ok.1)

count_above : (n : ℕ) (ts : List ℕ) → count_from n ts → Each (λ t. n ≤ t) ts
count_above n [] c = tt
count_above n (t ∷ ts) c = let here = c.0 in (omega arith, each_lower n ts (count_above (suc n) ts c.1)) where
  each_lower : (n : ℕ) (ts : List ℕ) → Each (λ t. suc n ≤ t) ts → Each (λ t. n ≤ t) ts
  each_lower n [] r = tt
  each_lower n (t ∷ ts) r = let here = r.0 in (omega arith, each_lower n ts r.1)

-- one that still waits is not
pub waiting_above : (most queue : ℕ) (s : LimitState) → Sound most queue s → Each (λ t. s.left + most ≤ t) (tickets s.line)
waiting_above most queue s sound = above s.line most s.left (length s.inside) sound.full sound.in_order where
  above : (line : List (Who × ℕ)) (most left inside : ℕ) → (0 < length line → inside ≡ most) → count_from (left + inside) (tickets line) → Each (λ t. left + most ≤ t) (tickets line)
  above [] most left inside full c = tt
  above (p ∷ line) most left inside full c = let all : inside ≡ most = full (omega arith) in subst (λ m. Each (λ t. left + m ≤ t) (tickets (p ∷ line))) all (count_above (left + inside) (tickets (p ∷ line)) c)
