-- What is so at every point of a legal history.
use Rattle.std.proofs.Common.{◌⊎◌, inl, inr, ◌≡◌, ℕ, suc, ◌+◌, ◌<◌, ◌≤◌, Bool, true, false, cond, List, [], ◌∷◌, ◌++◌, length, map, refl, sym, ◌∙◌, ap, subst, arith, length-append}
use Rattle.std.specs.List.{AllByRecursion as Each}
use Rattle.tow_history.specs.declared.entry.Entry.{Entry}
use Rattle.tow_history.specs.Deed.{Deed, Comes, Waits, Stays_out, Goes, deed_of}
use Rattle.tow_history.specs.Legal.{Who, same_who, times, take_out, LimitState, nobody, tickets, let_in, without_first, done, May, who_of, after_entry, state_from, state_after, legal_from, legal}

-- the tickets follow one another, from n on
abbrev pub count_from : ℕ → List ℕ → Type 0
count_from n [] = Unit {0}
count_from n (t ∷ ts) = (t ≡ n) × count_from (suc n) ts

pub record Sound (most queue : ℕ) (s : LimitState) : Type 0 where
  pub few : length s.inside ≤ most
  pub short : length s.line ≤ queue
  pub full : 0 < length s.line → length s.inside ≡ most
  pub sum_is : s.drawn ≡ s.left + length s.inside + length s.line
  pub in_order : count_from (s.left + length s.inside) (tickets s.line)

pub length_add : {A : Type 0} (xs : List A) (x : A) → length (xs ++ x ∷ []) ≡ suc (length xs)
length_add xs x = grind (arith, length-append)

pub length_map : {A B : Type 0} (f : A → B) (xs : List A) → length (map f xs) ≡ length xs
length_map f [] = refl
length_map f (x ∷ xs) = ap suc (length_map f xs)

taken_length : (b : Bool) (n : ℕ) (v : Who) (vs us : List Who) → (0 < n → suc (length us) ≡ length vs) → 0 < cond b (suc n) n → suc (length (cond b vs (v ∷ us))) ≡ suc (length vs)
taken_length true n v vs us less h = refl
taken_length false n v vs us less h = ap suc (less h)

pub length_take_out : (w : Who) (xs : List Who) → 0 < times w xs → suc (length (take_out w xs)) ≡ length xs
length_take_out w [] h = omega (arith, h)
length_take_out w (v ∷ vs) h = taken_length (same_who w v) (times w vs) v vs (take_out w vs) (length_take_out w vs) h

pub map_add : (line : List (Who × ℕ)) (p : Who × ℕ) → tickets (line ++ p ∷ []) ≡ tickets line ++ p.1 ∷ []
map_add [] p = refl
map_add (q ∷ line) p = ap (λ ts. q.1 ∷ ts) (map_add line p)

count_add : (n : ℕ) (ts : List ℕ) (t : ℕ) → count_from n ts → t ≡ n + length ts → count_from n (ts ++ t ∷ [])
count_add n [] t c e = (e ∙ omega arith, tt)
count_add n (u ∷ ts) t c e = (c.0, count_add (suc n) ts t c.1 (e ∙ omega arith))

pub sound_nobody : (most queue : ℕ) → Sound most queue nobody
sound_nobody most queue = record { few = omega arith; short = omega arith; full = λ h. omega (arith, h); sum_is = refl; in_order = tt }

no_line : (line : List (Who × ℕ)) → (0 < length line → ⊥) → line ≡ []
no_line [] none = refl
no_line (p ∷ line) none = absurd (none (omega arith))

goes : (most queue : ℕ) (w : Who) (inside : List Who) (line : List (Who × ℕ)) (drawn left : ℕ)
    → 0 < times w inside → Sound most queue (record { inside = inside; line = line; drawn = drawn; left = left })
    → Sound most queue (record { inside = let_in line (take_out w inside); line = without_first line; drawn = drawn; left = suc left })
goes most queue w inside [] drawn left has s =
    let out : suc (length (take_out w inside)) ≡ length inside = length_take_out w inside has in
    let few = s.few in let sum_is = s.sum_is in
    record { few = omega arith; short = omega arith; full = λ h. omega (arith, h); sum_is = omega arith; in_order = tt }
goes most queue w inside (p ∷ line) drawn left has s =
    let out : suc (length (take_out w inside)) ≡ length inside = length_take_out w inside has in
    let add : length (take_out w inside ++ p.0 ∷ []) ≡ suc (length (take_out w inside)) = length_add (take_out w inside) p.0 in
    let few = s.few in let sum_is = s.sum_is in let short = s.short in let full : length inside ≡ most = s.full (omega arith) in
    let same : suc (left + length inside) ≡ suc left + length (take_out w inside ++ p.0 ∷ []) = omega arith in
    record { few = omega arith; short = omega arith; full = λ _. omega arith; sum_is = omega arith; in_order = subst (λ n. count_from n (tickets line)) same s.in_order.1 }

pub sound_done : (most queue : ℕ) (s : LimitState) (w : Who) (d : Deed) → May most queue s w d → Sound most queue s → Sound most queue (done d w s)
sound_done most queue s w Comes may sound =
    let few = sound.few in let sum_is = sound.sum_is in
    let add : length (s.inside ++ w ∷ []) ≡ suc (length s.inside) = length_add s.inside w in
    let none : s.line ≡ [] = no_line s.line (λ h. let full : length s.inside ≡ most = sound.full h in omega arith) in
    let empty : length s.line ≡ 0 = ap length none in
    record {
      few = omega arith;
      short = sound.short;
      full = λ h. absurd (omega arith);
      sum_is = omega arith;
      in_order = subst (λ l. count_from (s.left + length (s.inside ++ w ∷ [])) (tickets l)) (sym none) tt;
    }
sound_done most queue s w (Waits t) may sound =
    let sum_is = sound.sum_is in let full : length s.inside ≡ most = may.0 in let room = may.1 in let ticket : t ≡ s.drawn = may.3 in
    let add : length (s.line ++ (w, t) ∷ []) ≡ suc (length s.line) = length_add s.line (w, t) in
    let size : length (tickets s.line) ≡ length s.line = length_map (λ p. p.1) s.line in
    record {
      few = sound.few;
      short = omega arith;
      full = λ _. full;
      sum_is = omega arith;
      in_order = subst (count_from (s.left + length s.inside)) (sym (map_add s.line (w, t))) (count_add (s.left + length s.inside) (tickets s.line) t sound.in_order (omega arith));
    }
sound_done most queue s w Stays_out may sound = sound
sound_done most queue s w Goes may sound = goes most queue w s.inside s.line s.drawn s.left may sound

pub sound_from : (most queue : ℕ) (s : LimitState) (h : List Entry) → Sound most queue s → legal_from most queue s h → Sound most queue (state_from s h)
sound_from most queue s [] sound ok = sound
sound_from most queue s (e ∷ h) sound ok = sound_from most queue (after_entry s e) h (sound_done most queue s (who_of e) (deed_of e.call.what) ok.0 sound) ok.1

-- at the end of a legal history
pub sound_after : (most queue : ℕ) (h : List Entry) → legal h most queue → Sound most queue (state_after h)
sound_after most queue h ok = sound_from most queue nobody h (sound_nobody most queue) ok

-- at every earlier point, too
pub legal_front : (most queue : ℕ) (s : LimitState) (h more : List Entry) → legal_from most queue s (h ++ more) → legal_from most queue s h
legal_front most queue s [] more ok = tt
legal_front most queue s (e ∷ h) more ok = (ok.0, legal_front most queue (after_entry s e) h more ok.1)

pub state_add : (s : LimitState) (h : List Entry) (e : Entry) → state_from s (h ++ e ∷ []) ≡ after_entry (state_from s h) e
state_add s [] e = refl
state_add s (d ∷ h) e = state_add (after_entry s d) h e

-- an entry that may stand at the end keeps it legal
pub legal_add : (most queue : ℕ) (s : LimitState) (h : List Entry) (e : Entry) → legal_from most queue s h → May most queue (state_from s h) (who_of e) (deed_of e.call.what) → legal_from most queue s (h ++ e ∷ [])
legal_add most queue s [] e ok may = (may, tt)
legal_add most queue s (d ∷ h) e ok may = (ok.0, legal_add most queue (after_entry s d) h e ok.1 may)

pub state_append : (s : LimitState) (h more : List Entry) → state_from s (h ++ more) ≡ state_from (state_from s h) more
state_append s [] more = refl
state_append s (e ∷ h) more = state_append (after_entry s e) h more

pub legal_back : (most queue : ℕ) (s : LimitState) (h more : List Entry) → legal_from most queue s (h ++ more) → legal_from most queue (state_from s h) more
legal_back most queue s [] more ok = ok
legal_back most queue s (e ∷ h) more ok = legal_back most queue (after_entry s e) h more ok.1

pub legal_append : (most queue : ℕ) (s : LimitState) (h more : List Entry) → legal_from most queue s h → legal_from most queue (state_from s h) more → legal_from most queue s (h ++ more)
legal_append most queue s [] more ok rest = rest
legal_append most queue s (e ∷ h) more ok rest = (ok.0, legal_append most queue (after_entry s e) h more ok.1 rest)

-- refusals change nothing
abbrev pub is_refusal : Entry → Type 0
is_refusal d = deed_of d.call.what ≡ Stays_out

pub state_refusal : (s : LimitState) (e : Entry) → is_refusal e → after_entry s e ≡ s
state_refusal s e is = ap (λ d. done d (who_of e) s) is

pub state_refusals : (s : LimitState) (back : List Entry) → Each is_refusal back → state_from s back ≡ s
state_refusals s [] each = refl
state_refusals s (e ∷ back) each = ap (λ t. state_from t back) (state_refusal s e each.0) ∙ state_refusals s back each.1

-- an entry more: at the end, or a refusal before refusals
abbrev pub in_place : Entry → List Entry → Type 0
in_place e back = (back ≡ []) ⊎ (is_refusal e × Each is_refusal back)

pub state_insert : (front back : List Entry) (e : Entry) → in_place e back → state_after (front ++ e ∷ back) ≡ after_entry (state_after (front ++ back)) e
state_insert front back e (inl none) =
    ap (λ b. state_after (front ++ e ∷ b)) none ∙ state_add nobody front e ∙ ap (λ s. after_entry s e) (sym (state_append nobody front [])) ∙ ap (λ b. after_entry (state_after (front ++ b)) e) (sym none)
state_insert front back e (inr all) =
    state_append nobody front (e ∷ back) ∙ ap (λ s. state_from s back) (state_refusal (state_after front) e all.0) ∙ sym (state_append nobody front back) ∙ sym (state_refusal (state_after (front ++ back)) e all.0)

pub legal_insert : (most queue : ℕ) (front back : List Entry) (e : Entry) → in_place e back → legal (front ++ back) most queue → May most queue (state_after (front ++ back)) (who_of e) (deed_of e.call.what)
    → legal (front ++ e ∷ back) most queue
legal_insert most queue front back e (inl none) ok may =
    let before : state_after (front ++ back) ≡ state_after front = state_append nobody front back ∙ ap (state_from (state_after front)) none in
    subst (λ b. legal (front ++ e ∷ b) most queue) (sym none) (legal_add most queue nobody front e (legal_front most queue nobody front back ok) (subst (λ s. May most queue s (who_of e) (deed_of e.call.what)) before may))
legal_insert most queue front back e (inr all) ok may =
    let before : state_after (front ++ back) ≡ state_after front = state_append nobody front back ∙ state_refusals (state_after front) back all.1 in
    legal_append most queue nobody front (e ∷ back) (legal_front most queue nobody front back ok) (
      subst (λ s. May most queue s (who_of e) (deed_of e.call.what)) before may,
      subst (λ s. legal_from most queue s back) (sym (state_refusal (state_after front) e all.0)) (legal_back most queue nobody front back ok),
    )
