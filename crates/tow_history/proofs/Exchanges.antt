-- How often an exchange stands inside and in the line: as often as it entered, less its leavings.
use Rattle.std.proofs.Common.{◌≡◌, ℕ, suc, ◌+◌, ◌<◌, ◌==◌, Bool, true, false, cond, Option, Some, None, List, [], ◌∷◌, ◌++◌, refl, sym, ◌∙◌, ap, subst, arith}
use Rattle.tow_history.specs.declared.entry.Entry.{Entry}
use Rattle.tow_model.specs.declared.account.Call.{Call}
use Rattle.tow_history.specs.Deed.{Deed, Comes, Waits, Stays_out, Goes, deed_of}
use Rattle.tow_history.specs.Legal.{Who, same_who, times, take_out, LimitState, waiting, let_in, without_first, done, May, who_of, after_entry, state_from, legal_from}
use Rattle.tow_history.specs.Histories.{of, verdict_in, verdicts, calls_at, entries_at, entering, leaving, enterings, leavings}
use Rattle.tow_model.specs.declared.account.Verdict.{Verdict}
use Rattle.std.specs.List.{cons_option}

-- once or not at all
abbrev pub one_if : Bool → ℕ
one_if b = cond b 1 0

pub times_add : (w v : Who) (xs : List Who) → times w (xs ++ v ∷ []) ≡ times w xs + one_if (same_who w v)
times_add w v [] = one_more (same_who w v) where
  one_more : (b : Bool) → cond b 1 0 ≡ 0 + one_if b
  one_more true = refl
  one_more false = refl
times_add w v (x ∷ xs) = cases (same_who w x) (times w (xs ++ v ∷ [])) (times w xs) (one_if (same_who w v)) (times_add w v xs) where
  cases : (b : Bool) (m n i : ℕ) → m ≡ n + i → cond b (suc m) m ≡ cond b (suc n) n + i
  cases true m n i e = omega arith
  cases false m n i e = e

same_is : (m n : ℕ) → (m == n) ≡ true → m ≡ n
same_is m n h = grind (arith, h)

pub same_who_is : (w v : Who) → same_who w v ≡ true → w ≡ v
same_who_is w v h = grind (arith, h)

times_less : (b c : Bool) (m n i : ℕ) → m + i ≡ n → cond c (suc m) m + i ≡ cond c (suc n) n
times_less b true m n i e = omega arith
times_less b false m n i e = e

times_out_step : (w v x : Who) (xs us : List Who) (b : Bool) → same_who v x ≡ b → (0 < times v xs → times w us + one_if (same_who w v) ≡ times w xs) → 0 < cond b (suc (times v xs)) (times v xs)
    → times w (cond b xs (x ∷ us)) + one_if (same_who w v) ≡ times w (x ∷ xs)
times_out_step w v x xs us true is less h = subst (λ u. times w xs + one_if (same_who w u) ≡ times w (x ∷ xs)) (sym (same_who_is v x is)) (here (same_who w x) (times w xs)) where
  here : (b : Bool) (n : ℕ) → n + one_if b ≡ cond b (suc n) n
  here true n = omega arith
  here false n = omega arith
times_out_step w v x xs us false is less h = times_less false (same_who w x) (times w us) (times w xs) (one_if (same_who w v)) (less h)

pub times_out : (w v : Who) (xs : List Who) → 0 < times v xs → times w (take_out v xs) + one_if (same_who w v) ≡ times w xs
times_out w v [] h = omega (arith, h)
times_out w v (x ∷ xs) h = times_out_step w v x xs (take_out v xs) (same_who v x) refl (times_out w v xs) h

waiting_add : (line : List (Who × ℕ)) (p : Who × ℕ) → waiting (line ++ p ∷ []) ≡ waiting line ++ p.0 ∷ []
waiting_add [] p = refl
waiting_add (q ∷ line) p = ap (λ vs. q.0 ∷ vs) (waiting_add line p)

-- how often it stands inside or in the line
abbrev pub present : Who → LimitState → ℕ
present w s = times w s.inside + times w (waiting s.line)

present_goes : (w v : Who) (inside : List Who) (line : List (Who × ℕ)) → 0 < times v inside
    → times w (let_in line (take_out v inside)) + times w (waiting (without_first line)) + one_if (same_who w v) ≡ times w inside + times w (waiting line)
present_goes w v inside [] h = let out : times w (take_out v inside) + one_if (same_who w v) ≡ times w inside = times_out w v inside h in omega arith
present_goes w v inside (p ∷ line) h =
    let out : times w (take_out v inside) + one_if (same_who w v) ≡ times w inside = times_out w v inside h in
    let add : times w (take_out v inside ++ p.0 ∷ []) ≡ times w (take_out v inside) + one_if (same_who w p.0) = times_add w p.0 (take_out v inside) in
    first_in (same_who w p.0) (times w (waiting line)) (times w (take_out v inside ++ p.0 ∷ [])) (times w (take_out v inside)) (one_if (same_who w v)) (times w inside) out add where
      first_in : (b : Bool) (n m t i u : ℕ) → t + i ≡ u → m ≡ t + one_if b → m + n + i ≡ u + cond b (suc n) n
      first_in true n m t i u e f = omega arith
      first_in false n m t i u e f = omega arith

present_step : (most queue : ℕ) (w v : Who) (d : Deed) (s : LimitState) → May most queue s v d
    → present w s + cond (same_who w v) (entering d) 0 ≡ present w (done d v s) + cond (same_who w v) (leaving d) 0
present_step most queue w v Comes s may = let add : times w (s.inside ++ v ∷ []) ≡ times w s.inside + one_if (same_who w v) = times_add w v s.inside in comes (same_who w v) (times w s.inside) (times w (s.inside ++ v ∷ [])) (times w (waiting s.line)) add where
  comes : (b : Bool) (m n l : ℕ) → n ≡ m + one_if b → m + l + cond b 1 0 ≡ n + l + cond b 0 0
  comes true m n l e = omega arith
  comes false m n l e = omega arith
present_step most queue w v (Waits t) s may =
    let add : times w (waiting (s.line ++ (v, t) ∷ [])) ≡ times w (waiting s.line) + one_if (same_who w v) = ap (times w) (waiting_add s.line (v, t)) ∙ times_add w v (waiting s.line) in
    waits (same_who w v) (times w (waiting s.line)) (times w (waiting (s.line ++ (v, t) ∷ []))) (times w s.inside) add where
      waits : (b : Bool) (m n i : ℕ) → n ≡ m + one_if b → i + m + cond b 1 0 ≡ i + n + cond b 0 0
      waits true m n i e = omega arith
      waits false m n i e = omega arith
present_step most queue w v Stays_out s may = stays (same_who w v) (present w s) where
  stays : (b : Bool) (n : ℕ) → n + cond b 0 0 ≡ n + cond b 0 0
  stays b n = refl
present_step most queue w v Goes s may = let out = present_goes w v s.inside s.line may in goes (same_who w v) (present w s) (present w (done Goes v s)) out where
  goes : (b : Bool) (n m : ℕ) → m + one_if b ≡ n → n + cond b 0 0 ≡ m + cond b 1 0
  goes true n m e = omega arith
  goes false n m e = omega arith

sum_step : (b : Bool) (x y z i j m n : ℕ) → x + cond b i 0 ≡ y + cond b j 0 → y + m ≡ z + n → x + cond b (i + m) m ≡ z + cond b (j + n) n
sum_step true x y z i j m n e f = omega arith
sum_step false x y z i j m n e f = omega arith

-- an exchange is inside or waits as often as it entered, less its leavings
pub present_from : (most queue : ℕ) (w : Who) (s : LimitState) (h : List Entry) → legal_from most queue s h
    → present w s + enterings w h ≡ present w (state_from s h) + leavings w h
present_from most queue w s [] ok = refl
present_from most queue w s (e ∷ h) ok =
    sum_step (same_who w (who_of e)) (present w s) (present w (after_entry s e)) (present w (state_from (after_entry s e) h)) (entering (deed_of e.call.what)) (leaving (deed_of e.call.what)) (enterings w h) (leavings w h)
    (present_step most queue w (who_of e) (deed_of e.call.what) s ok.0) (present_from most queue w (after_entry s e) h ok.1)

-- the calls of one connection
of_step : (b : Bool) (c : Call) (xs ys : List Call) → cond b (c ∷ (xs ++ ys)) (xs ++ ys) ≡ cond b (c ∷ xs) xs ++ ys
of_step true c xs ys = refl
of_step false c xs ys = refl

pub of_append : (h g : List Entry) (k : ℕ) → of (h ++ g) k ≡ of h k ++ of g k
of_append [] g k = refl
of_append (e ∷ h) g k = ap (λ xs. cond (e.connection == k) (e.call ∷ xs) xs) (of_append h g k) ∙ of_step (e.connection == k) e.call (of h k) (of g k)

at_step : (b c : Bool) (e : Entry) (k l : ℕ) (h : List Entry) → (e.connection == k) ≡ b → (e.call.limit == l) ≡ c
    → calls_at l (cond b (e.call ∷ of h k) (of h k)) ≡ cond b (cond c (e.call ∷ calls_at l (of h k)) (calls_at l (of h k))) (calls_at l (of h k))
at_step true c e k l h p q = ap (λ d. cond d (e.call ∷ calls_at l (of h k)) (calls_at l (of h k))) q
at_step false c e k l h p q = refl

of_at_step : (b c : Bool) (e : Entry) (k l : ℕ) (h : List Entry) → (e.connection == k) ≡ b → (e.call.limit == l) ≡ c
    → of (cond c (e ∷ h) h) k ≡ cond c (cond b (e.call ∷ of h k) (of h k)) (of h k)
of_at_step b true e k l h p q = ap (λ d. cond d (e.call ∷ of h k) (of h k)) p
of_at_step b false e k l h p q = refl

swap_cond : (b c : Bool) (x : Call) (xs : List Call) → cond b (cond c (x ∷ xs) xs) xs ≡ cond c (cond b (x ∷ xs) xs) xs
swap_cond true true x xs = refl
swap_cond true false x xs = refl
swap_cond false true x xs = refl
swap_cond false false x xs = refl

-- a connection's calls of one limit are its calls in the entries of that limit
pub of_entries_at : (l : ℕ) (h : List Entry) (k : ℕ) → calls_at l (of h k) ≡ of (entries_at l h) k
of_entries_at l [] k = refl
of_entries_at l (e ∷ h) k =
    let more : calls_at l (of h k) ≡ of (entries_at l h) k = of_entries_at l h k in
    at_step (e.connection == k) (e.call.limit == l) e k l h refl refl
    ∙ swap_cond (e.connection == k) (e.call.limit == l) e.call (calls_at l (of h k))
    ∙ ap (λ xs. cond (e.call.limit == l) (cond (e.connection == k) (e.call ∷ xs) xs) xs) more
    ∙ sym (of_at_step (e.connection == k) (e.call.limit == l) e k l (entries_at l h) refl refl)

verdict_step : (v : Option Verdict) (xs ys : List Verdict) → cons_option v (xs ++ ys) ≡ cons_option v xs ++ ys
verdict_step None xs ys = refl
verdict_step (Some v) xs ys = refl

pub verdicts_append : (xs ys : List Call) → verdicts (xs ++ ys) ≡ verdicts xs ++ verdicts ys
verdicts_append [] ys = refl
verdicts_append (c ∷ xs) ys = ap (cons_option (verdict_in c.what)) (verdicts_append xs ys) ∙ verdict_step (verdict_in c.what) (verdicts xs) (verdicts ys)
