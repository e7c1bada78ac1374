-- One list of admissions and leavings, and refusals among them by number.
use Rattle.std.proofs.Common.{◌≡◌, ◌≢◌, ℕ, zero, suc, ◌+◌, ◌<◌, ◌≤◌, ◌==◌, Bool, true, false, cond, List, [], ◌∷◌, ◌++◌, length, take, refl, sym, ap, ◌∙◌, subst, eq-eqb, ne_eqb, arith}
use Rattle.std.proofs.lemmas.List.{append-nil, append_assoc}
use Rattle.std.proofs.Math.Seq.{take-append_seam}
use Rattle.std.specs.List.{AllByRecursion as Each}
use mathlib.Core.Logic.{dite}
use native.Mathlib.Decide.{dec_le}
use Rattle.tow_model.specs.declared.account.Bound.{Bound}
use Rattle.tow_model.specs.declared.account.Call.{Call}
use Rattle.tow_history.specs.declared.entry.Entry.{Entry}
use Rattle.tow_history.specs.Deed.{Deed, Comes, Waits, Stays_out, Goes, deed_of, queue_of}
use Rattle.tow_history.specs.Legal.{LimitState, nobody, May, who_of, after_entry, state_from, state_after, legal_from}
use Rattle.tow_history.specs.Histories.{of}
use Rattle.tow_history.proofs.Sound.{length_add, legal_append, state_add, state_refusals, is_refusal}
use Rattle.tow_pass.specs.Calls.{Numbered, was_refused, entries}
use Rattle.tow_pass.specs.Rule.{numbered, IsRight}
use Rattle.tow_pass.specs.Closing.{gather, sum_of, made_at, refused_at, by}
use Rattle.tow_pass.proofs.Gather.{sum_same, sum_add, sum_none, sum_one, one_for}

-- entry i, alone
abbrev pub one_at : ℕ → List Entry → List Entry
one_at i [] = []
one_at zero (e ∷ log) = e ∷ []
one_at (suc i) (e ∷ log) = one_at i log

abbrev pub woven : (ℕ → List Entry) → ℕ → List Entry → List Entry
woven refused n [] = refused n
woven refused n (e ∷ log) = refused n ++ e ∷ woven refused (suc n) log

pub gather_woven : (refused made : ℕ → List Entry) (n : ℕ) (log : List Entry) → ((i : ℕ) → made (n + i) ≡ one_at i log)
    → gather (λ q. refused q ++ made q) n (suc (length log)) ≡ woven refused n log
gather_woven refused made n [] are =
    let none : made n ≡ [] = ap made (let z : n ≡ n + 0 = omega arith in z) ∙ are 0 in
    append-nil (refused n ++ made n) ∙ ap (λ xs. refused n ++ xs) none ∙ append-nil (refused n)
gather_woven refused made n (e ∷ log) are =
    let here : made n ≡ e ∷ [] = ap made (let z : n ≡ n + 0 = omega arith in z) ∙ are 0 in
    ap (λ xs. (refused n ++ xs) ++ gather (λ q. refused q ++ made q) (suc n) (suc (length log))) here
    ∙ ap (λ xs. (refused n ++ e ∷ []) ++ xs) (gather_woven refused made (suc n) log (λ i. ap made (let z : suc n + i ≡ n + suc i = omega arith in z) ∙ are (suc i)))
    ∙ append_assoc (refused n) (e ∷ []) (woven refused (suc n) log)

-- a refusal that may stand where s is
abbrev pub MayRefuse : Bound → LimitState → Entry → Type 0
MayRefuse b s e = is_refusal e × May b.most (queue_of b) s (who_of e) (deed_of e.call.what)

refusals_legal : (b : Bound) (s : LimitState) (back : List Entry) → Each (MayRefuse b s) back → legal_from b.most (queue_of b) s back
refusals_legal b s [] each = tt
refusals_legal b s (e ∷ back) each = (each.0.1, subst (λ t. legal_from b.most (queue_of b) t back) (sym (state_refusals s (e ∷ []) (each.0.0, tt))) (refusals_legal b s back each.1))

only_refusals : (b : Bound) (s : LimitState) (back : List Entry) → Each (MayRefuse b s) back → Each is_refusal back
only_refusals b s [] each = tt
only_refusals b s (e ∷ back) each = (each.0.0, only_refusals b s back each.1)

pub legal_woven : (b : Bound) (refused : ℕ → List Entry) (whole : List Entry) → ((n : ℕ) → Each (MayRefuse b (state_after (take n whole))) (refused n))
    → (front log : List Entry) → front ++ log ≡ whole → legal_from b.most (queue_of b) (state_after front) log → legal_from b.most (queue_of b) (state_after front) (woven refused (length front) log)
legal_woven b refused whole right front [] is ok =
    let there : take (length front) whole ≡ front = ap (take (length front)) (sym is) ∙ take-append_seam front [] in
    refusals_legal b (state_after front) (refused (length front)) (subst (λ t. Each (MayRefuse b (state_after t)) (refused (length front))) there (right (length front)))
legal_woven b refused whole right front (e ∷ log) is ok =
    let there : take (length front) whole ≡ front = ap (take (length front)) (sym is) ∙ take-append_seam front (e ∷ log) in
    let each : Each (MayRefuse b (state_after front)) (refused (length front)) = subst (λ t. Each (MayRefuse b (state_after t)) (refused (length front))) there (right (length front)) in
    let same : state_from (state_after front) (refused (length front)) ≡ state_after front = state_refusals (state_after front) (refused (length front)) (only_refusals b (state_after front) (refused (length front)) each) in
    let next : state_after (front ++ e ∷ []) ≡ after_entry (state_after front) e = state_add nobody front e in
    let more : legal_from b.most (queue_of b) (state_after (front ++ e ∷ [])) (woven refused (length (front ++ e ∷ [])) log) =
    legal_woven b refused whole right (front ++ e ∷ []) log (append_assoc front (e ∷ []) log ∙ is) (subst (λ s. legal_from b.most (queue_of b) s log) (sym next) ok.1) in
    legal_append b.most (queue_of b) (state_after front) (refused (length front)) (e ∷ woven refused (suc (length front)) log) (refusals_legal b (state_after front) (refused (length front)) each)
    (subst (λ s. legal_from b.most (queue_of b) s (e ∷ woven refused (suc (length front)) log)) (sym same)
    (ok.0, subst (λ (t : LimitState × ℕ). legal_from b.most (queue_of b) t.0 (woven refused t.1 log)) (λ i. (next i, length_add front e i)) more))

-- the calls with a number, of those that are no refusals
abbrev pick : ℕ → List Numbered → List Call
pick n [] = []
pick n (c ∷ cs) = cond (c.number == n) (c.call ∷ pick n cs) (pick n cs)

made_picks : (n : ℕ) (cs : List Numbered) → made_at n cs ≡ pick n (entries cs)
made_picks n [] = refl
made_picks n (c ∷ cs) = step (was_refused c) (made_picks n cs) where
  step : (b : Bool) → made_at n cs ≡ pick n (entries cs) → cond b (made_at n cs) (cond (c.number == n) (c.call ∷ made_at n cs) (made_at n cs)) ≡ pick n (cond b (entries cs) (c ∷ entries cs))
  step true e = e
  step false e = ap (λ xs. cond (c.number == n) (c.call ∷ xs) xs) e

pick_step : (n m : ℕ) (b : Bool) (c : Call) (cs : List Numbered) → m ≢ n → pick n (cond b (record { number = m; call = c } ∷ cs) cs) ≡ pick n cs
pick_step n m true c cs ne = ap (λ u. cond u (c ∷ pick n cs) (pick n cs)) (ne_eqb m n ne)
pick_step n m false c cs ne = refl

pick_before : (n k m : ℕ) (log : List Entry) → n < m → pick n (numbered k m log) ≡ []
pick_before n k m [] lt = refl
pick_before n k m (e ∷ log) lt = pick_step n m (e.connection == k) e.call (numbered k (suc m) log) (λ z. absurd (omega arith)) ∙ pick_before n k (suc m) log (omega arith)

pick_here : (n m : ℕ) (b : Bool) (c : Call) (cs : List Numbered) → m ≡ n → pick n cs ≡ [] → pick n (cond b (record { number = m; call = c } ∷ cs) cs) ≡ cond b (c ∷ []) []
pick_here n m true c cs same none = ap (λ u. cond u (c ∷ pick n cs) (pick n cs)) (eq-eqb m n same) ∙ ap (λ xs. c ∷ xs) none
pick_here n m false c cs same none = none

pick_numbered : (k m i : ℕ) (log : List Entry) → pick (m + i) (numbered k m log) ≡ of (one_at i log) k
pick_numbered k m zero [] = refl
pick_numbered k m (suc i) [] = refl
pick_numbered k m zero (e ∷ log) = pick_here (m + 0) m (e.connection == k) e.call (numbered k (suc m) log) (omega arith) (pick_before (m + 0) k (suc m) log (omega arith))
pick_numbered k m (suc i) (e ∷ log) =
    pick_step (m + suc i) m (e.connection == k) e.call (numbered k (suc m) log) (λ z. absurd (omega arith))
    ∙ ap (λ (n : ℕ). pick n (numbered k (suc m) log)) (let z : m + suc i ≡ suc m + i = omega arith in z)
    ∙ pick_numbered k (suc m) i log

-- what connection k did with number n is what entry n has of it
pub made_is : (k n : ℕ) (cs : List Numbered) (log : List Entry) → entries cs ≡ numbered k 0 log → made_at n cs ≡ of (one_at n log) k
made_is k n cs log are = made_picks n cs ∙ ap (pick n) are ∙ ap (λ (m : ℕ). pick m (numbered k 0 log)) (let z : n ≡ 0 + n = omega arith in z) ∙ pick_numbered k 0 n log

tail_none : {A : Type 0} (b : Bool) (x : A) (xs : List A) → cond b (x ∷ xs) xs ≡ [] → xs ≡ []
tail_none true x xs e = absurd (cc)
tail_none false x xs e = e

head_none : {A : Type 0} (b : Bool) (x : A) (xs : List A) → cond b (x ∷ xs) xs ≡ [] → b ≡ true → ⊥
head_none true x xs e is = absurd (cc)
head_none false x xs e is = absurd (cc)

-- a connection without calls stands in no entry
pub all_below : (issued n : ℕ) (log : List Entry) → ((k : ℕ) → issued ≤ k → numbered k n log ≡ []) → Each (λ e. e.connection < issued) log
all_below issued n [] none = tt
all_below issued n (e ∷ log) none = (
  dite (dec_le issued e.connection)
      (λ le. absurd (head_none (e.connection == e.connection) (record { number = n; call = e.call }) (numbered e.connection (suc n) log) (none e.connection le) (eq-eqb e.connection e.connection refl)))
      (λ nle. omega (arith, nle)),
  all_below issued (suc n) log (λ k le. tail_none (e.connection == k) (record { number = n; call = e.call }) (numbered k (suc n) log) (none k le)),
)

pub one_below : (issued i : ℕ) (log : List Entry) → Each (λ e. e.connection < issued) log → Each (λ e. e.connection < issued) (one_at i log)
one_below issued zero [] each = tt
one_below issued (suc i) [] each = tt
one_below issued zero (e ∷ log) each = (each.0, tt)
one_below issued (suc i) (e ∷ log) each = one_below issued i log each.1

longer : {A : Type 0} (b : Bool) (x : A) (xs : List A) → length (cond b (x ∷ xs) xs) ≡ cond b 1 0 + length xs
longer true x xs = omega arith
longer false x xs = omega arith

-- each entry is of one connection
pub counts_all : (issued n : ℕ) (log : List Entry) → Each (λ e. e.connection < issued) log → sum_of (λ k. length (numbered k n log)) 0 issued ≡ length log
counts_all issued n [] each = sum_none (λ k. 0) 0 issued (λ i le. refl)
counts_all issued n (e ∷ log) each =
    let split = sum_same (λ k. length (numbered k n (e ∷ log))) (λ k. one_for e.connection k + length (numbered k (suc n) log)) 0 issued
    (λ k. longer (e.connection == k) (record { number = n; call = e.call }) (numbered k (suc n) log)) in
    let two = sum_add (one_for e.connection) (λ k. length (numbered k (suc n) log)) 0 issued in
    let one = sum_one e.connection 0 issued (omega arith) (let lt = each.0 in omega (arith, lt)) in
    let rest = counts_all issued (suc n) log each.1 in
    split ∙ two ∙ omega (arith, one, rest)

-- the refusals of a pass were right
refused_step : (b : Bound) (log : List Entry) (k n : ℕ) (c : Numbered) (rest : List Call) → IsRight b log k c → Each (MayRefuse b (state_after (take n log))) (by k rest)
    → (u w : Bool) → was_refused c ≡ u → (c.number == n) ≡ w → Each (MayRefuse b (state_after (take n log))) (by k (cond u (cond w (c.call ∷ rest) rest) rest))
refused_step b log k n c rest right each false w is at = each
refused_step b log k n c rest right each true false is at = each
refused_step b log k n c rest right each true true is at = (
  (
    out (deed_of c.call.what) is,
    subst (λ m. May b.most (queue_of b) (state_after (take m log)) (k, c.call.request) (deed_of c.call.what)) (same c.number n at) (right is).1,
  ),
  each,
) where
  same : (m n : ℕ) → (m == n) ≡ true → m ≡ n
  same m n e = grind (arith, e)

  out : (d : Deed) → Rattle.tow_pass.specs.Calls.is_refusal d ≡ true → d ≡ Stays_out
  out Comes e = absurd (cc)
  out (Waits t) e = absurd (cc)
  out Stays_out e = refl
  out Goes e = absurd (cc)

pub refused_right : (b : Bound) (log : List Entry) (k n : ℕ) (cs : List Numbered) → Each (IsRight b log k) cs → Each (MayRefuse b (state_after (take n log))) (by k (refused_at n cs))
refused_right b log k n [] each = tt
refused_right b log k n (c ∷ cs) each = refused_step b log k n c (refused_at n cs) each.0 (refused_right b log k n cs each.1) (was_refused c) (c.number == n) refl refl
