-- Lists that are joined by number.
use Rattle.std.proofs.Common.{◌≡◌, ◌≢◌, ℕ, zero, suc, ◌+◌, ◌<◌, ◌≤◌, ◌==◌, cond, List, [], ◌∷◌, ◌++◌, refl, sym, ap, ◌∙◌, eq-eqb, ne_eqb, arith}
use Rattle.std.proofs.lemmas.List.{append-nil}
use Rattle.std.specs.List.{AllByRecursion as Each}
use mathlib.Core.Logic.{dite}
use native.Mathlib.Decide.{ℕ_discrete}
use Rattle.tow_model.specs.declared.account.Call.{Call}
use Rattle.tow_history.specs.declared.entry.Entry.{Entry}
use Rattle.tow_history.specs.Histories.{of}
use Rattle.tow_history.proofs.Exchanges.{of_append}
use Rattle.tow_pass.specs.Closing.{gather, sum_of, by}

module _ {A : Type 0} where
  pub gather_none : (f : ℕ → List A) (n many : ℕ) → ((i : ℕ) → n ≤ i → i < n + many → f i ≡ []) → gather f n many ≡ []
  gather_none f n zero none = refl
  gather_none f n (suc many) none = ap (λ xs. xs ++ gather f (suc n) many) (none n (omega arith) (omega arith)) ∙ gather_none f (suc n) many (λ i le lt. none i (omega arith) (omega arith))

  pub gather_same : (f g : ℕ → List A) (n many : ℕ) → ((i : ℕ) → n ≤ i → f i ≡ g i) → gather f n many ≡ gather g n many
  gather_same f g n zero same = refl
  gather_same f g n (suc many) same = ap (λ xs. xs ++ gather f (suc n) many) (same n (omega arith)) ∙ ap (λ xs. g n ++ xs) (gather_same f g (suc n) many (λ i le. same i (omega arith)))

  pub each_join : (P : A → Type 0) (xs ys : List A) → Each P xs → Each P ys → Each P (xs ++ ys)
  each_join P [] ys p q = q
  each_join P (x ∷ xs) ys p q = (p.0, each_join P xs ys p.1 q)

  pub each_gather : (P : A → Type 0) (f : ℕ → List A) (n many : ℕ) → ((i : ℕ) → Each P (f i)) → Each P (gather f n many)
  each_gather P f n zero each = tt
  each_gather P f n (suc many) each = each_join P (f n) (gather f (suc n) many) (each n) (each_gather P f (suc n) many each)

pub of_gather : (f : ℕ → List Entry) (k n many : ℕ) → of (gather f n many) k ≡ gather (λ i. of (f i) k) n many
of_gather f k n zero = refl
of_gather f k n (suc many) = of_append (f n) (gather f (suc n) many) k ∙ ap (λ xs. of (f n) k ++ xs) (of_gather f k (suc n) many)

-- the entries of one connection are its own calls, and no other's
pub of_by : (k q : ℕ) (cs : List Call) → k ≡ q → of (by k cs) q ≡ cs
of_by k q [] e = refl
of_by k q (c ∷ cs) e = ap (λ b. cond b (c ∷ of (by k cs) q) (of (by k cs) q)) (eq-eqb k q e) ∙ ap (λ xs. c ∷ xs) (of_by k q cs e)

pub of_by_else : (k q : ℕ) (cs : List Call) → k ≢ q → of (by k cs) q ≡ []
of_by_else k q [] ne = refl
of_by_else k q (c ∷ cs) ne = ap (λ b. cond b (c ∷ of (by k cs) q) (of (by k cs) q)) (ne_eqb k q ne) ∙ of_by_else k q cs ne

pub of_others : (g : ℕ → List Call) (k n many : ℕ) → ((i : ℕ) → n ≤ i → i < n + many → i ≢ k) → of (gather (λ q. by q (g q)) n many) k ≡ []
of_others g k n many apart = of_gather (λ q. by q (g q)) k n many ∙ gather_none (λ i. of (by i (g i)) k) n many (λ i le lt. of_by_else i k (g i) (apart i le lt))

pub of_all : (g : ℕ → List Call) (k n many : ℕ) → n ≤ k → k < n + many → of (gather (λ q. by q (g q)) n many) k ≡ g k
of_all g k n zero le lt = absurd (omega arith)
of_all g k n (suc many) le lt = of_append (by n (g n)) (gather (λ q. by q (g q)) (suc n) many) k ∙ dite (ℕ_discrete n k)
    (λ same. ap (λ xs. xs ++ of (gather (λ q. by q (g q)) (suc n) many) k) (of_by n k (g n) same ∙ ap g same)
    ∙ ap (λ xs. g k ++ xs) (of_others g k (suc n) many (λ i le lt e. absurd (omega arith)))
    ∙ append-nil (g k))
    (λ ne. ap (λ xs. xs ++ of (gather (λ q. by q (g q)) (suc n) many) k) (of_by_else n k (g n) ne) ∙ of_all g k (suc n) many (omega (arith, le, ne)) (omega (arith, lt)))

-- one entry, found by its connection
pub gather_one : (e : Entry) (n many : ℕ) → n ≤ e.connection → e.connection < n + many → gather (λ k. by k (of (e ∷ []) k)) n many ≡ e ∷ []
gather_one e n zero le lt = absurd (omega arith)
gather_one e n (suc many) le lt = dite (ℕ_discrete n e.connection)
    (λ same. ap (λ b. by n (cond b (e.call ∷ []) []) ++ gather (λ k. by k (of (e ∷ []) k)) (suc n) many) (eq-eqb e.connection n (sym same))
    ∙ ap (λ xs. record { connection = n; call = e.call } ∷ xs) (gather_none (λ k. by k (of (e ∷ []) k)) (suc n) many (λ i le' lt'. ap (λ b. by i (cond b (e.call ∷ []) [])) (ne_eqb e.connection i (λ z. absurd (omega arith)))))
    ∙ ap (λ (m : ℕ). record { connection = m; call = e.call } ∷ []) same)
    (λ ne. ap (λ b. by n (cond b (e.call ∷ []) []) ++ gather (λ k. by k (of (e ∷ []) k)) (suc n) many) (ne_eqb e.connection n (λ z. ne (sym z))) ∙ gather_one e (suc n) many (omega (arith, le, ne)) (omega (arith, lt)))

pub sum_same : (f g : ℕ → ℕ) (n many : ℕ) → ((i : ℕ) → f i ≡ g i) → sum_of f n many ≡ sum_of g n many
sum_same f g n zero same = refl
sum_same f g n (suc many) same = let here = same n in let later = sum_same f g (suc n) many same in omega (arith, here, later)

pub sum_add : (f g : ℕ → ℕ) (n many : ℕ) → sum_of (λ i. f i + g i) n many ≡ sum_of f n many + sum_of g n many
sum_add f g n zero = omega arith
sum_add f g n (suc many) = let later = sum_add f g (suc n) many in omega (arith, later)

pub sum_none : (f : ℕ → ℕ) (n many : ℕ) → ((i : ℕ) → n ≤ i → f i ≡ 0) → sum_of f n many ≡ 0
sum_none f n zero none = refl
sum_none f n (suc many) none = let here = none n (omega arith) in let later = sum_none f (suc n) many (λ i le. none i (omega arith)) in omega (arith, here, later)

-- one of them
abbrev pub one_for : ℕ → ℕ → ℕ
one_for k i = cond (k == i) 1 0

pub sum_one : (k n many : ℕ) → n ≤ k → k < n + many → sum_of (one_for k) n many ≡ 1
sum_one k n zero le lt = absurd (omega arith)
sum_one k n (suc many) le lt = dite (ℕ_discrete n k)
    (λ same. let here : one_for k n ≡ 1 = ap (λ b. cond b 1 0) (eq-eqb k n (sym same)) in
    let later : sum_of (one_for k) (suc n) many ≡ 0 = sum_none (one_for k) (suc n) many (λ i le'. ap (λ b. cond b 1 0) (ne_eqb k i (λ z. absurd (omega arith)))) in omega (arith, here, later))
    (λ ne. let here : one_for k n ≡ 0 = ap (λ b. cond b 1 0) (ne_eqb k n (λ z. ne (sym z))) in let later = sum_one k (suc n) many (omega (arith, le, ne)) (omega (arith, lt)) in omega (arith, here, later))
