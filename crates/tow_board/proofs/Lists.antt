-- Lists looked up at a place or by a key, and maps changed at one place.
use Rattle.std.proofs.Common.{◌≡◌, ◌≢◌, ◌⊎◌, ℕ, zero, suc, ◌<◌, ◌==◌, List, [], ◌∷◌, ◌++◌, map, length, get_or, Some, Option, Bool, true, false, true≢false, cond, refl, sym, ap, ◌∙◌, subst, inl, inr, ⊎_elim, eq-eqb, ne_eqb, arith}
use Rattle.std.specs.Prelude.{is_some}
use mathlib.Core.Option.{some, some-ne-none, some-injective}
use mathlib.Core.Logic.{dite}
use native.Mathlib.Decide.{ℕ_discrete}
use lib.ListN.{get_elem?, replicate}
use Rattle.tow_board.specs.Finds.{find, has, without}

module _ {A : Type 0} where
  -- a map, changed at one place
  pub put : (ℕ → A) → ℕ → A → ℕ → A
  put f k p q = cond (q == k) p (f q)

  pub put_here : (f : ℕ → A) (k : ℕ) (p : A) → put f k p k ≡ p
  unfolding put
  put_here f k p = rw (eq-eqb k k refl) refl

  pub put_else : (f : ℕ → A) (k : ℕ) (p : A) (q : ℕ) → q ≢ k → put f k p q ≡ f q
  unfolding put
  put_else f k p q n = rw (ne_eqb q k n) refl

  pub put_same_key : (f : ℕ → A) (k : ℕ) (p : A) (q : ℕ) → q ≡ k → put f k p q ≡ p
  put_same_key f k p q e = subst (λ i. put f k p i ≡ p) (sym e) (put_here f k p)

  pub at_put : (f : ℕ → A) (k : ℕ) (p : A) (q : ℕ) (F : A → Type 0) → (q ≡ k → F p) → (q ≢ k → F (f q)) → F (put f k p q)
  at_put f k p q F hit miss = dite (ℕ_discrete q k) (λ e. subst F (sym (put_same_key f k p q e)) (hit e)) (λ n. subst F (sym (put_else f k p q n)) (miss n))

  pub at_lt : (l : List A) (i : ℕ) (a : A) → get_elem? l i ≡ some a → i < length l
  at_lt [] i a e = absurd (some-ne-none a (sym e))
  at_lt (x ∷ xs) zero a e = omega arith
  at_lt (x ∷ xs) (suc i) a e = let h = at_lt xs i a e in omega arith

  pub get_there : (l : List A) (i : ℕ) → i < length l → (a : A) × (get_elem? l i ≡ some a)
  get_there [] i h = absurd (omega arith)
  get_there (x ∷ xs) zero h = (x, refl)
  get_there (x ∷ xs) (suc i) h = get_there xs i (omega arith)

  pub at_end : (l : List A) (a b : A) (j : ℕ) → get_elem? (l ++ a ∷ []) j ≡ some b → (get_elem? l j ≡ some b) ⊎ ((j ≡ length l) × (a ≡ b))
  at_end [] a b zero e = inr (refl, some-injective a b e)
  at_end [] a b (suc j) e = absurd (some-ne-none b (sym e))
  at_end (x ∷ xs) a b zero e = inl e
  at_end (x ∷ xs) a b (suc j) e = ⊎_elim (λ h. inl h) (λ (h : (j ≡ length xs) × (a ≡ b)). inr (ap suc h.0, h.1)) (at_end xs a b j e)

  -- what stood in a list stands there still, after one more was put behind it
  pub before_end : (l : List A) (a b : A) (j : ℕ) → get_elem? l j ≡ some b → get_elem? (l ++ a ∷ []) j ≡ some b
  before_end [] a b j e = absurd (some-ne-none b (sym e))
  before_end (x ∷ xs) a b zero e = e
  before_end (x ∷ xs) a b (suc j) e = before_end xs a b j e

  pub last_end : (l : List A) (a : A) → get_elem? (l ++ a ∷ []) (length l) ≡ some a
  last_end [] a = refl
  last_end (x ∷ xs) a = last_end xs a

  pub at_vacant : (n : ℕ) (a : A) (k : ℕ) → k < n → get_elem? (map some (replicate n a)) k ≡ some (some a)
  at_vacant zero a k h = absurd (omega arith)
  at_vacant (suc n) a zero h = refl
  at_vacant (suc n) a (suc k) h = at_vacant n a k (omega arith)

pub at_get : (l : List ℕ) (i : ℕ) → i < length l → get_elem? l i ≡ some (get_or l i 0)
at_get [] i h = absurd (omega arith)
at_get (x ∷ xs) zero h = refl
at_get (x ∷ xs) (suc i) h = at_get xs i (omega arith)

module _ {X : Type 0} where
  pub find_new : (k : ℕ) (x : X) (es : List (ℕ × X)) → find k ((k, x) ∷ es) ≡ Some x
  find_new k x es = rw (eq-eqb k k refl) refl

  pub found_new : (k : ℕ) (x y : X) (es : List (ℕ × X)) → find k ((k, x) ∷ es) ≡ Some y → x ≡ y
  found_new k x y es h = let z : Some x ≡ Some y = sym (find_new k x es) ∙ h in cc

  pub find_old : (k q : ℕ) (x : X) (es : List (ℕ × X)) → q ≢ k → find q ((k, x) ∷ es) ≡ find q es
  find_old k q x es n = rw (ne_eqb q k n) refl

  pub find_without : (k q : ℕ) (es : List (ℕ × X)) → q ≢ k → find q (without k es) ≡ find q es
  find_without k q [] n = refl
  find_without k q (e ∷ es) n =
      dite (ℕ_discrete k e.0)
      (λ same. rw (eq-eqb k e.0 same) (rw (ne_eqb q e.0 (λ z. n (z ∙ sym same))) (find_without k q es n)))
      (λ apart. rw (ne_eqb k e.0 apart) (dite (ℕ_discrete q e.0) (λ same. rw (eq-eqb q e.0 same) refl) (λ ne. rw (ne_eqb q e.0 ne) (find_without k q es n))))

  pub has_new : (k : ℕ) (x : X) (es : List (ℕ × X)) → has k ((k, x) ∷ es) ≡ true
  has_new k x es = ap (λ (o : Option X). is_some o) (find_new k x es)

  pub has_old : (k q : ℕ) (x : X) (es : List (ℕ × X)) → q ≢ k → has q ((k, x) ∷ es) ≡ has q es
  has_old k q x es n = ap (λ (o : Option X). is_some o) (find_old k q x es n)

  pub has_else : (k q : ℕ) (es : List (ℕ × X)) → q ≢ k → has q (without k es) ≡ has q es
  has_else k q es n = ap (λ (o : Option X). is_some o) (find_without k q es n)

  pub has_gone : (k : ℕ) (es : List (ℕ × X)) → has k (without k es) ≡ false
  has_gone k [] = refl
  has_gone k (e ∷ es) =
      dite (ℕ_discrete k e.0)
      (λ same. rw (eq-eqb k e.0 same) (has_gone k es))
      (λ apart. rw (ne_eqb k e.0 apart) (rw (ne_eqb k e.0 apart) (has_gone k es)))

  pub find_gone : (k : ℕ) (x : X) (es : List (ℕ × X)) → find k (without k es) ≡ Some x → ⊥
  find_gone k x es h = true≢false (sym (ap (λ (o : Option X). is_some o) h) ∙ has_gone k es)

  pub has_found : (k : ℕ) (x : X) (es : List (ℕ × X)) → find k es ≡ Some x → has k es ≡ true
  has_found k x es h = ap (λ (o : Option X). is_some o) h

  pub found_has : (k : ℕ) (es : List (ℕ × X)) → has k es ≡ true → (x : X) × (find k es ≡ Some x)
  found_has k [] h = absurd (cc)
  found_has k (e ∷ es) h =
      dite (ℕ_discrete k e.0)
      (λ same. (e.1, rw (eq-eqb k e.0 same) refl))
      (λ apart. let it = found_has k es (rw (ne_eqb k e.0 apart) at h) in (it.0, rw (ne_eqb k e.0 apart) it.1))

  pub has_kept_on : (k q : ℕ) (x : X) (es : List (ℕ × X)) → has q es ≡ true → has q ((k, x) ∷ es) ≡ true
  has_kept_on k q x es h = dite (ℕ_discrete q k) (λ e. subst (λ (i : ℕ). has i ((k, x) ∷ es) ≡ true) (sym e) (has_new k x es)) (λ n. has_old k q x es n ∙ h)

  -- joined lists
  pub found_joined : (k : ℕ) (x : X) (es fs : List (ℕ × X)) → find k (es ++ fs) ≡ Some x → (find k es ≡ Some x) ⊎ (find k fs ≡ Some x)
  found_joined k x [] fs h = inr h
  found_joined k x (e ∷ es) fs h =
      dite (ℕ_discrete k e.0)
      (λ same. inl (rw (eq-eqb k e.0 same) (rw (eq-eqb k e.0 same) at h)))
      (λ apart. ⊎_elim (λ z. inl (rw (ne_eqb k e.0 apart) z)) (λ z. inr z) (found_joined k x es fs (rw (ne_eqb k e.0 apart) at h)))

  pub has_first : (k : ℕ) (es fs : List (ℕ × X)) → has k es ≡ true → has k (es ++ fs) ≡ true
  has_first k [] fs h = absurd (cc)
  has_first k (e ∷ es) fs h =
      dite (ℕ_discrete k e.0)
      (λ same. rw (eq-eqb k e.0 same) refl)
      (λ apart. rw (ne_eqb k e.0 apart) (has_first k es fs (rw (ne_eqb k e.0 apart) at h)))

  pub has_second : (k : ℕ) (es fs : List (ℕ × X)) → has k fs ≡ true → has k (es ++ fs) ≡ true
  has_second k [] fs h = h
  has_second k (e ∷ es) fs h =
      dite (ℕ_discrete k e.0)
      (λ same. rw (eq-eqb k e.0 same) refl)
      (λ apart. rw (ne_eqb k e.0 apart) (has_second k es fs h))

pub not_has : (b : Bool) → (b ≡ true → ⊥) → b ≡ false
not_has true n = absurd (n refl)
not_has false n = refl
