-- Numbers with faults, and numbers that rise.
use Rattle.std.proofs.Common.{◌≡◌, ◌⊎◌, ℕ, suc, ◌<◌, ◌≤◌, ◌==◌, List, [], ◌∷◌, ◌++◌, Bool, true, false, refl, inl, inr, eq-eqb, arith}
use Rattle.std.specs.Prelude.{◌&&◌, ◌||◌, All}
use Rattle.tow_board.specs.Views.{is_told, told_newly, top_of}

pub told_more : (b c : Bool) (e : ℕ × ℕ) (es : List (ℕ × ℕ)) (m a : ℕ) → is_told m a es ≡ true → is_told m a (told_newly b c e es) ≡ true
told_more true true e es m a h = h
told_more true false e es m a h = h
told_more false false e es m a h = h
told_more false true e es m a h = or_true ((m == e.0) && (a == e.1)) (is_told m a es) h
  where
    or_true : (x y : Bool) → y ≡ true → x || y ≡ true
    or_true true y z = refl
    or_true false y z = z

-- what is told now was told before, or is told newly
pub told_now : (b c : Bool) (m a : ℕ) (es : List (ℕ × ℕ)) → c ≡ true → (b ≡ true) ⊎ (is_told m a (told_newly b c (m, a) es) ≡ true)
told_now true c m a es h = inl refl
told_now false true m a es h = inr (rw (eq-eqb m m refl) (rw (eq-eqb a a refl) refl))
told_now false false m a es h = absurd (cc)

or_on : (x y z : Bool) → (y ≡ true → z ≡ true) → x || y ≡ true → x || z ≡ true
or_on true y z on e = refl
or_on false y z on e = on e

or_second : (x y : Bool) → y ≡ true → x || y ≡ true
or_second true y e = refl
or_second false y e = e

pub told_first : (m a : ℕ) (es fs : List (ℕ × ℕ)) → is_told m a es ≡ true → is_told m a (es ++ fs) ≡ true
told_first m a [] fs h = absurd (cc)
told_first m a (e ∷ es) fs h = or_on ((m == e.0) && (a == e.1)) (is_told m a es) (is_told m a (es ++ fs)) (told_first m a es fs) h

pub told_second : (m a : ℕ) (es fs : List (ℕ × ℕ)) → is_told m a fs ≡ true → is_told m a (es ++ fs) ≡ true
told_second m a [] fs h = h
told_second m a (e ∷ es) fs h = or_second ((m == e.0) && (a == e.1)) (is_told m a (es ++ fs)) (told_second m a es fs h)

-- a number above all of them is not below their top
pub above_all : (ns : List ℕ) (m : ℕ) → All (λ n. n < m) ns → top_of ns ≤ m
above_all [] m h = omega arith
above_all (n ∷ ns) m h = let z = above_all ns m (λ k d lt. h (suc k) d (omega arith)) in let y : n < m = h 0 0 (omega arith) in omega arith

pub top_grows : (ns : List ℕ) (m : ℕ) → top_of ns ≤ top_of (m ∷ ns)
top_grows ns m = omega arith

pub top_new : (ns : List ℕ) (m : ℕ) → m < top_of (m ∷ ns)
top_new ns m = omega arith
