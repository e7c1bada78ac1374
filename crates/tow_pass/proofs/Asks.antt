-- What the calls ask of a limit and of a pass, as the steps need it.
use Rattle.std.proofs.Common.{◌≡◌, ℕ, zero, suc, ◌+◌, ◌<◌, ◌≤◌, true, List, [], ◌∷◌, ◌++◌, length, get_or, All, Some, slice_get, refl, ap, arith}
use Rattle.std.specs.List.{AllByRecursion as Each}
use Rattle.tow_model.specs.declared.account.Bound.{Bound}
use Rattle.tow_pass.specs.declared.view.View.{View}
use Rattle.tow_pass.specs.Calls.{Numbered, Holder, Nobody, Of_main, Of_connection, is_connection, last_asked}
use Rattle.tow_pass.specs.Views.{called}
use Rattle.tow_pass.specs.Shown.{most_at, FitWords, AreUpTo}
use Rattle.tow_pass.proofs.CallLists.{all_each, asked_up_to}

pub record Limit_at (bounds : List Bound) (l : ℕ) : Type 0 where
  pub bound : Bound
  pub is : slice_get bounds l ≡ Some bound
  pub most : most_at bounds l ≡ bound.most
  pub fits : bound.most ≤ 65535

limit_by : (bounds : List Bound) (l : ℕ) → l < length bounds → Each (λ b. b.most ≤ 65535) bounds → Limit_at bounds l
limit_by [] l lt fit = absurd (omega arith)
limit_by (b ∷ bs) zero lt fit = record { bound = b; is = refl; most = refl; fits = fit.0 }
limit_by (b ∷ bs) (suc l) lt fit = let it = limit_by bs l (omega arith) fit.1 in record { bound = it.bound; is = it.is; most = it.most; fits = it.fits }

pub limit_at : (bounds : List Bound) (l : ℕ) → l < length bounds → FitWords bounds → Limit_at bounds l
limit_at bounds l lt fit = limit_by bounds l lt (all_each (λ b. b.most ≤ 65535) bounds fit)

pub rises : (j : ℕ) (v : View) → AreUpTo j v → last_asked 0 v.calls ≤ j
rises j v up = asked_up_to 0 j v.calls (all_each (λ c. c.call.request ≤ j) v.calls up) (omega arith)

pub next_word : (l : ℕ) → l + 1 ≡ suc l
next_word l = omega arith

pub within : (words l : ℕ) (bounds : List Bound) → words ≡ suc (length bounds) → l < length bounds → l + 1 < words
within words l bounds is lt = omega (arith, is, lt)

pub most_read : (bounds : List Bound) (l : ℕ) (b : Bound) → l < length bounds → b ≡ get_or bounds l b → b.most ≡ most_at bounds l
most_read [] l b lt e = absurd (omega arith)
most_read (x ∷ bounds) zero b lt e = ap (λ (y : Bound). y.most) e
most_read (x ∷ bounds) (suc l) b lt e = most_read bounds l b (omega arith) e

pub holder_is : (h : Holder) → is_connection h ≡ true → (k : ℕ) × (h ≡ Of_connection k)
holder_is Nobody is = absurd (cc)
holder_is Of_main is = absurd (cc)
holder_is (Of_connection k) is = (k, refl)

pub all_add : {X : Type 0} (P : X → Type 0) (xs : List X) (x : X) → All P xs → P x → All P (xs ++ x ∷ [])
all_add P [] x all p zero d lt = p
all_add P [] x all p (suc k) d lt = absurd (omega arith)
all_add P (y ∷ xs) x all p zero d lt = all 0 d (omega arith)
all_add P (y ∷ xs) x all p (suc k) d lt = all_add P xs x (λ i e l. all (suc i) e (omega arith)) p k d (omega arith)

-- one call more, for a request that is not later
pub up_to_called : (j : ℕ) (v : View) (c : Numbered) → AreUpTo j v → c.call.request ≤ j → AreUpTo j (called v c)
up_to_called j v c up le = all_add (λ d. d.call.request ≤ j) v.calls c up le
