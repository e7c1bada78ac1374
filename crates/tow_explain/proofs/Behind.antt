-- What follows some line ends.
use Rattle.std.proofs.Common.{ℕ, zero, suc, ◌≡◌, ◌<◌, ◌-◌, List, [], None, Some, refl, arith}
use Rattle.tow_model.specs.Texts.{after}
use Rattle.tow_explain.specs.Lines.{after_lines}

lines-nil : (n : ℕ) → after_lines n [] ≡ []
lines-nil zero = refl
lines-nil (suc n) = lines-nil n

-- without a line end nothing follows one
pub lines-none : (n : ℕ) (text : List ℕ) → 0 < n → after 10 text ≡ None → after_lines n text ≡ []
lines-none zero text some none = absurd (omega arith)
lines-none (suc n) text some none = rw none (lines-nil n)

-- what follows some line ends follows all but one of them in what follows the first
pub lines-some : (n : ℕ) (text more : List ℕ) → 0 < n → after 10 text ≡ Some more → after_lines n text ≡ after_lines (n - 1) more
lines-some zero text more some is = absurd (omega arith)
lines-some (suc n) text more some is = let e : suc n - 1 ≡ n = omega arith in rw is (rw e refl)
