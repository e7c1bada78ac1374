-- Whether a list is empty, as its length tells.
use Rattle.std.proofs.Common.{◌≡◌, ℕ, Bool, true, false, ◌==◌, List, [], ◌∷◌, length, sym, ◌∙◌, arith}
use Rattle.std.proofs.lemmas.Bool.Decides.{nat_tests}
use Rattle.std.proofs.lemmas.List.{nil_from_length}

zero_is : (n : ℕ) → (n == 0) ≡ true → n ≡ 0
zero_is n is = grind (arith, nat_tests)

pub is_nothing : {A : Type 0} (xs : List A) (r : Bool) → r ≡ (length xs == 0) → r ≡ true → xs ≡ []
is_nothing xs r e holds = nil_from_length xs (zero_is (length xs) (sym e ∙ holds))

pub is_something : {A : Type 0} (xs : List A) (r : Bool) → r ≡ (length xs == 0) → r ≡ false → xs ≡ [] → ⊥
is_something [] r e fails is = cc
is_something (x ∷ xs) r e fails is = cc
