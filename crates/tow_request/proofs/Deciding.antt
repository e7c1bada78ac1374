-- Tests by their answers.
use Rattle.std.proofs.Common.{◌≡◌, ◌↔◌, Bool, true, false, not, ◌&&◌, ◌==◌, IsTrue, [], ◌∷◌, length, refl, sym}
use Rattle.std.proofs.lemmas.Slice.Eq.{bytes_eq-Decides}
use Rattle.std.specs.Bool.{Decides}
use Rattle.std.specs.Str.{bytes_eq}
use Rattle.tow_model.specs.Texts.{Text, is_empty}

same_test : (r b : Bool) (P : Type 0) → (IsTrue r ↔ P) → Decides b P → r ≡ b
same_test true b P e d = sym (d.1 (e.0 refl))
same_test false true P e d = e.1 (d.0 refl)
same_test false false P e d = refl

-- the test whether two texts are equal
pub equal_is : (r : Bool) (a b : Text) → (IsTrue r ↔ (a ≡ b)) → r ≡ bytes_eq a b
equal_is r a b test = same_test r (bytes_eq a b) (a ≡ b) test (bytes_eq-Decides a b)

pub equal_back : (r : Bool) (a b : Text) → (IsTrue r ↔ (b ≡ a)) → r ≡ bytes_eq a b
equal_back r a b test = equal_is r a b (λ is. sym (test.0 is), λ same. test.1 (sym same))

pub filled : (text : Text) → (length text == 0) ≡ false → is_empty text ≡ false
filled [] is = is
filled (b ∷ text) is = refl

pub both : (a b : Bool) → (a && b) ≡ true → (a ≡ true) × (b ≡ true)
both true b is = (refl, is)
both false b is = absurd (cc)

pub opposite_of : (a : Bool) → not a ≡ false → a ≡ true
opposite_of true is = refl
opposite_of false is = absurd (cc)
