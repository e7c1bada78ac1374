-- What stands behind a scheme and an authority, as the target's place has it.
use Rattle.std.proofs.Common.{◌≡◌, ◌↔◌, Bool, true, false, length, take, IsTrue, Option, Some, None, MatchOption, if◌then◌else◌, refl, sym, ap, ◌∙◌}
use Rattle.std.proofs.lemmas.List.{length-map, take-map}
use Rattle.std.proofs.lemmas.Slice.Eq.{bytes_eq-Decides}
use Rattle.std.specs.Bool.{Decides}
use Rattle.std.specs.Char.{to_ascii_lowercase}
use Rattle.std.specs.Option.{option_copied}
use Rattle.std.specs.Str.{bytes_eq, str_to_ascii_lowercase}
use denote.Ref.{Bor}
use Rattle.tow_model.specs.Texts.{Text, begins_with}
use Rattle.tow_model.specs.Paths.{Place}

same_test : (r b : Bool) (P : Type 0) → (IsTrue r ↔ P) → Decides b P → r ≡ b
same_test true b P e d = sym (d.1 (e.0 refl))
same_test false true P e d = e.1 (d.0 refl)
same_test false false P e d = refl

-- a front in any case
pub front_is : (text part : Text) (r : Bool) → (IsTrue r ↔ (str_to_ascii_lowercase (take (length part) text) ≡ str_to_ascii_lowercase part))
    → r ≡ begins_with (str_to_ascii_lowercase part) (str_to_ascii_lowercase text)
front_is text part r test =
    let front : take (length (str_to_ascii_lowercase part)) (str_to_ascii_lowercase text) ≡ str_to_ascii_lowercase (take (length part) text) =
    ap (λ n. take n (str_to_ascii_lowercase text)) (length-map part to_ascii_lowercase) ∙ take-map to_ascii_lowercase (length part) text in
    same_test r _ (str_to_ascii_lowercase (take (length part) text) ≡ str_to_ascii_lowercase part) test
    (let d = bytes_eq-Decides (str_to_ascii_lowercase part) (str_to_ascii_lowercase (take (length part) text)) in
    (λ is. sym (d.0 (ap (λ k. bytes_eq (str_to_ascii_lowercase part) k) (sym front) ∙ is)), λ e. ap (λ k. bytes_eq (str_to_ascii_lowercase part) k) front ∙ d.1 (sym e)))

-- the first of two texts, under a function
abbrev first_of : (Text → Place) → Bool → Bool → Text → Text → Option Place
first_of f a b x y = if a then Some (f x) else (if b then Some (f y) else None)

pub first_is : (f : Text → Place) (a b : Bool) (x y t : Text) → Some t ≡ (if a then Some x else None) → first_of f a b x y ≡ Some (f t)
first_is f true b x y t e = let s : t ≡ x = cc in ap (λ k. Some (f k)) (sym s)
first_is f false b x y t e = absurd (cc)

pub second_is : (f : Text → Place) (a b : Bool) (x y : Text) (r : Option (Bor Text)) → None ≡ (if a then Some x else None) → option_copied r ≡ (if b then Some y else None)
    → MatchOption r (first_of f a b x y ≡ None) (λ t. first_of f a b x y ≡ Some (f t.now))
second_is f true b x y r e g = absurd (cc)
second_is f false true x y None e g = absurd (cc)
second_is f false true x y (Some t) e g = let s : t.now ≡ y = cc in ap (λ k. Some (f k)) (sym s)
second_is f false false x y None e g = refl
second_is f false false x y (Some t) e g = absurd (cc)
