-- Whether some field has a name.
use Rattle.std.proofs.Common.{◌≡◌, ℕ, suc, Bool, true, false, ◌||◌, nat_lt, cond, List, [], ◌∷◌, length, map, filter, refl, arith}
use Rattle.std.proofs.lemmas.Bool.Decides.{nat_tests}
use Rattle.std.specs.List.{list_any}
use Rattle.tow_model.specs.declared.request.Field.{Field}
use Rattle.tow_model.specs.Fields.{has, is_named}
use Rattle.tow_model.specs.Texts.{Text}

above : (n : ℕ) → true ≡ nat_lt 0 (suc n)
above n = grind (arith, nat_tests)

pub some_named : (name : Text) (fields : List Field) → list_any (is_named name) fields ≡ has name fields
some_named name [] = refl
some_named name (f ∷ fields) = by_test (is_named name f) (some_named name fields)
  where
    by_test : (t : Bool) → list_any (is_named name) fields ≡ has name fields
        → (t || list_any (is_named name) fields)
        ≡ nat_lt 0 (length (map (λ (g : Field). g.value) (cond t (f ∷ filter (is_named name) fields) (filter (is_named name) fields))))
    by_test true e = above _
    by_test false e = e
