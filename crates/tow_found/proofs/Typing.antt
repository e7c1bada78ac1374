-- A content type is set if there is none.
use Rattle.std.proofs.Common.{◌≡◌, true, false, nat_lt, List, [], ◌∷◌, length, codes, ℕ, suc, refl, sym, ◌∙◌, arith}
use Rattle.std.proofs.lemmas.Bool.Decides.{nat_tests}
use Rattle.tow_model.specs.declared.request.Field.{Field}
use Rattle.tow_model.specs.Texts.{Text}
use Rattle.tow_model.specs.Fields.{has, set_to, values_of}
use Rattle.tow_semantics.specs.Pages.{typed}

above : (n : ℕ) → nat_lt 0 (suc n) ≡ true
above n = grind (arith, nat_tests)

by_values : (values : List Text) (set stay : List Field) → nat_lt 0 (length values) ≡ true → elim values [ [] ↦ set | _ ↦ stay ] ≡ stay
by_values [] set stay some = absurd (cc)
by_values (v ∷ values) set stay some = refl

by_none : (values : List Text) (set stay : List Field) → nat_lt 0 (length values) ≡ false → elim values [ [] ↦ set | _ ↦ stay ] ≡ set
by_none [] set stay none = refl
by_none (v ∷ values) set stay none = let wrong : true ≡ false = sym (above (length values)) ∙ none in cc

pub typed_stays : (value : Text) (fields : List Field) → has (codes "content-type") fields ≡ true → typed value fields ≡ fields
typed_stays value fields is = by_values (values_of (codes "content-type") fields) _ _ is

pub typed_sets : (value : Text) (fields : List Field) → has (codes "content-type") fields ≡ false → typed value fields ≡ set_to (codes "content-type") value fields
typed_sets value fields is = by_none (values_of (codes "content-type") fields) _ _ is
