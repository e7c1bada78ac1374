-- Content-Length lines that are not wrong.
use Rattle.std.proofs.Common.{◌≡◌, true, false, not, List, [], ◌∷◌, length, Some, codes, ◌∙◌, subst, arith}
use Rattle.std.specs.Char.{is_ascii_digit}
use Rattle.std.specs.List.{list_all}
use Rattle.tow_model.specs.declared.request.Field.{Field}
use Rattle.tow_model.specs.Texts.{Text, is_empty}
use Rattle.tow_model.specs.Fields.{values_of}
use Rattle.tow_message.specs.Heads.{has_wrong_length, is_no_length, is_number}
use Rattle.tow_model.proofs.Resolving.{neither}
use Rattle.tow_request.specs.Lines.{only}
use Rattle.tow_request.proofs.Deciding.{both, opposite_of}

only_is : (values : List Text) (value : Text) → Some value ≡ only values → values ≡ value ∷ []
only_is [] value is = absurd (cc)
only_is (v ∷ []) value is = cc
only_is (v ∷ w ∷ values) value is = absurd (cc)

-- the one length of a head whose lengths are right is a number
pub right_length : (fields : List Field) (value : Text) → Some value ≡ only (values_of (codes "content-length") fields) → has_wrong_length fields ≡ false
    → list_all is_ascii_digit value ≡ true
right_length fields value is right =
    let one : is_no_length (value ∷ []) ≡ false = subst (λ (v : List Text). is_no_length v ≡ false) (only_is _ value is) (neither _ _ right).0 in
    (both (not (is_empty value)) (list_all is_ascii_digit value) (opposite_of (is_number value) one)).1
