-- The names of fields.
use Rattle.std.specs.Prelude.{◌≡◌, ℕ, suc, Bool, true, false, ◌&&◌, List, [], ◌∷◌, length, nat_lt, nat_le, Some, None, if◌then◌else◌}
use Rattle.std.specs.List.{list_all}
use Rattle.std.proofs.Common.{refl, sym, ◌∙◌, ap, ap₂, arith, rules}
use Rattle.http_header.specs.Token.{token_test, is_token_byte, AllPass, lowercase}
use Rattle.http_header.specs.FieldName.{IsFieldName, is_field_name}
use Rattle.http_header.proofs.TokenLemmas.{IsFieldName-from_test}
use Rattle.tow_language.specs.Templates.{field_named}

all_tokens : (bytes : List ℕ) → AllPass is_token_byte bytes → list_all token_test bytes ≡ true
unfolding is_token_byte
all_tokens [] h = refl
all_tokens (b ∷ bytes) h = ap₂ (λ s t. s && t) (h 0 0 (omega arith)) (all_tokens bytes (λ k d lt. h (suc k) d (omega (arith, lt))))

to_test : (bytes : List ℕ) → IsFieldName bytes → is_field_name bytes ≡ true
to_test bytes h =
    let some : nat_lt 0 (length bytes) ≡ true = let lt = h.0.0 in search rules in
    let short : nat_le (length bytes) 65535 ≡ true = let le = h.1 in search rules in
    ap₂ (λ s t. s && t) (ap₂ (λ s t. s && t) some (all_tokens bytes h.0.1)) short

pub is_named : (bytes : List ℕ) → ((IsFieldName bytes → ⊥) → ⊥) → field_named bytes ≡ Some (lowercase bytes)
is_named bytes h = by_test (is_field_name bytes) refl
  where
    by_test : (t : Bool) → is_field_name bytes ≡ t → field_named bytes ≡ Some (lowercase bytes)
    by_test true e = ap (λ t. if t then Some (lowercase bytes) else None) e
    by_test false e = absurd (h (λ name. let f : true ≡ false = sym (to_test bytes name) ∙ e in cc))

pub is_not_named : (bytes : List ℕ) → (IsFieldName bytes → ⊥) → field_named bytes ≡ None
is_not_named bytes h = by_test (is_field_name bytes) refl
  where
    by_test : (t : Bool) → is_field_name bytes ≡ t → field_named bytes ≡ None
    by_test true e = absurd (h (IsFieldName-from_test bytes e))
    by_test false e = ap (λ t. if t then Some (lowercase bytes) else None) e
