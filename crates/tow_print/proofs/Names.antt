-- Attributes that may be written, the names of fields and methods are read from what they are printed as.
use Rattle.std.specs.Prelude.{◌≡◌, ℕ, Bool, true, false, not, ◌&&◌, ◌==◌, List, [], ◌∷◌, ◌++◌, codes, if◌then◌else◌, None, Some, unwrap_or, Ok, IsUtf8}
use Rattle.std.specs.List.{list_all}
use Rattle.std.proofs.Common.{refl, sym, ap, ◌∙◌, subst, append-nil}
use mathlib.Core.Logic.{inr}
use Rattle.http_header.specs.FieldName.{is_field_name}
use Rattle.http_header.specs.Token.{lowercase}
use Rattle.tow_language.specs.declared.kind.Kind.TheVariants.{BadAttribute, BadTarget}
use Rattle.tow_model.specs.declared.attribute.Attribute.{Attribute}
use Rattle.tow_model.specs.declared.attribute.Attribute.TheVariants as attributes
use Rattle.tow_model.specs.declared.attribute.Piece.{Piece}
use Rattle.tow_model.specs.declared.attribute.Piece.TheVariants.{Value}
use Rattle.tow_model.specs.declared.action.Target.{Target}
use Rattle.tow_model.specs.declared.action.Target.TheVariants as targets
use Rattle.tow_language.specs.Tokens.{last_byte}
use Rattle.tow_language.specs.Templates.{field_named, template_of, spelled_attribute, spelled_template, spelled_long}
use Rattle.tow_language.specs.Shapes.{is_kept_field, target_of}
use Rattle.tow_language.specs.Fit.{fault, field_at}
use Rattle.tow_language.specs.Printed.{is_word, printed_text, written_template, printed_target}
use Rattle.tow_attr.proofs.Shapes.{not_true, both_left, both_right, last_added}
use Rattle.tow_print.proofs.Templates.{field_is, own_field, name_token, tokens_without, template_again}
use Rattle.tow_print.proofs.Textual.{IsTextual}
use Rattle.tow_print.proofs.Utf8.{utf8_lowercase}
use Rattle.tow_print.proofs.Utf8Templates.{utf8_written}

-- a last byte that is no backslash, whatever stands before
abbrev EndsWell : List ℕ → Type 0
EndsWell bytes = (before : ℕ) → (last_byte before bytes == 92) ≡ false

brace_ends_well : (b : ℕ) (bs name : List ℕ) → EndsWell ((b ∷ bs) ++ (name ++ codes "}"))
brace_ends_well b [] name before = ap (λ k. k == 92) (last_added name b 125)
brace_ends_well b (c ∷ bs) name before = brace_ends_well c bs name b

-- what an attribute that may be written is printed as
target_is : (a : Attribute) (x : Target) → target_of a ≡ Some x → (printed_target x ≡ printed_text (spelled_attribute a)) × EndsWell (spelled_attribute a)
target_is attributes.RelativePath x e = let f : targets.RelativePath ≡ x = cc in (ap printed_target (sym f), λ before. refl)
target_is attributes.Query x e = let f : targets.Query ≡ x = cc in (ap printed_target (sym f), λ before. refl)
target_is attributes.Status x e = let f : targets.Status ≡ x = cc in (ap printed_target (sym f), λ before. refl)
target_is (attributes.ResponseField name) x e = by_test (is_kept_field name) e
  where
    by_test : (t : Bool) → (if t then None else Some (targets.ResponseField name)) ≡ Some x →
        (printed_target x ≡ printed_text (spelled_attribute (attributes.ResponseField name))) × EndsWell (spelled_attribute (attributes.ResponseField name))
    by_test true f = absurd (cc)
    by_test false f = let g : targets.ResponseField name ≡ x = cc in (ap printed_target (sym g), brace_ends_well 37 (123 ∷ 111 ∷ 44 ∷ []) name)
target_is (attributes.Context name) x e = let f : targets.Context name ≡ x = cc in (ap printed_target (sym f), brace_ends_well 36 (123 ∷ []) name)
target_is other x e = absurd (cc)

-- a spelling that ends well is what is written
written_is : (t : List Piece) → (last_byte 0 (spelled_template t) == 92) ≡ false → written_template t ≡ spelled_template t
written_is t e =
    ap (λ s. if not (is_word (spelled_template t)) && s then unwrap_or (spelled_long t) (spelled_template t) else spelled_template t) e ∙ by_test (not (is_word (spelled_template t)))
  where
    by_test : (s : Bool) → (if s && false then unwrap_or (spelled_long t) (spelled_template t) else spelled_template t) ≡ spelled_template t
    by_test true = refl
    by_test false = refl

-- what is known of an attribute that may be written
pub record IsWritable (x : Target) : Type 0 where
  pub attribute : Attribute
  pub printed : printed_target x ≡ printed_text (spelled_attribute attribute)
  pub target : target_of attribute ≡ Some x
  pub textual : IsTextual (spelled_attribute attribute)
  pub again : template_of (spelled_attribute attribute) ≡ Ok (Value attribute ∷ [])

pub writable_again : (text : List ℕ) (a : Attribute) (x : Target) → IsUtf8 text → template_of text ≡ Ok (Value a ∷ []) → target_of a ≡ Some x → IsWritable x
writable_again text a x utf8 e target =
    let s = append-nil (spelled_attribute a) in
    let t = target_is a x target in
    record {
      attribute = a;
      printed = t.0;
      target = target;
      textual = (inr (t.1 39), subst IsUtf8 (written_is (Value a ∷ []) (ap (λ k. last_byte 0 k == 92) s ∙ t.1 0) ∙ s) (utf8_written text (Value a ∷ []) utf8 e));
      again = subst (λ k. template_of k ≡ Ok (Value a ∷ [])) s (template_again text (Value a ∷ []) e);
    }

-- without a backslash the last byte is none
last_apart : (before : ℕ) (bytes : List ℕ) → (before == 92) ≡ false → list_all (λ b. not (b == 92)) bytes ≡ true → (last_byte before bytes == 92) ≡ false
last_apart before [] apart e = apart
last_apart before (b ∷ bytes) apart e =
    last_apart b bytes (not_true (b == 92) (both_left (not (b == 92)) (list_all (λ b. not (b == 92)) bytes) e)) (both_right (not (b == 92)) (list_all (λ b. not (b == 92)) bytes) e)

-- what is known of the name of a field that may be written
pub record IsOwnName (name : List ℕ) : Type 0 where
  pub field : is_field_name name ≡ true
  pub lower : lowercase name ≡ name
  pub free : is_kept_field name ≡ false
  pub textual : IsTextual name

written_name : (text name : List ℕ) → IsUtf8 text → field_named text ≡ Some name → is_kept_field name ≡ false → IsOwnName name
written_name text name utf8 named free =
    let was = field_is text name named in
    let is = field_is name name (own_field text name named) in
    record {
      field = is.0;
      lower = sym is.1;
      free = free;
      textual = (inr (last_apart 39 name refl (tokens_without 92 name refl (name_token text name named))), subst IsUtf8 (sym was.1) (utf8_lowercase text utf8));
    }

pub name_again : (place : ℕ) (text name : List ℕ) → IsUtf8 text → field_at place text ≡ Ok name → IsOwnName name
name_again place text name utf8 e = by_test (is_field_name text) refl e
  where
    by_kept : (t : Bool) → is_field_name text ≡ true → is_kept_field (lowercase text) ≡ t → (if t then fault BadTarget place else Ok (lowercase text)) ≡ Ok name → IsOwnName name
    by_kept true named f g = absurd (cc)
    by_kept false named f g =
        let h : lowercase text ≡ name = cc in
        written_name text name utf8 (ap (λ (s : Bool). if s then Some (lowercase text) else None) named ∙ ap (λ k. Some k) h) (ap is_kept_field (sym h) ∙ f)

    by_test : (t : Bool) → is_field_name text ≡ t → (if not t then fault BadAttribute place else (if is_kept_field (lowercase text) then fault BadTarget place else Ok (lowercase text))) ≡ Ok name → IsOwnName name
    by_test true f g = by_kept (is_kept_field (lowercase text)) f refl g
    by_test false f g = absurd (cc)
