-- The spelling of a template that some text spells is a text that spells it.
use Rattle.std.specs.Prelude.{◌≡◌, ◌⊎◌, ℕ, Bool, true, false, not, ◌&&◌, ◌==◌, List, [], ◌∷◌, ◌++◌, codes, bytes_eq, if◌then◌else◌, Option, None, Some, option_map, Ok}
use Rattle.std.specs.List.{list_all}
use Rattle.std.specs.Map.{lookup}
use Rattle.std.proofs.Common.{refl, sym, ap, ap₂, ◌∙◌, subst}
use Rattle.std.proofs.lemmas.Bool.{eqb-true}
use Rattle.std.proofs.lemmas.Bool.{and_parts}
use mathlib.Core.Logic.{inl, inr}
use Rattle.http_header.specs.Token.{token_test, lowercase}
use Rattle.http_header.specs.FieldName.{is_field_name}
use Rattle.http_header.proofs.TokenLemmas.{IsFieldName-from_test, IsHeaderName-lowercase, lowercase-lowercase_lem}
use Rattle.tow_model.specs.declared.attribute.Attribute.{Attribute}
use Rattle.tow_model.specs.declared.attribute.Attribute.TheVariants.{Method, RequestUrl, RelativePath, Query, Status, RequestLine, Protocol, RemoteIp, RemoteHost, Ident, User, Moment, Sent, SentOrDash, RequestField, ResponseField, Param, Cookie, Context}
use Rattle.tow_model.specs.declared.attribute.Piece.{Piece}
use Rattle.tow_model.specs.declared.attribute.Piece.TheVariants.{Literal, Value}
use Rattle.tow_language.specs.Laws.{IsFormOf, Spells}
use Rattle.tow_language.specs.Templates.{by_letter, by_word, by_kind, field_named, any_named, template_of, spelled_attribute, spelled_template}
use Rattle.tow_attr.proofs.Names.{is_named}
use Rattle.tow_attr.proofs.Spelled.{templates_are_spelled}

-- no `}` among the bytes
abbrev pub is_closed : List ℕ → Bool
is_closed bytes = list_all (λ b. not (b == 125)) bytes

-- the attribute has no name
abbrev pub is_plain : Attribute → Bool
is_plain (RequestField name) = false
is_plain (ResponseField name) = false
is_plain (Param name) = false
is_plain (Cookie name) = false
is_plain (Context name) = false
is_plain other = true

-- what is found in a table whose rows are all good
pub found_row : {K : Type 0} (test : K → Bool) (good : K → Attribute → Bool) (rows : List (K × Attribute)) (a : Attribute) → list_all (λ (r : K × Attribute). good r.0 r.1) rows ≡ true →
    lookup test rows ≡ Some a → (k : K) × (test k ≡ true) × (good k a ≡ true)
found_row test good [] a all e = absurd (cc)
found_row {K = K} test good (r ∷ rows) a all e =
    let h = and_parts (good r.0 r.1) (list_all (λ (s : K × Attribute). good s.0 s.1) rows) all in by_test (found_row test good rows a h.1) h.0 (test r.0) refl e
  where
    by_test : (lookup test rows ≡ Some a → (k : K) × (test k ≡ true) × (good k a ≡ true)) → good r.0 r.1 ≡ true → (t : Bool) → test r.0 ≡ t → (if t then Some r.1 else lookup test rows) ≡ Some a →
        (k : K) × (test k ≡ true) × (good k a ≡ true)
    by_test more here true f g = let same : r.1 ≡ a = cc in (r.0, f, subst (λ k. good r.0 k ≡ true) same here)
    by_test more here false f g = more g

-- no letter and no word stands for an attribute that has a name
pub letter_plain : (a : Attribute) (c : ℕ) → lookup (λ k. k == c) by_letter ≡ Some a → is_plain a ≡ true
letter_plain a c e = (found_row (λ k. k == c) (λ k b. is_plain b) by_letter a refl e).2

pub word_plain : (a : Attribute) (inside : List ℕ) → lookup (bytes_eq inside) by_word ≡ Some a → is_plain a ≡ true
word_plain a inside e = (found_row (bytes_eq inside) (λ k b. is_plain b) by_word a refl e).2

-- a byte that is in no token
token_without : (c b : ℕ) → token_test c ≡ false → token_test b ≡ true → not (b == c) ≡ true
token_without c b none e = by_test (b == c) refl
  where
    by_test : (t : Bool) → (b == c) ≡ t → not t ≡ true
    by_test true f = absurd (let g : false ≡ true = sym none ∙ ap token_test (sym (eqb-true b c f)) ∙ e in cc)
    by_test false f = refl

pub tokens_without : (c : ℕ) (bytes : List ℕ) → token_test c ≡ false → list_all token_test bytes ≡ true → list_all (λ b. not (b == c)) bytes ≡ true
tokens_without c [] none e = refl
tokens_without c (b ∷ bytes) none e =
    let h = and_parts (token_test b) (list_all token_test bytes) e in ap₂ (λ s t. s && t) (token_without c b none h.0) (tokens_without c bytes none h.1)

-- a field's name is kept in lower case, and its own name then
pub field_is : (bytes name : List ℕ) → field_named bytes ≡ Some name → (is_field_name bytes ≡ true) × (name ≡ lowercase bytes)
field_is bytes name e = by_test (is_field_name bytes) refl e
  where
    by_test : (t : Bool) → is_field_name bytes ≡ t → (if t then Some (lowercase bytes) else None) ≡ Some name → (is_field_name bytes ≡ true) × (name ≡ lowercase bytes)
    by_test true f g = (f, let h : lowercase bytes ≡ name = cc in sym h)
    by_test false f g = absurd (cc)

pub own_field : (bytes name : List ℕ) → field_named bytes ≡ Some name → field_named name ≡ Some name
own_field bytes name e =
    let f = field_is bytes name e in
    let lower : field_named (lowercase bytes) ≡ Some (lowercase bytes) =
    is_named (lowercase bytes) (λ no. no (IsHeaderName-lowercase bytes (IsFieldName-from_test bytes f.0)).0) ∙ ap Some (lowercase-lowercase_lem bytes) in
    subst (λ k. field_named k ≡ Some k) (sym f.1) lower

-- and a token
pub name_token : (bytes name : List ℕ) → field_named bytes ≡ Some name → list_all token_test name ≡ true
name_token bytes name e = let is = (field_is name name (own_field bytes name e)).0 in (and_parts _ (list_all token_test name) (and_parts _ _ is).0).1

own_name : (bytes name : List ℕ) → field_named bytes ≡ Some name → (field_named name ≡ Some name) × (is_closed name ≡ true)
own_name bytes name e = (own_field bytes name e, tokens_without 125 name refl (name_token bytes name e))

pub any_is : (bytes name : List ℕ) → any_named bytes ≡ Some name → (any_named name ≡ Some name) × (name ≡ bytes)
any_is [] name e = absurd (cc)
any_is (b ∷ bs) name e = let f : b ∷ bs ≡ name = cc in (subst (λ k. any_named k ≡ Some k) f refl, sym f)

-- what a name in braces is of
pub data KindIs (a : Attribute) (name : List ℕ) : Type 0 where
  asked : option_map RequestField (field_named name) ≡ Some a → KindIs a name
  answered : option_map ResponseField (field_named name) ≡ Some a → KindIs a name
  parameter : option_map Param (any_named name) ≡ Some a → KindIs a name
  cookie : option_map Cookie (any_named name) ≡ Some a → KindIs a name

pub kind_is : (a : Attribute) (kind name : List ℕ) → by_kind kind name ≡ Some a → KindIs a name
kind_is a kind name e = by_test (bytes_eq kind (codes "i")) (bytes_eq kind (codes "o")) (bytes_eq kind (codes "q")) (bytes_eq kind (codes "c")) e
  where
    by_test : (i o q c : Bool) → (if i then option_map RequestField (field_named name) else (if o then option_map ResponseField (field_named name) else
        (if q then option_map Param (any_named name) else (if c then option_map Cookie (any_named name) else None)))) ≡ Some a → KindIs a name
    by_test true o q c e = asked e
    by_test false true q c e = answered e
    by_test false false true c e = parameter e
    by_test false false false true e = cookie e
    by_test false false false false e = absurd (cc)

-- an option that was mapped into a constructor
from_asked : (o : Option (List ℕ)) (name : List ℕ) → option_map RequestField o ≡ Some (RequestField name) → o ≡ Some name
from_asked None name e = absurd (cc)
from_asked (Some x) name e = let f : x ≡ name = cc in ap Some f

from_answered : (o : Option (List ℕ)) (name : List ℕ) → option_map ResponseField o ≡ Some (ResponseField name) → o ≡ Some name
from_answered None name e = absurd (cc)
from_answered (Some x) name e = let f : x ≡ name = cc in ap Some f

from_parameter : (o : Option (List ℕ)) (name : List ℕ) → option_map Param o ≡ Some (Param name) → o ≡ Some name
from_parameter None name e = absurd (cc)
from_parameter (Some x) name e = let f : x ≡ name = cc in ap Some f

from_cookie : (o : Option (List ℕ)) (name : List ℕ) → option_map Cookie o ≡ Some (Cookie name) → o ≡ Some name
from_cookie None name e = absurd (cc)
from_cookie (Some x) name e = let f : x ≡ name = cc in ap Some f

from_context : (o : Option (List ℕ)) (name : List ℕ) → option_map Context o ≡ Some (Context name) → o ≡ Some name
from_context None name e = absurd (cc)
from_context (Some x) name e = let f : x ≡ name = cc in ap Some f

-- what an attribute with a name is read from: its kind and its name, which have no `}`, or a context's name
named_from : (a : Attribute) (spelled : List ℕ) → is_plain a ≡ false → IsFormOf a spelled →
    ((name : List ℕ) × (is_closed name ≡ true) × KindIs a name) ⊎ ((name : List ℕ) × (is_closed name ≡ true) × (option_map Context (any_named name) ≡ Some a))
named_from a spelled other (inl (c, e, l)) = absurd (let f : false ≡ true = sym other ∙ letter_plain a c l in cc)
named_from a spelled other (inr (inside, closed, inl (e, inl w))) = absurd (let f : false ≡ true = sym other ∙ word_plain a inside w in cc)
named_from a spelled other (inr (inside, closed, inl (e, inr (kind, name, f, g)))) =
    inl (name, (and_parts (not (44 == 125)) (is_closed name) (and_parts (not (kind == 125)) (is_closed (44 ∷ name)) (ap is_closed (sym f) ∙ closed)).1).1, kind_is a (kind ∷ []) name g)
named_from a spelled other (inr (inside, closed, inr (e, g))) = inr (inside, closed, g)

field_form : (letter : ℕ) (a : Attribute) (bytes name : List ℕ) → not (letter == 125) ≡ true → field_named bytes ≡ Some name → (field_named name ≡ Some name → by_kind (letter ∷ []) name ≡ Some a) →
    IsFormOf a (codes "%{" ++ ((letter ∷ 44 ∷ name) ++ codes "}"))
field_form letter a bytes name apart e kind =
    let own = own_name bytes name e in inr (letter ∷ 44 ∷ name, ap₂ (λ s t. s && t) apart own.1, inl (refl, inr (letter, name, refl, kind own.0)))

any_form : (letter : ℕ) (a : Attribute) (bytes name : List ℕ) → not (letter == 125) ≡ true → is_closed bytes ≡ true → any_named bytes ≡ Some name →
    (any_named name ≡ Some name → by_kind (letter ∷ []) name ≡ Some a) → IsFormOf a (codes "%{" ++ ((letter ∷ 44 ∷ name) ++ codes "}"))
any_form letter a bytes name apart closed e kind =
    let own = any_is bytes name e in
    inr (letter ∷ 44 ∷ name, ap₂ (λ s t. s && t) apart (ap is_closed own.1 ∙ closed), inl (refl, inr (letter, name, refl, kind own.0)))

none_of : (o : Option (List ℕ)) (make : List ℕ → Attribute) (a : Attribute) → ((x : List ℕ) → make x ≡ a → ⊥) → option_map make o ≡ Some a → ⊥
none_of None make a apart e = cc
none_of (Some x) make a apart e = apart x (let f : make x ≡ a = cc in f)

-- each attribute has its own spelling as a form, where it has any
pub own_form : (a : Attribute) (spelled : List ℕ) → IsFormOf a spelled → IsFormOf a (spelled_attribute a)
own_form Method spelled f = inl (109, refl, refl)
own_form RequestUrl spelled f = inl (85, refl, refl)
own_form RelativePath spelled f = inl (82, refl, refl)
own_form Query spelled f = inl (113, refl, refl)
own_form Status spelled f = inl (115, refl, refl)
own_form RequestLine spelled f = inl (114, refl, refl)
own_form Protocol spelled f = inl (72, refl, refl)
own_form RemoteIp spelled f = inl (97, refl, refl)
own_form RemoteHost spelled f = inl (104, refl, refl)
own_form Ident spelled f = inl (108, refl, refl)
own_form User spelled f = inl (117, refl, refl)
own_form Moment spelled f = inl (116, refl, refl)
own_form Sent spelled f = inl (66, refl, refl)
own_form SentOrDash spelled f = inl (98, refl, refl)
own_form (RequestField name) spelled f = by_kinds (named_from (RequestField name) spelled refl f)
  where
    by_kinds : ((bytes : List ℕ) × (is_closed bytes ≡ true) × KindIs (RequestField name) bytes) ⊎ ((bytes : List ℕ) × (is_closed bytes ≡ true) × (option_map Context (any_named bytes) ≡ Some (RequestField name))) →
        IsFormOf (RequestField name) (spelled_attribute (RequestField name))
    by_kinds (inl (bytes, closed, asked e)) = field_form 105 (RequestField name) bytes name refl (from_asked (field_named bytes) name e) (λ own. ap (λ o. option_map RequestField o) own)
    by_kinds (inl (bytes, closed, answered e)) = absurd (none_of (field_named bytes) ResponseField (RequestField name) (λ x g. cc) e)
    by_kinds (inl (bytes, closed, parameter e)) = absurd (none_of (any_named bytes) Param (RequestField name) (λ x g. cc) e)
    by_kinds (inl (bytes, closed, cookie e)) = absurd (none_of (any_named bytes) Cookie (RequestField name) (λ x g. cc) e)
    by_kinds (inr (bytes, closed, e)) = absurd (none_of (any_named bytes) Context (RequestField name) (λ x g. cc) e)
own_form (ResponseField name) spelled f = by_kinds (named_from (ResponseField name) spelled refl f)
  where
    by_kinds : ((bytes : List ℕ) × (is_closed bytes ≡ true) × KindIs (ResponseField name) bytes) ⊎ ((bytes : List ℕ) × (is_closed bytes ≡ true) × (option_map Context (any_named bytes) ≡ Some (ResponseField name))) →
        IsFormOf (ResponseField name) (spelled_attribute (ResponseField name))
    by_kinds (inl (bytes, closed, answered e)) = field_form 111 (ResponseField name) bytes name refl (from_answered (field_named bytes) name e) (λ own. ap (λ o. option_map ResponseField o) own)
    by_kinds (inl (bytes, closed, asked e)) = absurd (none_of (field_named bytes) RequestField (ResponseField name) (λ x g. cc) e)
    by_kinds (inl (bytes, closed, parameter e)) = absurd (none_of (any_named bytes) Param (ResponseField name) (λ x g. cc) e)
    by_kinds (inl (bytes, closed, cookie e)) = absurd (none_of (any_named bytes) Cookie (ResponseField name) (λ x g. cc) e)
    by_kinds (inr (bytes, closed, e)) = absurd (none_of (any_named bytes) Context (ResponseField name) (λ x g. cc) e)
own_form (Param name) spelled f = by_kinds (named_from (Param name) spelled refl f)
  where
    by_kinds : ((bytes : List ℕ) × (is_closed bytes ≡ true) × KindIs (Param name) bytes) ⊎ ((bytes : List ℕ) × (is_closed bytes ≡ true) × (option_map Context (any_named bytes) ≡ Some (Param name))) →
        IsFormOf (Param name) (spelled_attribute (Param name))
    by_kinds (inl (bytes, closed, parameter e)) = any_form 113 (Param name) bytes name refl closed (from_parameter (any_named bytes) name e) (λ own. ap (λ o. option_map Param o) own)
    by_kinds (inl (bytes, closed, asked e)) = absurd (none_of (field_named bytes) RequestField (Param name) (λ x g. cc) e)
    by_kinds (inl (bytes, closed, answered e)) = absurd (none_of (field_named bytes) ResponseField (Param name) (λ x g. cc) e)
    by_kinds (inl (bytes, closed, cookie e)) = absurd (none_of (any_named bytes) Cookie (Param name) (λ x g. cc) e)
    by_kinds (inr (bytes, closed, e)) = absurd (none_of (any_named bytes) Context (Param name) (λ x g. cc) e)
own_form (Cookie name) spelled f = by_kinds (named_from (Cookie name) spelled refl f)
  where
    by_kinds : ((bytes : List ℕ) × (is_closed bytes ≡ true) × KindIs (Cookie name) bytes) ⊎ ((bytes : List ℕ) × (is_closed bytes ≡ true) × (option_map Context (any_named bytes) ≡ Some (Cookie name))) →
        IsFormOf (Cookie name) (spelled_attribute (Cookie name))
    by_kinds (inl (bytes, closed, cookie e)) = any_form 99 (Cookie name) bytes name refl closed (from_cookie (any_named bytes) name e) (λ own. ap (λ o. option_map Cookie o) own)
    by_kinds (inl (bytes, closed, asked e)) = absurd (none_of (field_named bytes) RequestField (Cookie name) (λ x g. cc) e)
    by_kinds (inl (bytes, closed, answered e)) = absurd (none_of (field_named bytes) ResponseField (Cookie name) (λ x g. cc) e)
    by_kinds (inl (bytes, closed, parameter e)) = absurd (none_of (any_named bytes) Param (Cookie name) (λ x g. cc) e)
    by_kinds (inr (bytes, closed, e)) = absurd (none_of (any_named bytes) Context (Cookie name) (λ x g. cc) e)
own_form (Context name) spelled f = by_kinds (named_from (Context name) spelled refl f)
  where
    by_kinds : ((bytes : List ℕ) × (is_closed bytes ≡ true) × KindIs (Context name) bytes) ⊎ ((bytes : List ℕ) × (is_closed bytes ≡ true) × (option_map Context (any_named bytes) ≡ Some (Context name))) →
        IsFormOf (Context name) (spelled_attribute (Context name))
    by_kinds (inr (bytes, closed, e)) =
        let own = any_is bytes name (from_context (any_named bytes) name e) in
        inr (name, ap is_closed own.1 ∙ closed, inr (refl, ap (λ o. option_map Context o) own.0))
    by_kinds (inl (bytes, closed, asked e)) = absurd (none_of (field_named bytes) RequestField (Context name) (λ x g. cc) e)
    by_kinds (inl (bytes, closed, answered e)) = absurd (none_of (field_named bytes) ResponseField (Context name) (λ x g. cc) e)
    by_kinds (inl (bytes, closed, parameter e)) = absurd (none_of (any_named bytes) Param (Context name) (λ x g. cc) e)
    by_kinds (inl (bytes, closed, cookie e)) = absurd (none_of (any_named bytes) Cookie (Context name) (λ x g. cc) e)

pub spells_again : (text : List ℕ) (ps : List Piece) → Spells text ps → Spells (spelled_template ps) ps
spells_again text [] h = refl
spells_again text (Literal bytes ∷ ps) (after, e, some, free, apart, h) = (spelled_template ps, refl, some, free, apart, spells_again after ps h)
spells_again text (Value a ∷ ps) (spelled, after, e, form, h) = (spelled_attribute a, spelled_template ps, refl, own_form a spelled form, spells_again after ps h)

-- a template that some text is read as is read from its own spelling
pub template_again : (text : List ℕ) (ps : List Piece) → template_of text ≡ Ok ps → template_of (spelled_template ps) ≡ Ok ps
template_again text ps e = (templates_are_spelled (spelled_template ps) ps).1 (spells_again text ps ((templates_are_spelled text ps).0 e))
