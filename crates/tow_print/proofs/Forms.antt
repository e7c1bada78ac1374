-- The forms of attributes in a word: the own short form, and those in braces.
use Rattle.std.specs.Prelude.{◌≡◌, ℕ, Bool, true, false, not, ◌&&◌, ◌==◌, List, [], ◌∷◌, ◌++◌, codes, bytes_eq, Option, None, Some, option_map, is_some, ⊤}
use Rattle.std.specs.Map.{lookup}
use Rattle.std.proofs.Common.{refl, sym, ap, ◌∙◌, subst}
use Rattle.std.proofs.lemmas.Bool.{eqb-true}
use Rattle.std.proofs.lemmas.List.Folds.{list_all-append}
use Rattle.std.proofs.lemmas.Slice.Eq.{bytes_eq-Decides}
use Rattle.std.proofs.lemmas.Bool.{and_parts}
use mathlib.Core.Logic.{inl, inr}
use Rattle.tow_model.specs.declared.attribute.Attribute.{Attribute}
use Rattle.tow_model.specs.declared.attribute.Attribute.TheVariants.{Method, RequestUrl, RelativePath, Query, Status, RequestLine, Protocol, RemoteIp, RemoteHost, Ident, User, Moment, Sent, SentOrDash, RequestField, ResponseField, Param, Cookie, Context}
use Rattle.tow_model.specs.declared.attribute.Piece.{Piece}
use Rattle.tow_model.specs.declared.attribute.Piece.TheVariants.{Literal, Value}
use Rattle.tow_language.specs.Tokens.{are_pieces, last_byte}
use Rattle.tow_language.specs.Templates.{by_letter, by_word, field_named, any_named, spelled_attribute, spelled_piece, spelled_template, long_word, spelled_long}
use Rattle.tow_language.specs.Laws.{IsFormOf, Spells}
use Rattle.tow_attr.proofs.Shapes.{last_added}
use Rattle.tow_print.proofs.Pieces.{spelled_before, long_is}
use Rattle.tow_print.proofs.Scans.{is_one_line, IsBraced, in_braces}
use Rattle.tow_print.proofs.Templates.{is_closed, is_plain, found_row, letter_plain, word_plain, tokens_without, name_token, any_is, KindIs, asked, answered, parameter, cookie, kind_is, own_form, spells_again}

-- two bytes that open and close no brace, and end with no backslash
pub record IsShort (spelled : List ℕ) : Type 0 where
  pub inside : (rest : List ℕ) → are_pieces true (spelled ++ rest) [] ≡ are_pieces true rest []
  pub outside : (rest : List ℕ) → are_pieces false (spelled ++ rest) [] ≡ are_pieces false rest []
  pub ends : (before : ℕ) → (last_byte before spelled == 92) ≡ false

pub short_runs : (spelled rest : List ℕ) (i : Bool) → IsShort spelled → are_pieces i (spelled ++ rest) [] ≡ are_pieces i rest []
short_runs spelled rest true s = s.inside rest
short_runs spelled rest false s = s.outside rest

pub own_short : (a : Attribute) → is_plain a ≡ true → IsShort (spelled_attribute a)
own_short Method e = record { inside = λ r. refl; outside = λ r. refl; ends = λ b. refl }
own_short RequestUrl e = record { inside = λ r. refl; outside = λ r. refl; ends = λ b. refl }
own_short RelativePath e = record { inside = λ r. refl; outside = λ r. refl; ends = λ b. refl }
own_short Query e = record { inside = λ r. refl; outside = λ r. refl; ends = λ b. refl }
own_short Status e = record { inside = λ r. refl; outside = λ r. refl; ends = λ b. refl }
own_short RequestLine e = record { inside = λ r. refl; outside = λ r. refl; ends = λ b. refl }
own_short Protocol e = record { inside = λ r. refl; outside = λ r. refl; ends = λ b. refl }
own_short RemoteIp e = record { inside = λ r. refl; outside = λ r. refl; ends = λ b. refl }
own_short RemoteHost e = record { inside = λ r. refl; outside = λ r. refl; ends = λ b. refl }
own_short Ident e = record { inside = λ r. refl; outside = λ r. refl; ends = λ b. refl }
own_short User e = record { inside = λ r. refl; outside = λ r. refl; ends = λ b. refl }
own_short Moment e = record { inside = λ r. refl; outside = λ r. refl; ends = λ b. refl }
own_short Sent e = record { inside = λ r. refl; outside = λ r. refl; ends = λ b. refl }
own_short SentOrDash e = record { inside = λ r. refl; outside = λ r. refl; ends = λ b. refl }
own_short (RequestField name) e = absurd (cc)
own_short (ResponseField name) e = absurd (cc)
own_short (Param name) e = absurd (cc)
own_short (Cookie name) e = absurd (cc)
own_short (Context name) e = absurd (cc)

-- the letter of an attribute is that of its own spelling
letter_own : (a : Attribute) (c : ℕ) → lookup (λ k. k == c) by_letter ≡ Some a → 37 ∷ c ∷ [] ≡ spelled_attribute a
letter_own a c e =
    let r = found_row (λ k. k == c) (λ k b. bytes_eq (37 ∷ k ∷ []) (spelled_attribute b)) by_letter a refl e in
    ap (λ k. 37 ∷ k ∷ []) (sym (eqb-true r.0 c r.1)) ∙ (bytes_eq-Decides (37 ∷ r.0 ∷ []) (spelled_attribute a)).0 r.2

-- what is made of an option's value
made_of : (make : List ℕ → Attribute) (o : Option (List ℕ)) (a : Attribute) → option_map make o ≡ Some a → (x : List ℕ) × (o ≡ Some x) × (a ≡ make x)
made_of make None a e = absurd (cc)
made_of make (Some x) a e = let f : make x ≡ a = cc in (x, refl, sym f)

-- the name of an attribute that has one
abbrev pub name_in : Attribute → List ℕ
name_in (RequestField name) = name
name_in (ResponseField name) = name
name_in (Param name) = name
name_in (Cookie name) = name
name_in (Context name) = name
name_in other = []

record IsNamed (a : Attribute) (bytes : List ℕ) : Type 0 where
  named : is_plain a ≡ false
  line : is_one_line bytes ≡ true → is_one_line (name_in a) ≡ true

field_line : (bytes name : List ℕ) → field_named bytes ≡ Some name → is_one_line name ≡ true
field_line bytes name e = tokens_without 10 name refl (name_token bytes name e)

any_line : (bytes name : List ℕ) → any_named bytes ≡ Some name → is_one_line bytes ≡ true → is_one_line name ≡ true
any_line bytes name e line = ap is_one_line (any_is bytes name e).1 ∙ line

kind_named : (a : Attribute) (bytes : List ℕ) → KindIs a bytes → IsNamed a bytes
kind_named a bytes (asked e) = let m = made_of RequestField (field_named bytes) a e in record { named = ap is_plain m.2; line = λ l. ap (λ k. is_one_line (name_in k)) m.2 ∙ field_line bytes m.0 m.1 }
kind_named a bytes (answered e) = let m = made_of ResponseField (field_named bytes) a e in record { named = ap is_plain m.2; line = λ l. ap (λ k. is_one_line (name_in k)) m.2 ∙ field_line bytes m.0 m.1 }
kind_named a bytes (parameter e) = let m = made_of Param (any_named bytes) a e in record { named = ap is_plain m.2; line = λ l. ap (λ k. is_one_line (name_in k)) m.2 ∙ any_line bytes m.0 m.1 l }
kind_named a bytes (cookie e) = let m = made_of Cookie (any_named bytes) a e in record { named = ap is_plain m.2; line = λ l. ap (λ k. is_one_line (name_in k)) m.2 ∙ any_line bytes m.0 m.1 l }

context_named : (a : Attribute) (bytes : List ℕ) → option_map Context (any_named bytes) ≡ Some a → IsNamed a bytes
context_named a bytes e = let m = made_of Context (any_named bytes) a e in record { named = ap is_plain m.2; line = λ l. ap (λ k. is_one_line (name_in k)) m.2 ∙ any_line bytes m.0 m.1 l }

-- a form is the attribute's own short one; or in braces, with a word for an attribute that has a long form, or with a name
pub data FormIs (a : Attribute) (spelled : List ℕ) : Type 0 where
  of_letter : is_plain a ≡ true → spelled ≡ spelled_attribute a → FormIs a spelled
  of_word : is_plain a ≡ true → is_some (long_word a) ≡ true → IsBraced spelled → FormIs a spelled
  of_name : is_plain a ≡ false → (is_one_line spelled ≡ true → is_one_line (name_in a) ≡ true) → IsBraced spelled → FormIs a spelled

-- what is inside braces is in one line with them
inside_line : (s : ℕ) (inside : List ℕ) → is_one_line (s ∷ 123 ∷ (inside ++ 125 ∷ [])) ≡ true → is_one_line inside ≡ true
inside_line s inside e =
    let h = and_parts (not (s == 10)) (is_one_line (123 ∷ (inside ++ 125 ∷ []))) e in
    (and_parts (is_one_line inside) (is_one_line (125 ∷ [])) (sym (list_all-append (λ b. not (b == 10)) inside (125 ∷ [])) ∙ h.1)).0

pub form_view : (a : Attribute) (spelled : List ℕ) → IsFormOf a spelled → FormIs a spelled
form_view a spelled (inl (c, e, l)) = of_letter (letter_plain a c l) (e ∙ letter_own a c l)
form_view a spelled (inr (inside, n, inl (e, inl w))) =
    of_word (word_plain a inside w) (found_row (bytes_eq inside) (λ k b. is_some (long_word b)) by_word a refl w).2 (subst IsBraced (sym e) (in_braces 37 inside refl n))
form_view a spelled (inr (inside, n, inl (e, inr (kind, name, f, g)))) =
    let k = kind_named a name (kind_is a (kind ∷ []) name g) in
    let line : is_one_line spelled ≡ true → is_one_line (name_in a) ≡ true =
    λ l. k.line (and_parts (not (44 == 10)) (is_one_line name) (and_parts (not (kind == 10)) (is_one_line (44 ∷ name)) (ap is_one_line (sym f) ∙ inside_line 37 inside (ap is_one_line (sym e) ∙ l))).1).1 in
    of_name k.named line (subst IsBraced (sym e) (in_braces 37 inside refl n))
form_view a spelled (inr (inside, n, inr (e, g))) =
    let k = context_named a inside g in
    of_name k.named (λ l. k.line (inside_line 36 inside (ap is_one_line (sym e) ∙ l))) (subst IsBraced (sym e) (in_braces 36 inside refl n))

-- the own spelling of an attribute that has a name
pub own_braced : (a : Attribute) (spelled : List ℕ) → is_plain a ≡ false → IsFormOf a spelled → IsBraced (spelled_attribute a)
own_braced a spelled named form = by_view (form_view a (spelled_attribute a) (own_form a spelled form))
  where
    by_view : FormIs a (spelled_attribute a) → IsBraced (spelled_attribute a)
    by_view (of_letter plain e) = absurd (let f : false ≡ true = sym named ∙ plain in cc)
    by_view (of_word plain long braced) = braced
    by_view (of_name other line braced) = braced

closed_line : (name : List ℕ) → is_one_line name ≡ true → is_one_line (name ++ codes "}") ≡ true
closed_line name e = list_all-append (λ b. not (b == 10)) name (codes "}") ∙ ap (λ t. t && true) e

pub own_line : (a : Attribute) → is_plain a ≡ false → is_one_line (name_in a) ≡ true → is_one_line (spelled_attribute a) ≡ true
own_line (RequestField name) e line = closed_line name line
own_line (ResponseField name) e line = closed_line name line
own_line (Param name) e line = closed_line name line
own_line (Cookie name) e line = closed_line name line
own_line (Context name) e line = closed_line name line
own_line Method e line = absurd (cc)
own_line RequestUrl e line = absurd (cc)
own_line RelativePath e line = absurd (cc)
own_line Query e line = absurd (cc)
own_line Status e line = absurd (cc)
own_line RequestLine e line = absurd (cc)
own_line Protocol e line = absurd (cc)
own_line RemoteIp e line = absurd (cc)
own_line RemoteHost e line = absurd (cc)
own_line Ident e line = absurd (cc)
own_line User e line = absurd (cc)
own_line Moment e line = absurd (cc)
own_line Sent e line = absurd (cc)
own_line SentOrDash e line = absurd (cc)

-- LONG FORMS

abbrev pub long_of : List ℕ → List ℕ
long_of word = codes "%{" ++ (word ++ codes "}")

pub record IsLong (a : Attribute) (word : List ℕ) : Type 0 where
  pub form : IsFormOf a (long_of word)
  pub braced : IsBraced (long_of word)
  pub line : is_one_line (long_of word) ≡ true

abbrev HasLong : Attribute → Option (List ℕ) → Type 0
HasLong a None = ⊤
HasLong a (Some word) = IsLong a word

long : (a : Attribute) (word : List ℕ) → is_closed word ≡ true → lookup (bytes_eq word) by_word ≡ Some a → is_one_line (long_of word) ≡ true → IsLong a word
long a word closed found line = record { form = inr (word, closed, inl (refl, inl found)); braced = in_braces 37 word refl closed; line = line }

has_long : (a : Attribute) → HasLong a (long_word a)
has_long Method = long Method (codes "METHOD") refl refl refl
has_long RequestUrl = long RequestUrl (codes "REQUEST_URL") refl refl refl
has_long RelativePath = long RelativePath (codes "RELATIVE_PATH") refl refl refl
has_long Query = long Query (codes "QUERY_STRING") refl refl refl
has_long Status = long Status (codes "RESPONSE_CODE") refl refl refl
has_long RequestLine = long RequestLine (codes "REQUEST_LINE") refl refl refl
has_long Protocol = long Protocol (codes "PROTOCOL") refl refl refl
has_long RemoteIp = long RemoteIp (codes "REMOTE_IP") refl refl refl
has_long RemoteHost = long RemoteHost (codes "REMOTE_HOST") refl refl refl
has_long User = long User (codes "REMOTE_USER") refl refl refl
has_long Moment = long Moment (codes "DATE_TIME") refl refl refl
has_long Sent = long Sent (codes "BYTES_SENT") refl refl refl
has_long Ident = tt
has_long SentOrDash = tt
has_long (RequestField name) = tt
has_long (ResponseField name) = tt
has_long (Param name) = tt
has_long (Cookie name) = tt
has_long (Context name) = tt

pub is_long : (a : Attribute) (word : List ℕ) → long_word a ≡ Some word → IsLong a word
is_long a word e = subst (HasLong a) e (has_long a)

-- the spelling with a long form spells the same pieces
pub long_spells : (ps : List Piece) (text spelled : List ℕ) → Spells text ps → spelled_long ps ≡ Some spelled → Spells spelled ps
long_spells [] text spelled h e = absurd (cc)
long_spells (Literal bytes ∷ ps) text spelled (after, at, some, free, apart, h) e =
    by_later (spelled_long ps) refl (sym (long_is (Literal bytes) ps) ∙ e) (λ later f. long_spells ps after later h f)
  where
    by_later : (o : Option (List ℕ)) → spelled_long ps ≡ o → spelled_before (Literal bytes) ps o ≡ Some spelled → ((later : List ℕ) → spelled_long ps ≡ Some later → Spells later ps) →
        Spells spelled (Literal bytes ∷ ps)
    by_later None f g more = absurd (cc)
    by_later (Some later) f g more = let is : spelled_piece (Literal bytes) ++ later ≡ spelled = cc in (later, sym is, some, free, apart, more later f)
long_spells (Value a ∷ ps) text spelled (own, after, at, form, h) e =
    by_later (spelled_long ps) refl (sym (long_is (Value a) ps) ∙ e) (λ later f. long_spells ps after later h f)
  where
    by_word : (o : Option (List ℕ)) → long_word a ≡ o → option_map (λ k. k ++ spelled_template ps) (option_map long_of o) ≡ Some spelled → Spells spelled (Value a ∷ ps)
    by_word None f g = absurd (cc)
    by_word (Some word) f g =
        let is : long_of word ++ spelled_template ps ≡ spelled = cc in (long_of word, spelled_template ps, sym is, (is_long a word f).form, spells_again after ps h)

    by_later : (o : Option (List ℕ)) → spelled_long ps ≡ o → spelled_before (Value a) ps o ≡ Some spelled → ((later : List ℕ) → spelled_long ps ≡ Some later → Spells later ps) →
        Spells spelled (Value a ∷ ps)
    by_later None f g more = by_word (long_word a) refl g
    by_later (Some later) f g more = let is : spelled_attribute a ++ later ≡ spelled = cc in (spelled_attribute a, later, sym is, own_form a own form, more later f)

-- no form ends with a backslash
braced_ends : (spelled : List ℕ) (before : ℕ) → IsBraced spelled → (last_byte before spelled == 92) ≡ false
braced_ends spelled before (in_braces s inside e n) = ap (λ k. k == 92) (last_added inside 123 125)

pub form_ends : (a : Attribute) (spelled : List ℕ) (before : ℕ) → IsFormOf a spelled → (last_byte before spelled == 92) ≡ false
form_ends a spelled before form = by_view (form_view a spelled form)
  where
    by_view : FormIs a spelled → (last_byte before spelled == 92) ≡ false
    by_view (of_letter plain e) = ap (λ k. last_byte before k == 92) e ∙ (own_short a plain).ends before
    by_view (of_word plain long braced) = braced_ends spelled before braced
    by_view (of_name named line braced) = braced_ends spelled before braced
