-- The printed form of a template that a UTF-8 text spells is UTF-8.
use Rattle.std.specs.Prelude.{◌≡◌, ℕ, ◌<◌, ◌==◌, ◌&&◌, Bool, true, false, List, [], ◌∷◌, ◌++◌, codes, bytes_eq, if◌then◌else◌, Option, None, Some, Ok, IfSome, option_map, unwrap_or, IsUtf8}
use Rattle.std.specs.List.{list_all}
use Rattle.std.specs.Char.{is_ascii}
use Rattle.std.specs.Map.{lookup}
use Rattle.std.proofs.Common.{refl, sym, ap, ◌∙◌, arith, subst, append_assoc, append-nil}
use Rattle.std.proofs.lemmas.Bool.{eqb-true, and_parts}
use Rattle.std.proofs.lemmas.Str.{IsUtf8-nil, IsUtf8-append}
use mathlib.Core.Logic.{inl, inr}
use Rattle.http_header.specs.FieldName.{is_field_name}
use Rattle.http_header.specs.Token.{lowercase}
use Rattle.tow_model.specs.declared.attribute.Attribute.{Attribute}
use Rattle.tow_model.specs.declared.attribute.Attribute.TheVariants.{Method, RequestUrl, RelativePath, Query, Status, RequestLine, Protocol, RemoteIp, RemoteHost, User, Moment, Sent, RequestField, ResponseField, Param, Cookie, Context}
use Rattle.tow_model.specs.declared.attribute.Piece.{Piece}
use Rattle.tow_model.specs.declared.attribute.Piece.TheVariants.{Literal, Value}
use Rattle.tow_language.specs.Templates.{by_letter, by_word, field_named, any_named, by_kind, template_of, spelled_attribute, spelled_piece, spelled_template, long_word, long_form, spelled_long, common, combined}
use Rattle.tow_language.specs.Laws.{IsFormOf, IsNoLiteral, Spells}
use Rattle.tow_language.specs.Printed.{is_unquotable, written_template, printed_template}
use Rattle.tow_attr.proofs.Spelled.{templates_are_spelled}
use Rattle.tow_print.proofs.Textual.{OfEach}
use Rattle.tow_print.proofs.Utf8.{utf8_ascii, utf8_before, utf8_from, utf8_behind, utf8_behind_ascii, utf8_lowercase}
use Rattle.tow_print.proofs.Utf8Forms.{utf8_printed}

-- each piece has a spelling that is UTF-8
abbrev pub AreSpelt : List Piece → Type 0
AreSpelt = OfEach (λ (p : Piece). IsUtf8 (spelled_piece p))

-- the row that a look-up finds
found_row : {K : Type 0} (P : K × Attribute → Bool) (test : K → Bool) (rows : List (K × Attribute)) (a : Attribute) → list_all P rows ≡ true → lookup test rows ≡ Some a →
    (k : K) × (test k ≡ true) × (P (k, a) ≡ true)
found_row P test [] a are e = absurd (cc)
found_row {K = K} P test (r ∷ rows) a are e = let h = and_parts (P r) (list_all P rows) are in by_test h.0 (found_row P test rows a h.1) (test r.0) refl e
  where
    by_test : P r ≡ true → (lookup test rows ≡ Some a → (k : K) × (test k ≡ true) × (P (k, a) ≡ true)) → (t : Bool) → test r.0 ≡ t → (if t then Some r.1 else lookup test rows) ≡ Some a →
        (k : K) × (test k ≡ true) × (P (k, a) ≡ true)
    by_test is rest true f g = let same : r.1 ≡ a = cc in (r.0, f, subst (λ x. P (r.0, x) ≡ true) same is)
    by_test is rest false f g = rest g

-- an attribute that is spelled with a name
made : (make : List ℕ → Attribute) (o : Option (List ℕ)) (a : Attribute) → ((name : List ℕ) → IsUtf8 name → IsUtf8 (spelled_attribute (make name))) → IfSome o IsUtf8 → option_map make o ≡ Some a →
    IsUtf8 (spelled_attribute a)
made make None a spells is e = absurd (cc)
made make (Some name) a spells is e = let same : make name ≡ a = cc in subst (λ k. IsUtf8 (spelled_attribute k)) same (spells name is)

in_braces : (opening name : List ℕ) → list_all is_ascii opening ≡ true → IsUtf8 name → IsUtf8 (opening ++ (name ++ codes "}"))
in_braces opening name small u = IsUtf8-append opening (name ++ codes "}") (utf8_ascii opening small) (IsUtf8-append name (codes "}") u (utf8_ascii (codes "}") refl))

field_utf8 : (name : List ℕ) → IsUtf8 name → IfSome (field_named name) IsUtf8
field_utf8 name u = by_test (is_field_name name)
  where
    by_test : (t : Bool) → IfSome (if t then Some (lowercase name) else None) IsUtf8
    by_test true = utf8_lowercase name u
    by_test false = tt

any_utf8 : (name : List ℕ) → IsUtf8 name → IfSome (any_named name) IsUtf8
any_utf8 [] u = tt
any_utf8 (b ∷ bs) u = u

kind_utf8 : (kind name : List ℕ) (a : Attribute) → IsUtf8 name → by_kind kind name ≡ Some a → IsUtf8 (spelled_attribute a)
kind_utf8 kind name a u = by_test (bytes_eq kind (codes "i")) (bytes_eq kind (codes "o")) (bytes_eq kind (codes "q")) (bytes_eq kind (codes "c"))
  where
    by_test : (i o q c : Bool) → (if i then option_map RequestField (field_named name) else (if o then option_map ResponseField (field_named name) else
        (if q then option_map Param (any_named name) else (if c then option_map Cookie (any_named name) else None)))) ≡ Some a → IsUtf8 (spelled_attribute a)
    by_test true o q c e = made RequestField (field_named name) a (λ n v. in_braces (codes "%{i,") n refl v) (field_utf8 name u) e
    by_test false true q c e = made ResponseField (field_named name) a (λ n v. in_braces (codes "%{o,") n refl v) (field_utf8 name u) e
    by_test false false true c e = made Param (any_named name) a (λ n v. in_braces (codes "%{q,") n refl v) (any_utf8 name u) e
    by_test false false false true e = made Cookie (any_named name) a (λ n v. in_braces (codes "%{c,") n refl v) (any_utf8 name u) e
    by_test false false false false e = absurd (cc)

-- what stands in braces, and what follows them
braced_parts : (opening inside spelled after : List ℕ) → list_all is_ascii opening ≡ true → spelled ≡ opening ++ (inside ++ codes "}") → IsUtf8 (spelled ++ after) → IsUtf8 inside × IsUtf8 after
braced_parts opening inside spelled after small e u =
    let whole : spelled ++ after ≡ opening ++ (inside ++ 125 ∷ after) =
    ap (λ k. k ++ after) e ∙ append_assoc opening (inside ++ codes "}") after ∙ ap (λ k. opening ++ k) (append_assoc inside (codes "}") after) in
    let v : IsUtf8 (inside ++ 125 ∷ after) = utf8_behind_ascii opening (inside ++ 125 ∷ after) small (subst IsUtf8 whole u) in
    (utf8_before inside 125 after (omega arith) v, utf8_behind inside 125 after (omega arith) v)

-- a letter and the attribute's own spelling are ASCII
abbrev is_letter_row : ℕ × Attribute → Bool
is_letter_row r = is_ascii r.0 && list_all is_ascii (spelled_attribute r.1)

abbrev is_word_row : List ℕ × Attribute → Bool
is_word_row r = list_all is_ascii (spelled_attribute r.1)

-- the attribute's own spelling, and what follows a form of it
form_parts : (a : Attribute) (spelled after : List ℕ) → IsFormOf a spelled → IsUtf8 (spelled ++ after) → IsUtf8 (spelled_attribute a) × IsUtf8 after
form_parts a spelled after (inl (c, e, l)) u =
    let r = found_row is_letter_row (λ k. k == c) by_letter a refl l in
    let h = and_parts (is_ascii r.0) (list_all is_ascii (spelled_attribute a)) r.2 in
    let small : is_ascii c ≡ true = subst (λ k. is_ascii k ≡ true) (eqb-true r.0 c r.1) h.0 in
    (utf8_ascii (spelled_attribute a) h.1, utf8_behind_ascii (37 ∷ c ∷ []) after (ap (λ t. t && true) small) (subst (λ k. IsUtf8 (k ++ after)) e u))
form_parts a spelled after (inr (inside, closed, inl (e, inl w))) u =
    let r = found_row is_word_row (bytes_eq inside) by_word a refl w in
    (utf8_ascii (spelled_attribute a) r.2, (braced_parts (codes "%{") inside spelled after refl e u).1)
form_parts a spelled after (inr (inside, closed, inl (e, inr (kind, name, f, k)))) u =
    let p = braced_parts (codes "%{") inside spelled after refl e u in
    (kind_utf8 (kind ∷ []) name a (utf8_behind (kind ∷ []) 44 name (omega arith) (subst IsUtf8 f p.0)) k, p.1)
form_parts a spelled after (inr (inside, closed, inr (e, k))) u =
    let p = braced_parts (codes "${") inside spelled after refl e u in
    (made Context (any_named inside) a (λ n v. in_braces (codes "${") n refl v) (any_utf8 inside p.0) k, p.1)

-- a form begins with an ASCII byte
form_begins : (a : Attribute) (spelled : List ℕ) → IsFormOf a spelled → (b : ℕ) × (more : List ℕ) × (b < 128) × (spelled ≡ b ∷ more)
form_begins a spelled (inl (c, e, l)) = (37, c ∷ [], omega arith, e)
form_begins a spelled (inr (inside, closed, inl (e, w))) = (37, 123 ∷ (inside ++ codes "}"), omega arith, e)
form_begins a spelled (inr (inside, closed, inr (e, k))) = (36, 123 ∷ (inside ++ codes "}"), omega arith, e)

-- plain bytes end before a form, or where the text does
literal_parts : (front after : List ℕ) (ps : List Piece) → IsNoLiteral ps → Spells after ps → IsUtf8 (front ++ after) → IsUtf8 front × IsUtf8 after
literal_parts front after [] bare e u = (subst IsUtf8 (ap (λ k. front ++ k) e ∙ append-nil front) u, subst IsUtf8 (sym e) IsUtf8-nil)
literal_parts front after (Literal bytes ∷ ps) bare h u = absurd bare
literal_parts front after (Value a ∷ ps) bare (spelled, rest, e, form, more) u =
    let f = form_begins a spelled form in
    let whole : after ≡ f.0 ∷ (f.1 ++ rest) = e ∙ ap (λ k. k ++ rest) f.3 in
    let v : IsUtf8 (front ++ f.0 ∷ (f.1 ++ rest)) = subst (λ k. IsUtf8 (front ++ k)) whole u in
    (utf8_before front f.0 (f.1 ++ rest) f.2 v, subst IsUtf8 (sym whole) (utf8_from front f.0 (f.1 ++ rest) f.2 v))

spells_spelt : (text : List ℕ) (ps : List Piece) → Spells text ps → IsUtf8 text → AreSpelt ps
spells_spelt text [] h u = tt
spells_spelt text (Literal bytes ∷ ps) (after, e, some, free, bare, more) u =
    let p = literal_parts (spelled_piece (Literal bytes)) after ps bare more (subst IsUtf8 e u) in (p.0, spells_spelt after ps more p.1)
spells_spelt text (Value a ∷ ps) (spelled, after, e, form, more) u =
    let p = form_parts a spelled after form (subst IsUtf8 e u) in (p.0, spells_spelt after ps more p.1)

-- the pieces that a UTF-8 text spells
pub template_spelt : (text : List ℕ) (t : List Piece) → IsUtf8 text → template_of text ≡ Ok t → AreSpelt t
template_spelt text t u e = spells_spelt text t ((templates_are_spelled text t).0 e) u

pub utf8_spelled : (t : List Piece) → AreSpelt t → IsUtf8 (spelled_template t)
utf8_spelled [] are = IsUtf8-nil
utf8_spelled (p ∷ ps) are = IsUtf8-append (spelled_piece p) (spelled_template ps) are.0 (utf8_spelled ps are.1)

long_word_small : (a : Attribute) → IfSome (long_word a) IsUtf8
long_word_small Method = utf8_ascii (codes "METHOD") refl
long_word_small RequestUrl = utf8_ascii (codes "REQUEST_URL") refl
long_word_small RelativePath = utf8_ascii (codes "RELATIVE_PATH") refl
long_word_small Query = utf8_ascii (codes "QUERY_STRING") refl
long_word_small Status = utf8_ascii (codes "RESPONSE_CODE") refl
long_word_small RequestLine = utf8_ascii (codes "REQUEST_LINE") refl
long_word_small Protocol = utf8_ascii (codes "PROTOCOL") refl
long_word_small RemoteIp = utf8_ascii (codes "REMOTE_IP") refl
long_word_small RemoteHost = utf8_ascii (codes "REMOTE_HOST") refl
long_word_small User = utf8_ascii (codes "REMOTE_USER") refl
long_word_small Moment = utf8_ascii (codes "DATE_TIME") refl
long_word_small Sent = utf8_ascii (codes "BYTES_SENT") refl
long_word_small other = tt

utf8_mapped : (f : List ℕ → List ℕ) (o : Option (List ℕ)) → ((x : List ℕ) → IsUtf8 x → IsUtf8 (f x)) → IfSome o IsUtf8 → IfSome (option_map f o) IsUtf8
utf8_mapped f None goes is = tt
utf8_mapped f (Some x) goes is = goes x is

long_form_utf8 : (p : Piece) → IfSome (long_form p) IsUtf8
long_form_utf8 (Literal bytes) = tt
long_form_utf8 (Value a) = utf8_mapped (λ word. codes "%{" ++ (word ++ codes "}")) (long_word a) (λ word u. in_braces (codes "%{") word refl u) (long_word_small a)

long_utf8 : (t : List Piece) → AreSpelt t → IfSome (spelled_long t) IsUtf8
long_utf8 [] are = tt
long_utf8 (p ∷ ps) are = by_later (spelled_long ps) (long_utf8 ps are.1)
  where
    by_later : (o : Option (List ℕ)) → IfSome o IsUtf8 →
        IfSome (elim o [
          | Some later ↦ Some (spelled_piece p ++ later)
          | None ↦ option_map (λ form. form ++ spelled_template ps) (long_form p)
        ]) IsUtf8
    by_later (Some later) is = IsUtf8-append (spelled_piece p) later are.0 is
    by_later None is = utf8_mapped (λ form. form ++ spelled_template ps) (long_form p) (λ form u. IsUtf8-append form (spelled_template ps) u (utf8_spelled ps are.1)) (long_form_utf8 p)

-- what is written of pieces whose spellings are UTF-8
pub utf8_pieces : (t : List Piece) → AreSpelt t → IsUtf8 (written_template t)
utf8_pieces t are = by_test (is_unquotable (spelled_template t)) (spelled_long t) (spelled_template t) (long_utf8 t are) (utf8_spelled t are)
  where
    by_test : (t : Bool) (o : Option (List ℕ)) (spelled : List ℕ) → IfSome o IsUtf8 → IsUtf8 spelled → IsUtf8 (if t then unwrap_or o spelled else spelled)
    by_test true None spelled is u = u
    by_test true (Some long) spelled is u = is
    by_test false o spelled is u = u

pub utf8_written : (text : List ℕ) (t : List Piece) → IsUtf8 text → template_of text ≡ Ok t → IsUtf8 (written_template t)
utf8_written text t u e = utf8_pieces t (template_spelt text t u e)

pub utf8_printed_template : (text : List ℕ) (t : List Piece) → IsUtf8 text → template_of text ≡ Ok t → IsUtf8 (printed_template t)
utf8_printed_template text t u e = utf8_printed (written_template t) (utf8_written text t u e)

pub utf8_common : IsUtf8 (written_template common)
utf8_common = utf8_ascii (written_template common) refl

pub utf8_combined : IsUtf8 (written_template combined)
utf8_combined = utf8_ascii (written_template combined) refl
