-- The elements of list fields, piece by piece and line by line.
use Rattle.std.proofs.Common.{◌≡◌, ℕ, ◌+◌, ◌<◌, Bool, true, false, not, ◌&&◌, ◌||◌, List, [], ◌∷◌, ◌++◌, length, get_or, map, filter, flat_map, take, if◌then◌else◌, refl, sym, ap, ◌∙◌, append_assoc, append-nil}
use Rattle.std.proofs.Math.Bool.{cond}
use Rattle.std.proofs.lemmas.Grind.{flat_map-append}
use Rattle.std.proofs.lemmas.List.{map-append, take_more}
use Rattle.std.proofs.lemmas.List.Elements.{filter-append}
use Rattle.std.proofs.lemmas.List.Folds.{list_any-append}
use Rattle.std.specs.List.{list_any}
use denote.Ref.{Bor}
use Rattle.std.specs.Str.{bytes_eq}
use Rattle.http_header.specs.Token.{lowercase}
use Rattle.httparse.specs.declared.spans.HeaderSpan.{HeaderSpan}
use Rattle.tow_model.specs.declared.request.Field.{Field}
use Rattle.tow_model.specs.Texts.{Text, is_empty, cut_at, trimmed}
use Rattle.tow_model.specs.Fields.{is_named, values_of, elements}
use Rattle.tow_request.specs.Lines.{field_at, fields_at, elements_in}

-- ---- pieces

-- the elements among the pieces between commas
abbrev pub listed : List Text → List Text
listed pieces = filter (λ e. not (is_empty e)) (map (λ e. lowercase (trimmed e)) pieces)

pub of_value : (value : Text) → elements (value ∷ []) ≡ listed (cut_at 44 value)
of_value value = ap listed (append-nil (cut_at 44 value))

listed_append : (a b : List Text) → listed (a ++ b) ≡ listed a ++ listed b
listed_append a b =
    ap (filter (λ e. not (is_empty e))) (map-append (λ e. lowercase (trimmed e)) a b)
    ∙ filter-append (λ e. not (is_empty e)) (map (λ e. lowercase (trimmed e)) a) (map (λ e. lowercase (trimmed e)) b)

-- what a piece adds
abbrev pub element_of : Text → List Text
element_of text = if is_empty text then [] else lowercase text ∷ []

one_element : (text : Text) → filter (λ e. not (is_empty e)) (lowercase text ∷ []) ≡ element_of text
one_element [] = refl
one_element (b ∷ text) = refl

piece_more : (pieces : List Text) (piece : Text) → listed (pieces ++ piece ∷ []) ≡ listed pieces ++ element_of (trimmed piece)
piece_more pieces piece = listed_append pieces (piece ∷ []) ∙ ap (λ k. listed pieces ++ k) (one_element (trimmed piece))

-- what a piece adds to those before it
pub one_grown : (before : List Text) (pieces : List (Bor Text)) (piece : Bor Text) (element : Text) → element ≡ trimmed piece.now
    → (before ++ listed (map (λ x. x.now) pieces)) ++ element_of element ≡ before ++ listed (map (λ x. x.now) (pieces ++ piece ∷ []))
one_grown before pieces piece element is =
    append_assoc before (listed (map (λ x. x.now) pieces)) (element_of element)
    ∙ ap (λ k. before ++ k)
    (ap (λ k. listed (map (λ x. x.now) pieces) ++ element_of k) is
    ∙ sym (piece_more (map (λ x. x.now) pieces) piece.now)
    ∙ ap listed (sym (map-append (λ (x : Bor Text). x.now) pieces (piece ∷ []))))

any_first : (word text : Text) (rest : List Text)
    → ((not (is_empty text) && bytes_eq word (lowercase text)) || list_any (bytes_eq word) (filter (λ e. not (is_empty e)) rest))
    ≡ list_any (bytes_eq word) (filter (λ e. not (is_empty e)) (lowercase text ∷ rest))
any_first word [] rest = refl
any_first word (b ∷ text) rest = refl

pub any_piece : (word : Text) (pieces : List Text)
    → list_any (λ piece. not (is_empty (trimmed piece)) && bytes_eq word (lowercase (trimmed piece))) pieces ≡ list_any (bytes_eq word) (listed pieces)
any_piece word [] = refl
any_piece word (piece ∷ pieces) =
    ap (λ k. (not (is_empty (trimmed piece)) && bytes_eq word (lowercase (trimmed piece))) || k) (any_piece word pieces)
    ∙ any_first word (trimmed piece) (map (λ e. lowercase (trimmed e)) pieces)

-- ---- lines

elements_append : (a b : List Text) → elements (a ++ b) ≡ elements a ++ elements b
elements_append a b = ap listed (flat_map-append (cut_at 44) a b) ∙ listed_append (flat_map (cut_at 44) a) (flat_map (cut_at 44) b)

by_line : (name : Text) (fields : List Field) → elements (values_of name fields) ≡ flat_map (elements_in name) fields
by_line name [] = refl
by_line name (f ∷ fields) = by_test (is_named name f) (by_line name fields)
  where
    by_test : (t : Bool) → elements (values_of name fields) ≡ flat_map (elements_in name) fields
        → elements (map (λ g. g.value) (cond t (f ∷ filter (is_named name) fields) (filter (is_named name) fields)))
        ≡ (if t then elements (f.value ∷ []) else []) ++ flat_map (elements_in name) fields
    by_test true e = elements_append (f.value ∷ []) (values_of name fields) ∙ ap (λ k. elements (f.value ∷ []) ++ k) e
    by_test false e = e

-- one more line
pub line_more : (name : Text) (bytes : List ℕ) (lines : List HeaderSpan) (i : ℕ) (d : HeaderSpan) → i < length lines
    → elements (values_of name (fields_at bytes (take (i + 1) lines)))
    ≡ elements (values_of name (fields_at bytes (take i lines))) ++ elements_in name (field_at bytes (get_or lines i d))
line_more name bytes lines i d within =
    let last = field_at bytes (get_or lines i d) in
    by_line name (fields_at bytes (take (i + 1) lines))
    ∙ ap (λ k. flat_map (elements_in name) (fields_at bytes k)) (take_more lines i d within)
    ∙ ap (flat_map (elements_in name)) (map-append (field_at bytes) (take i lines) (get_or lines i d ∷ []))
    ∙ flat_map-append (elements_in name) (fields_at bytes (take i lines)) (last ∷ [])
    ∙ ap (λ k. k ++ flat_map (elements_in name) (last ∷ [])) (sym (by_line name (fields_at bytes (take i lines))))
    ∙ ap (λ k. elements (values_of name (fields_at bytes (take i lines))) ++ k) (append-nil (elements_in name last))

-- an element among all lines is one of some line
any_in : (test : Text → Bool) (name : Text) (fields : List Field)
    → list_any (λ f. list_any test (elements_in name f)) fields ≡ list_any test (flat_map (elements_in name) fields)
any_in test name [] = refl
any_in test name (f ∷ fields) =
    ap (λ k. list_any test (elements_in name f) || k) (any_in test name fields)
    ∙ sym (list_any-append test (elements_in name f) (flat_map (elements_in name) fields))

pub any_line : (test : Text → Bool) (name : Text) (fields : List Field)
    → list_any (λ f. list_any test (elements_in name f)) fields ≡ list_any test (elements (values_of name fields))
any_line test name fields = any_in test name fields ∙ ap (list_any test) (sym (by_line name fields))
