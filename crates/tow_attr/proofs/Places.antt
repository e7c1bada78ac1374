-- What a text gives from a place on.
use Rattle.std.specs.Prelude.{◌≡◌, ℕ, ◌+◌, ◌<◌, ◌≤◌, true, false, ◌||◌, ◌&&◌, ◌==◌, List, [], ◌∷◌, ◌++◌, length, get_or, drop, slice_range, Some, Ok, Err, if◌then◌else◌}
use Rattle.std.specs.List.{list_all}
use Rattle.std.proofs.Common.{sym, ◌∙◌, ap, ap₂, subst, arith, rules}
use Rattle.std.proofs.lemmas.List.Folds.{drop_split}
use Rattle.tow_model.specs.declared.attribute.Attribute.{Attribute}
use Rattle.tow_model.specs.declared.attribute.Piece.{Piece}
use Rattle.tow_model.specs.declared.attribute.Piece.TheVariants.{Literal, Value}
use Rattle.tow_language.specs.Templates.{begins_value, piece_of, with_first, template_from}
use Rattle.tow_model.proofs.Spans.{byte_then, none_then, span_none, span_step, span_more, span_end, span_length}
use Rattle.tow_attr.specs.Reading.{literal_of, ahead, rest_from, plain_ahead}
use Rattle.tow_attr.proofs.Shapes.{IsShape, two, braced, is_inside, shape_reads, begin_reads, open_reads}
use Rattle.tow_attr.proofs.Joins.{plain_none, plain_twice, ahead_plain, ahead_value, with_literal_none}

-- a byte that stands for itself
pub plain_goes : (text : List ℕ) (from at : ℕ) → from ≤ at → at < length text → begins_value (get_or text at 0) (drop (at + 1) text) ≡ false →
    plain_ahead (slice_range text from at) (rest_from text at) ≡ plain_ahead (slice_range text from (at + 1)) (rest_from text (at + 1))
plain_goes text from at le within e =
    let b = get_or text at 0 in let bytes = drop (at + 1) text in
    let step : rest_from text at ≡ plain_ahead (b ∷ []) (rest_from text (at + 1)) =
    ap (template_from [] at) (byte_then text at within)
    ∙ ap (λ t. if t then template_from (b ∷ []) at bytes else with_first (Some (Literal (b ∷ []))) (template_from [] (at + 1) bytes) at) e in
    ap (plain_ahead (slice_range text from at)) step ∙ plain_twice (slice_range text from at) (b ∷ []) (rest_from text (at + 1))
    ∙ ap (λ k. plain_ahead k (rest_from text (at + 1))) (sym (span_more text from at le within))

pub plain_here : (text : List ℕ) (from : ℕ) → rest_from text from ≡ plain_ahead (slice_range text from from) (rest_from text from)
plain_here text from = sym (ap (λ k. plain_ahead k (rest_from text from)) (span_none text from from (omega arith)) ∙ plain_none (rest_from text from))

pub shape_whole : (text : List ℕ) (from to : ℕ) → from ≤ to → to ≤ length text → IsShape (slice_range text from to) →
    rest_from text from ≡ with_first (piece_of (slice_range text from to)) (rest_from text to) from
shape_whole text from to le short shape =
    let spelled = slice_range text from to in
    ap (template_from [] from) (drop_split text from to le) ∙ shape_reads spelled (drop to text) from shape
    ∙ ap (λ n. with_first (piece_of spelled) (template_from [] n (drop to text)) from) (sym (span_length text from to le short))

next_percent : (b c : ℕ) (rest : List ℕ) → begins_value b (c ∷ rest) ≡ true → (c == 123) ≡ false → b ≡ 37
next_percent b c rest e f = search rules

next_sigil : (b c : ℕ) (rest : List ℕ) → begins_value b (c ∷ rest) ≡ true → (b == 37 || b == 36) ≡ true
next_sigil b c rest e = search rules

pub span_two : (text : List ℕ) (from : ℕ) → from + 1 < length text → slice_range text from (from + 2) ≡ get_or text from 0 ∷ get_or text (from + 1) 0 ∷ []
span_two text from within =
    let e : from + 1 + 1 ≡ from + 2 = omega arith in
    span_step text from (from + 2) (omega arith) (omega arith)
    ∙ ap (λ k. get_or text from 0 ∷ k) (span_step text (from + 1) (from + 2) (omega arith) within ∙ ap (λ k. get_or text (from + 1) 0 ∷ k) (span_none text (from + 1 + 1) (from + 2) (omega arith)))

pub two_whole : (text : List ℕ) (from : ℕ) → from + 1 < length text → begins_value (get_or text from 0) (drop (from + 1) text) ≡ true →
    (get_or text (from + 1) 0 == 123) ≡ false → rest_from text from ≡ with_first (piece_of (slice_range text from (from + 2))) (rest_from text (from + 2)) from
two_whole text from within e f =
    let b = get_or text from 0 in let c = get_or text (from + 1) 0 in
    let percent : b ≡ 37 = next_percent b c (drop (from + 1 + 1) text) (subst (λ k. begins_value b k ≡ true) (byte_then text (from + 1) within) e) f in
    let shape : IsShape (b ∷ c ∷ []) = subst (λ k. IsShape (k ∷ c ∷ [])) (sym percent) (two c f) in
    shape_whole text from (from + 2) (omega arith) (omega arith) (subst IsShape (sym (span_two text from within)) shape)

pub braced_whole : (text : List ℕ) (from at : ℕ) → from + 2 ≤ at → at < length text → begins_value (get_or text from 0) (drop (from + 1) text) ≡ true →
    get_or text (from + 1) 0 ≡ 123 → get_or text at 0 ≡ 125 → list_all is_inside (slice_range text (from + 2) at) ≡ true →
    rest_from text from ≡ with_first (piece_of (slice_range text from (at + 1))) (rest_from text (at + 1)) from
braced_whole text from at le within e f g n =
    let b = get_or text from 0 in let inside = slice_range text (from + 2) at in
    let sigil : (b == 37 || b == 36) ≡ true = next_sigil b (get_or text (from + 1) 0) (drop (from + 1 + 1) text) (subst (λ k. begins_value b k ≡ true) (byte_then text (from + 1) (omega arith)) e) in
    let two_on : from + 1 + 1 ≡ from + 2 = omega arith in
    let spelled : slice_range text from (at + 1) ≡ b ∷ 123 ∷ (inside ++ 125 ∷ []) =
    span_step text from (at + 1) (omega arith) (omega arith)
    ∙ ap (λ k. b ∷ k) (span_step text (from + 1) (at + 1) (omega arith) (omega arith) ∙ ap₂ (λ k n. k ∷ slice_range text n (at + 1)) f two_on)
    ∙ ap (λ k. b ∷ 123 ∷ k) (span_more text (from + 2) at le within ∙ ap (λ k. inside ++ k ∷ []) g) in
    shape_whole text from (at + 1) (omega arith) (omega arith) (subst IsShape (sym spelled) (braced b inside sigil n))

pub inside_step : (text : List ℕ) (at to : ℕ) → at < to → at < length text → (get_or text at 0 ≡ 125 → ⊥) →
    list_all is_inside (slice_range text at to) ≡ list_all is_inside (slice_range text (at + 1) to)
inside_step text at to lt within ne =
    let e : is_inside (get_or text at 0) ≡ true = search rules in
    ap (list_all is_inside) (span_step text at to lt within) ∙ ap (λ t. t && list_all is_inside (slice_range text (at + 1) to)) e

pub inside_none : (text : List ℕ) (at to : ℕ) → to ≤ at → list_all is_inside (slice_range text at to) ≡ true
inside_none text at to le = ap (list_all is_inside) (span_none text at to le)

-- a `%` at the end
pub ends_short : (text : List ℕ) (from : ℕ) → from + 1 ≡ length text → begins_value (get_or text from 0) (drop (from + 1) text) ≡ true → rest_from text from ≡ Err from
ends_short text from last e =
    ap (template_from [] from) (byte_then text from (omega arith)) ∙ begin_reads (get_or text from 0) from (drop (from + 1) text) e
    ∙ ap (template_from (get_or text from 0 ∷ []) from) (none_then text (from + 1) (omega arith))

-- a brace that stays open
pub ends_open : (text : List ℕ) (from : ℕ) → from + 1 < length text → begins_value (get_or text from 0) (drop (from + 1) text) ≡ true →
    get_or text (from + 1) 0 ≡ 123 → list_all is_inside (slice_range text (from + 2) (length text)) ≡ true → rest_from text from ≡ Err from
ends_open text from within e f n =
    let b = get_or text from 0 in let two_on : from + 1 + 1 ≡ from + 2 = omega arith in
    ap (template_from [] from) (byte_then text from (omega arith)) ∙ begin_reads b from (drop (from + 1) text) e
    ∙ ap (template_from (b ∷ []) from) (byte_then text (from + 1) within ∙ ap₂ (λ k n. k ∷ drop n text) f two_on)
    ∙ open_reads b from [] (drop (from + 2) text) (sym (ap (list_all is_inside) (span_end text (from + 2))) ∙ n)

-- `%%` is read as a plain byte
pub percent_read : (text : List ℕ) (from to : ℕ) (pieces : List Piece) (bytes : List ℕ) → from + 1 < length text → to ≡ from + 2 → get_or text (from + 1) 0 ≡ 37 →
    rest_from text from ≡ with_first (piece_of (slice_range text from to)) (rest_from text to) from →
    ahead pieces bytes (rest_from text from) ≡ ahead pieces (bytes ++ 37 ∷ []) (rest_from text to)
percent_read text from to pieces bytes within end e whole =
    let spelled : slice_range text from to ≡ get_or text from 0 ∷ 37 ∷ [] =
    ap (slice_range text from) end ∙ span_two text from within ∙ ap (λ k. get_or text from 0 ∷ k ∷ []) e in
    ap (ahead pieces bytes) (whole ∙ ap (λ k. with_first (piece_of k) (rest_from text to) from) spelled) ∙ ahead_plain pieces bytes (37 ∷ []) (rest_from text to)

-- an attribute is read as a value
pub value_read : (text : List ℕ) (from to : ℕ) (pieces : List Piece) (bytes : List ℕ) (a : Attribute) → piece_of (slice_range text from to) ≡ Some (Value a) →
    rest_from text from ≡ with_first (piece_of (slice_range text from to)) (rest_from text to) from →
    ahead pieces bytes (rest_from text from) ≡ ahead (pieces ++ (literal_of bytes ++ Value a ∷ [])) [] (rest_from text to)
value_read text from to pieces bytes a e whole =
    ap (ahead pieces bytes) (whole ∙ ap (λ k. with_first k (rest_from text to) from) e) ∙ ahead_value pieces bytes a (rest_from text to) from

-- plain bytes are read
pub plain_read : (text : List ℕ) (at from : ℕ) (pieces : List Piece) (bytes : List ℕ) → rest_from text at ≡ plain_ahead (slice_range text at from) (rest_from text from) →
    ahead pieces bytes (rest_from text at) ≡ ahead pieces (bytes ++ slice_range text at from) (rest_from text from)
plain_read text at from pieces bytes e = ap (ahead pieces bytes) e ∙ ahead_plain pieces bytes (slice_range text at from) (rest_from text from)

-- nothing is left
pub all_read : (text : List ℕ) (from : ℕ) (pieces : List Piece) (bytes : List ℕ) → length text ≤ from → ahead pieces bytes (rest_from text from) ≡ Ok (pieces ++ literal_of bytes)
all_read text from pieces bytes le =
    ap (λ k. ahead pieces bytes (template_from [] from k)) (none_then text from le) ∙ ap (λ k. Ok (pieces ++ k)) (with_literal_none bytes)
