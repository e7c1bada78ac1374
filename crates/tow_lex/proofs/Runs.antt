-- One byte of white space, of a quoted text and of a word.
use Rattle.std.specs.Prelude.{◌≡◌, ℕ, ◌+◌, ◌<◌, ◌≤◌, ◌==◌, Bool, true, false, not, ◌&&◌, ◌||◌, List, [], ◌∷◌, ◌++◌, length, get_or, drop, slice_range}
use Rattle.std.proofs.Common.{sym, ◌∙◌, ap, ap₂, arith, rules}
use Rattle.std.proofs.lemmas.List.Folds.{drop_split}
use Rattle.std.specs.List.{list_all}
use Rattle.tow_language.specs.Tokens.{is_white, begins_piece, opens_brace, are_pieces, no_piece, is_quote, are_escaped, last_byte, is_open, IsQuoted, IsOpenQuote, IsOpenBrace}
use Rattle.tow_lex.specs.Scan.{Leads}
use Rattle.tow_model.proofs.Spans.{byte_then, none_then, span_none, span_step, span_more, span_end}

pub white_step : (text : List ℕ) (at to : ℕ) → at < to → at < length text → is_white (get_or text at 0) ≡ true →
    list_all is_white (slice_range text at to) ≡ list_all is_white (slice_range text (at + 1) to)
white_step text at to lt within white =
    ap (list_all is_white) (span_step text at to lt within) ∙ ap (λ t. t && list_all is_white (slice_range text (at + 1) to)) white

pub quote_step : (text : List ℕ) (at to q before : ℕ) → at < to → at < length text → (not (get_or text at 0 == q) || before == 92) ≡ true →
    (are_escaped q before (slice_range text at to) ≡ are_escaped q (get_or text at 0) (slice_range text (at + 1) to))
    × (last_byte before (slice_range text at to) ≡ last_byte (get_or text at 0) (slice_range text (at + 1) to))
quote_step text at to q before lt within e =
    let s = span_step text at to lt within in
    (ap (are_escaped q before) s ∙ ap (λ t. t && are_escaped q (get_or text at 0) (slice_range text (at + 1) to)) e, ap (last_byte before) s)

pub quote_closes : (text : List ℕ) (from at before : ℕ) → from < at → at < length text → is_quote (get_or text from 0) ≡ true →
    get_or text at 0 ≡ get_or text from 0 → (before == 92) ≡ false →
    are_escaped (get_or text from 0) (get_or text from 0) (slice_range text (from + 1) at) ≡ are_escaped (get_or text from 0) before (slice_range text at at) →
    last_byte (get_or text from 0) (slice_range text (from + 1) at) ≡ last_byte before (slice_range text at at) →
    IsQuoted (slice_range text from (at + 1))
quote_closes text from at before lt within quote same ne escaped last =
    let q = get_or text from 0 in
    let spelled : slice_range text from (at + 1) ≡ q ∷ (slice_range text (from + 1) at ++ q ∷ []) =
    span_step text from (at + 1) (omega arith) (omega arith) ∙ ap (λ s. q ∷ s) (span_more text (from + 1) at (omega arith) within ∙ ap (λ b. slice_range text (from + 1) at ++ b ∷ []) same) in (
      q,
      slice_range text (from + 1) at,
      quote,
      spelled,
      escaped ∙ ap (are_escaped q before) (span_none text at at (omega arith)),
      ap (λ b. b == 92) (last ∙ ap (last_byte before) (span_none text at at (omega arith))) ∙ ne,
    )

pub quote_open : (text : List ℕ) (from at before : ℕ) → from < length text → length text ≤ at → is_quote (get_or text from 0) ≡ true →
    are_escaped (get_or text from 0) (get_or text from 0) (slice_range text (from + 1) (length text)) ≡ are_escaped (get_or text from 0) before (slice_range text at (length text)) →
    IsOpenQuote (drop from text)
quote_open text from at before within over quote escaped =
    let q = get_or text from 0 in (
      q,
      drop (from + 1) text,
      quote,
      byte_then text from within,
      sym (ap (are_escaped q q) (span_end text (from + 1))) ∙ escaped ∙ ap (are_escaped q before) (span_none text at (length text) over),
    )

pub piece_step : (text : List ℕ) (at : ℕ) → at < length text → begins_piece (get_or text at 0) (drop (at + 1) text) ≡ true →
    Leads text false at (opens_brace (get_or text at 0) (drop (at + 1) text)) (at + 1)
piece_step text at within begins to le short =
    let b = get_or text at 0 in let s = slice_range text (at + 1) to in
    ap (λ k. are_pieces false k (drop to text)) (span_step text at to (omega arith) within)
    ∙ ap (λ k. begins_piece b k && are_pieces (opens_brace b k) s (drop to text)) (sym (drop_split text (at + 1) to le))
    ∙ ap (λ t. t && are_pieces (opens_brace b (drop (at + 1) text)) s (drop to text)) begins

pub brace_step : (text : List ℕ) (at : ℕ) → at < length text → (get_or text at 0 == 10) ≡ false → Leads text true at (not (get_or text at 0 == 125)) (at + 1)
brace_step text at within e to le short =
    let b = get_or text at 0 in let s = slice_range text (at + 1) to in
    ap (λ k. are_pieces true k (drop to text)) (span_step text at to (omega arith) within)
    ∙ ap (λ t. not t && are_pieces (not (b == 125)) s (drop to text)) e

pub open_step : (text : List ℕ) (at : ℕ) → at < length text → (get_or text at 0 == 10) ≡ false → (get_or text at 0 == 125) ≡ false →
    is_open (drop at text) ≡ is_open (drop (at + 1) text)
open_step text at within e f =
    ap is_open (byte_then text at within) ∙ ap₂ (λ s t. s || (not t && is_open (drop (at + 1) text))) e f

pub open_at_line : (text : List ℕ) (at : ℕ) → at < length text → (get_or text at 0 == 10) ≡ true → is_open (drop at text) ≡ true
open_at_line text at within e =
    let b = get_or text at 0 in
    ap is_open (byte_then text at within) ∙ ap (λ s. s || (not (b == 125) && is_open (drop (at + 1) text))) e

pub open_at_end : (text : List ℕ) (at : ℕ) → length text ≤ at → is_open (drop at text) ≡ true
open_at_end text at le = ap is_open (none_then text at le)

pub leads_on : (text : List ℕ) (a b c : Bool) (i j k : ℕ) → j ≤ k → Leads text a i b j → Leads text b j c k → Leads text a i c k
leads_on text a b c i j k le x y to low short = x to (omega arith) short ∙ y to low short

-- up to a place outside of braces
pub leads_here : (text : List ℕ) (from at : ℕ) → at ≤ length text → Leads text false from false at → are_pieces false (slice_range text from at) (drop at text) ≡ true
leads_here text from at short x = x at (omega arith) short ∙ ap (λ s. are_pieces false s (drop at text)) (span_none text at at (omega arith))

pub no_piece_at : (text : List ℕ) (at : ℕ) → at < length text → begins_piece (get_or text at 0) (drop (at + 1) text) ≡ false → no_piece (drop at text) ≡ true
no_piece_at text at within e = ap no_piece (byte_then text at within) ∙ ap not e

pub no_piece_at_end : (text : List ℕ) (at : ℕ) → length text ≤ at → no_piece (drop at text) ≡ true
no_piece_at_end text at le = ap no_piece (none_then text at le)

pub brace_opens : (text : List ℕ) (at : ℕ) → at < length text → opens_brace (get_or text at 0) (drop (at + 1) text) ≡ true → is_open (drop (at + 1) text) ≡ true →
    IsOpenBrace (drop at text)
brace_opens text at within opens still = (get_or text at 0, drop (at + 1) text, byte_then text at within, opens, still)

pub is_escaped_byte : (b q before : ℕ) → before ≡ 92 → (not (b == q) || before == 92) ≡ true
is_escaped_byte b q before e = search rules

pub is_other_byte : (b q before : ℕ) → (b ≡ q → ⊥) → (not (b == q) || before == 92) ≡ true
is_other_byte b q before e = search rules

pub test_fails : (a b : ℕ) → (a ≡ b → ⊥) → (a == b) ≡ false
test_fails a b e = search rules

pub test_holds : (a b : ℕ) → a ≡ b → (a == b) ≡ true
test_holds a b e = search rules
