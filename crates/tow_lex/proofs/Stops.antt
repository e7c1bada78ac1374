-- A scan goes on by one token, and where it stops is the first fault of the text.
use Rattle.std.specs.Prelude.{◌≡◌, ℕ, ◌+◌, ◌<◌, ◌≤◌, true, false, nat_lt, List, [], ◌∷◌, ◌++◌, length, drop, slice_range, Option, Some, IfSome, IsUtf8}
use Rattle.std.specs.List.{list_all}
use Rattle.std.specs.Str.{IsValidUpTo}
use Rattle.std.specs.Str.Lossy.{utf8_valid_len}
use Rattle.std.proofs.Common.{sym, ◌∙◌, ap, subst, arith, rules, length-drop}
use Rattle.std.proofs.lemmas.List.Folds.{drop_split}
use Rattle.std.proofs.lemmas.Str.{utf8_valid_len-IsUtf8, utf8_valid_len-IsValidUpTo}
use mathlib.Core.Logic.{inl, inr}
use Rattle.tow_language.specs.declared.kind.Kind.{Kind}
use Rattle.tow_language.specs.declared.kind.Kind.TheVariants as kinds
use Rattle.tow_language.specs.declared.token.Token.{Token}
use Rattle.tow_language.specs.declared.token.TokenKind.{TokenKind}
use Rattle.tow_language.specs.declared.token.TokenKind.TheVariants.{Quoted, Word}
use Rattle.tow_language.specs.Tokens.{is_white, are_pieces, CutsUpTo, Reaches, HasFault, IsTokenFault, IsOpenBrace}
use Rattle.tow_language.proofs.Cut.{IsStuck, over, quote, stray, brace, one_cut, one_open, quote_kind, open_kind, stray_kind, kind_at}
use Rattle.tow_language.proofs.Kept.{quote_fault, stray_fault, brace_fault, one_stop, kinds_apart}
use Rattle.tow_lex.specs.declared.fault.LexFault.{LexFault}
use Rattle.tow_lex.specs.declared.fault.LexFault.TheVariants.{UnclosedQuote, UnclosedBrace, StrayByte, TooLong, NoMemory}
use Rattle.tow_lex.specs.Faults.{lex_fault, comes_before}
use Rattle.tow_lex.specs.Scan.{IsNext, StopsHere, Stops}
use Rattle.tow_model.proofs.Spans.{span_length}

-- white space, and then nothing more that is cut
pub gap_cuts : (text : List ℕ) (end from : ℕ) → end ≤ from → list_all is_white (slice_range text end from) ≡ true → CutsUpTo end (drop end text) [] (drop from text)
gap_cuts text end from le white = (slice_range text end from, drop_split text end from le, white)

-- white space, a token, and what is cut behind it
pub token_cuts : (text : List ℕ) (end from : ℕ) (t : Token) (more : List Token) (left : List ℕ) → end ≤ from → from ≤ length text →
    list_all is_white (slice_range text end from) ≡ true → IsNext text from t → CutsUpTo t.to (drop t.to text) more left → CutsUpTo end (drop end text) (t ∷ more) left
token_cuts text end from t more left le within white n rest =
    let forward = n.forward in
    let bytes : drop end text ≡ slice_range text end from ++ (slice_range text from t.to ++ drop t.to text) =
    drop_split text end from le ∙ ap (λ k. slice_range text end from ++ k) (drop_split text from t.to (omega (arith, forward))) in
    let to : t.to ≡ t.from + length (slice_range text from t.to) =
    span_length text from t.to (omega (arith, forward)) n.within ∙ ap (λ k. k + length (slice_range text from t.to)) (sym n.at) in
    (slice_range text end from, slice_range text from t.to, drop t.to text, bytes, white, n.at ∙ span_length text end from le within, to, n.spelled, rest)

-- where no further token begins
pub stop_there : (text : List ℕ) (start : ℕ) (fault : LexFault) → Reaches text start (drop start text) → StopsHere text start fault → Stops text fault
stop_there text start (UnclosedQuote place) r s = (start, r, s)
stop_there text start (UnclosedBrace place) r s = (start, r, s)
stop_there text start (StrayByte place) r s = (start, r, s)
stop_there text start TooLong r s = absurd s
stop_there text start NoMemory r s = absurd s

-- the fault of a text that is UTF-8 up to its place
abbrev pub IsValidBefore : List ℕ → LexFault → Type 0
IsValidBefore text (UnclosedQuote place) = place ≤ utf8_valid_len text
IsValidBefore text (UnclosedBrace place) = place ≤ utf8_valid_len text
IsValidBefore text (StrayByte place) = place ≤ utf8_valid_len text
IsValidBefore text TooLong = Unit {0}
IsValidBefore text NoMemory = Unit {0}

open_within : (text : List ℕ) (place : ℕ) → IsOpenBrace (drop place text) → place ≤ length text
open_within text place (b, inside, e, opens, still) = let n : length (drop place text) ≡ length (b ∷ inside) = ap length e in omega (arith, n, length-drop place text)

pub stop_faults : (text : List ℕ) (fault : LexFault) → length text ≤ 65536 → Stops text fault → IsValidBefore text fault →
    IfSome (lex_fault fault) (λ f. IsTokenFault text f.kind f.place)
stop_faults text (UnclosedQuote place) short (start, r, (e, q)) valid =
    quote_fault text place (drop start text) short (subst (λ k. Reaches text k (drop start text)) (sym e) r) q valid
stop_faults text (UnclosedBrace place) short (start, r, (le, are, open_)) valid =
    let pieces = slice_range text start place in let left = drop place text in
    let at : place ≡ start + length pieces = span_length text start place le (open_within text place open_) in
    let reach : Reaches text start (pieces ++ left) = subst (Reaches text start) (drop_split text start place le) r in
    subst (IsTokenFault text kinds.UnclosedBrace) (sym at) (brace_fault text start pieces left short reach are open_ (subst (λ k. k ≤ utf8_valid_len text) at valid))
stop_faults text (StrayByte place) short (start, r, (e, s)) valid =
    stray_fault text place (drop start text) short (subst (λ k. Reaches text k (drop start text)) (sym e) r) s valid
stop_faults text TooLong short (start, r, s) valid = absurd s
stop_faults text NoMemory short s valid = tt

-- no fault comes before the first place that is not UTF-8 where the scan goes at least so far
none_before : (text : List ℕ) (valid place : ℕ) (left : List ℕ) → IsValidUpTo text valid → Reaches text place left → IsStuck left → valid ≤ place →
    (other : Kind) (earlier : ℕ) → HasFault text other earlier → valid ≤ earlier
none_before text valid place left v r m le kinds.UnclosedQuote earlier (right, s, q) =
    let e = (one_stop text place earlier left right r s m (quote q)).0 in omega (arith, e)
none_before text valid place left v r m le kinds.UnclosedBrace earlier (pieces, right, start, s, are, open_, at) =
    let e = (one_stop text place start left (pieces ++ right) r s m (brace pieces right are open_)).0 in omega (arith, e, at)
none_before text valid place left v r m le kinds.StrayByte earlier (inl (right, s, z)) =
    let e = (one_stop text place earlier left right r s m (stray z)).0 in omega (arith, e)
none_before text valid place left v r m le kinds.StrayByte earlier (inr w) =
    let e = utf8_valid_len-IsValidUpTo text earlier w in let f = utf8_valid_len-IsValidUpTo text valid v in omega (arith, e, f)
none_before text valid place left v r m le other earlier h = absurd h

none_before_brace : (text : List ℕ) (valid start : ℕ) (pieces left : List ℕ) → IsValidUpTo text valid → Reaches text start (pieces ++ left) → are_pieces false pieces left ≡ true →
    IsOpenBrace left → valid ≤ start + length pieces → (other : Kind) (earlier : ℕ) → HasFault text other earlier → valid ≤ earlier
none_before_brace text valid start pieces left v r are open_ le kinds.UnclosedQuote earlier (right, s, (q, inside, is, f, g)) =
    let o = one_stop text start earlier (pieces ++ left) right r s (brace pieces left are open_) (quote (q, inside, is, f, g)) in
    let e : Word ≡ Quoted = kinds_apart (pieces ++ left) right Word Quoted o.1 (open_kind pieces left are open_) (ap kind_at f ∙ quote_kind q inside is) in absurd cc
none_before_brace text valid start pieces left v r are open_ le kinds.UnclosedBrace earlier (more, right, begin_, s, are2, open2, at) =
    let o = one_stop text start begin_ (pieces ++ left) (more ++ right) r s (brace pieces left are open_) (brace more right are2 open2) in
    let w = one_open false pieces more left right o.1 are open_ are2 open2 in
    let e = o.0 in let n : length pieces ≡ length more = ap length w.0 in omega (arith, e, at, n)
none_before_brace text valid start pieces left v r are open_ le kinds.StrayByte earlier (inl (right, s, z)) =
    let o = one_stop text start earlier (pieces ++ left) right r s (brace pieces left are open_) (stray z) in
    absurd (let h = sym (open_kind pieces left are open_) ∙ ap kind_at o.1 ∙ stray_kind right z in cc)
none_before_brace text valid start pieces left v r are open_ le kinds.StrayByte earlier (inr w) =
    let e = utf8_valid_len-IsValidUpTo text earlier w in let f = utf8_valid_len-IsValidUpTo text valid v in omega (arith, e, f)
none_before_brace text valid start pieces left v r are open_ le other earlier h = absurd h

is_less : (at place : ℕ) → nat_lt at place ≡ true → at < place
is_less at place e = search rules

not_before : (at place : ℕ) → nat_lt at place ≡ false → place ≤ at
not_before at place e = search rules

-- the scan came to the end
pub bad_at_end : (text : List ℕ) (valid : ℕ) (tokens : List Token) → length text ≤ 65536 → IsValidUpTo text valid → CutsUpTo 0 text tokens [] → IsTokenFault text kinds.StrayByte valid
bad_at_end text valid tokens short v cut =
    let within = v.short in
    (short, inr v, none_before text valid (length text) [] v (tokens, cut, omega arith) over (omega (arith, within)))

-- the scan stopped at the place or behind it
pub bad_at_stop : (text : List ℕ) (valid : ℕ) (fault : LexFault) → length text ≤ 65536 → IsValidUpTo text valid → Stops text fault → comes_before fault valid ≡ false →
    IsTokenFault text kinds.StrayByte valid
bad_at_stop text valid (UnclosedQuote place) short v (start, r, (e, q)) late =
    let le = not_before place valid late in (short, inr v, none_before text valid start (drop start text) v r (quote q) (omega (arith, le, e)))
bad_at_stop text valid (UnclosedBrace place) short v (start, r, (le, are, open_)) late =
    let pieces = slice_range text start place in let left = drop place text in
    let at : place ≡ start + length pieces = span_length text start place le (open_within text place open_) in
    let reach : Reaches text start (pieces ++ left) = subst (Reaches text start) (drop_split text start place le) r in
    (short, inr v, none_before_brace text valid start pieces left v reach are open_ (subst (λ k. valid ≤ k) at (not_before place valid late)))
bad_at_stop text valid (StrayByte place) short v (start, r, (e, s)) late =
    let le = not_before place valid late in (short, inr v, none_before text valid start (drop start text) v r (stray s) (omega (arith, le, e)))
bad_at_stop text valid TooLong short v (start, r, s) late = absurd s
bad_at_stop text valid NoMemory short v s late = absurd cc

-- the scan stopped before the place
pub early_faults : (text : List ℕ) (valid : ℕ) (fault : LexFault) → length text ≤ 65536 → IsValidUpTo text valid → Stops text fault → comes_before fault valid ≡ true →
    IfSome (lex_fault fault) (λ f. IsTokenFault text f.kind f.place)
early_faults text valid fault short v s early = stop_faults text fault short s (is_valid_before fault early)
  where
    before : (at : ℕ) → nat_lt at valid ≡ true → at ≤ utf8_valid_len text
    before at e = let f = utf8_valid_len-IsValidUpTo text valid v in let lt = is_less at valid e in omega (arith, f, lt)

    is_valid_before : (fault : LexFault) → comes_before fault valid ≡ true → IsValidBefore text fault
    is_valid_before (UnclosedQuote place) e = before place e
    is_valid_before (UnclosedBrace place) e = before place e
    is_valid_before (StrayByte place) e = before place e
    is_valid_before TooLong e = tt
    is_valid_before NoMemory e = tt

-- the scan stopped in a text that is UTF-8
pub valid_faults : (text : List ℕ) (fault : LexFault) → length text ≤ 65536 → IsUtf8 text → Stops text fault → IfSome (lex_fault fault) (λ f. IsTokenFault text f.kind f.place)
valid_faults text fault short utf8 s = stop_faults text fault short s (is_valid_before fault s)
  where
    whole : utf8_valid_len text ≡ length text
    whole = utf8_valid_len-IsUtf8 text utf8

    is_valid_before : (fault : LexFault) → Stops text fault → IsValidBefore text fault
    is_valid_before (UnclosedQuote place) (start, (ts, cut, n), (e, q)) = omega (arith, n, e, whole)
    is_valid_before (UnclosedBrace place) (start, r, (le, are, open_)) = let within = open_within text place open_ in omega (arith, within, whole)
    is_valid_before (StrayByte place) (start, (ts, cut, n), (e, q)) = omega (arith, n, e, whole)
    is_valid_before TooLong s = tt
    is_valid_before NoMemory s = tt
