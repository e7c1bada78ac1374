-- Numbers are read from their decimals.
use Rattle.std.specs.Prelude.{◌≡◌, ℕ, ◌+◌, ◌-◌, ◌*◌, ◌^◌, ◌<◌, ◌≤◌, Bool, true, false, ◌&&◌, ◌==◌, nat_le, List, [], ◌∷◌, ◌++◌, length, decimal, fold, if◌then◌else◌, Option, None, Some, option_and_then, IsUtf8}
use Rattle.std.specs.Char.{is_ascii_digit}
use Rattle.std.specs.List.{list_all}
use Rattle.std.proofs.Common.{refl, sym, ap, ap₂, ◌∙◌, arith, rules, subst}
use Rattle.std.proofs.lemmas.Fmt.{IsAscii-decimal, decimal_nonempty, length-decimal-le, digits_decimal, digits_value-decimal}
use Rattle.std.proofs.lemmas.Str.{IsUtf8-from_ascii}
use Rattle.std.proofs.lemmas.Str.Parse.{FoldsDigits, IsNumeralModel, numerals_by_fold, tells_all_ascii_digits, digits_value_short}
use Rattle.std.specs.Str.{all_ascii_digits}
use Rattle.tow_language.specs.Tokens.{begins_piece, opens_brace, are_pieces}
use Rattle.tow_language.specs.Shapes.{number_of, status_of}
use Rattle.tow_language.specs.Printed.{is_word}
use Rattle.tow_attr.proofs.Shapes.{both_left, both_right}
use Rattle.tow_print.proofs.Paths.{some_then, some_if}

all_same : (ds : List ℕ) → list_all is_ascii_digit ds ≡ all_ascii_digits ds
all_same [] = refl
all_same (d ∷ ds) = ap (λ t. is_ascii_digit d && t) (all_same ds)

-- the number that digits behind a number make
abbrev read_on : ℕ → List ℕ → ℕ
read_on n ds = fold (λ (m d : ℕ). 10 * m + (d - 48)) n ds

folds : FoldsDigits read_on
folds = record { empty = λ n. refl; more = λ n c cs range. ap (λ m. read_on m cs) {x = 10 * n + (c - 48)} {y = n * 10 + (c - 48)} (omega arith) }

model : IsNumeralModel (λ ds. all_ascii_digits ds ≡ true) (read_on 0)
model = numerals_by_fold (λ ds. all_ascii_digits ds ≡ true) tells_all_ascii_digits read_on folds

-- ten digits at most
number_below : (text : List ℕ) → list_all is_ascii_digit text ≡ true → length text ≤ 10 → read_on 0 text < 10 ^ 10
number_below text all few = digits_value_short model text 10 (sym (all_same text) ∙ all) few

-- a digit begins a piece of a word, and opens no brace
digit_word : (d : ℕ) (after : List ℕ) → is_ascii_digit d ≡ true → (begins_piece d after ≡ true) × (opens_brace d after ≡ false)
digit_word d after e =
    let low : 48 ≤ d = grind arith in
    let high : d ≤ 57 = grind arith in
    (search rules, search rules)

digits_word : (ds : List ℕ) → all_ascii_digits ds ≡ true → are_pieces false ds [] ≡ true
digits_word [] e = refl
digits_word (d ∷ ds) e =
    let w = digit_word d (ds ++ []) (both_left (is_ascii_digit d) (all_ascii_digits ds) e) in
    ap₂ (λ s t. s && are_pieces t ds []) w.0 w.1 ∙ digits_word ds (both_right (is_ascii_digit d) (all_ascii_digits ds) e)

some_word : (ds : List ℕ) → 0 < length ds → are_pieces false ds [] ≡ true → is_word ds ≡ true
some_word [] some e = absurd (omega arith)
some_word (d ∷ ds) some e = e

-- what is known of a number that is written as its decimal
pub record IsWritten (n : ℕ) : Type 0 where
  pub word : is_word (decimal n) ≡ true
  pub utf8 : IsUtf8 (decimal n)

number_is : (low high n : ℕ) (text : List ℕ) → nat_le 1 (length text) ≡ true → nat_le (length text) 10 ≡ true → list_all is_ascii_digit text ≡ true → read_on 0 text ≡ n →
    nat_le low n ≡ true → nat_le n high ≡ true → number_of low high text ≡ Some n
number_is low high n text some few digits is above below = rw some (rw few (rw digits (rw is (rw above (rw below)))))

written_number : (n : ℕ) → n < 10 ^ 10 → IsWritten n
written_number n lt =
    let h : n < 2 ^ 64 = omega (arith, lt) in
    record {
      word = some_word (decimal n) (decimal_nonempty n h) (digits_word (decimal n) (digits_decimal model n h));
      utf8 = IsUtf8-from_ascii (decimal n) (IsAscii-decimal n h);
    }

decimal_again : (low high n : ℕ) → n < 10 ^ 10 → nat_le low n ≡ true → nat_le n high ≡ true → number_of low high (decimal n) ≡ Some n
decimal_again low high n lt above below =
    let h : n < 2 ^ 64 = omega (arith, lt) in
    let few : length (decimal n) ≤ 10 = length-decimal-le 10 n (omega arith) lt h in
    let some : 0 < length (decimal n) = decimal_nonempty n h in
    number_is low high n (decimal n) (search rules) (search rules) (all_same (decimal n) ∙ digits_decimal model n h) (digits_value-decimal model n h) above below

pub number_again : (low high n : ℕ) (text : List ℕ) → number_of low high text ≡ Some n → (number_of low high (decimal n) ≡ Some n) × IsWritten n
number_again low high n text e =
    let m = read_on 0 text in
    let c = some_if ((nat_le 1 (length text) && nat_le (length text) 10) && (list_all is_ascii_digit text && (nat_le low m && nat_le m high))) m n e in
    let size = both_left (nat_le 1 (length text) && nat_le (length text) 10) (list_all is_ascii_digit text && (nat_le low m && nat_le m high)) c.0 in
    let rest = both_right (nat_le 1 (length text) && nat_le (length text) 10) (list_all is_ascii_digit text && (nat_le low m && nat_le m high)) c.0 in
    let few : nat_le (length text) 10 ≡ true = both_right (nat_le 1 (length text)) (nat_le (length text) 10) size in
    let digits : list_all is_ascii_digit text ≡ true = both_left (list_all is_ascii_digit text) (nat_le low m && nat_le m high) rest in
    let range : (nat_le low m && nat_le m high) ≡ true = both_right (list_all is_ascii_digit text) (nat_le low m && nat_le m high) rest in
    let lt : m < 10 ^ 10 = number_below text digits (at_most few) in
    subst (λ k. (number_of low high (decimal k) ≡ Some k) × IsWritten k) c.1
    (decimal_again low high m lt (both_left (nat_le low m) (nat_le m high) range) (both_right (nat_le low m) (nat_le m high) range), written_number m lt)
  where
    at_most : nat_le (length text) 10 ≡ true → length text ≤ 10
    at_most f = grind arith

abbrev but_205 : ℕ → Option ℕ
but_205 n = if n == 205 then None else Some n

is_status : (n k : ℕ) → but_205 k ≡ Some n → (k ≡ n) × (but_205 n ≡ Some n)
is_status n k e = by_test (k == 205) refl e
  where
    by_test : (t : Bool) → (k == 205) ≡ t → (if t then None else Some k) ≡ Some n → (k ≡ n) × (but_205 n ≡ Some n)
    by_test true f g = absurd (cc)
    by_test false f g = let h : k ≡ n = cc in (h, subst (λ j. but_205 j ≡ Some j) h (ap (λ (t : Bool). if t then None else Some k) f))

pub status_again : (n : ℕ) (text : List ℕ) → status_of text ≡ Some n → (status_of (decimal n) ≡ Some n) × IsWritten n
status_again n text e =
    let a = some_then (number_of 200 599 text) but_205 n e in
    let s = is_status n a.0 a.2 in
    let b = number_again 200 599 n text (a.1 ∙ ap (λ k. Some k) s.0) in
    (ap (option_and_then but_205) b.0 ∙ s.1, b.1)
