-- Bytes of which the first are put.
use Rattle.std.specs.Prelude.{true, false, nat_eq, nat_le}
use Rattle.std.proofs.Common.{◌≡◌, ℕ, ◌+◌, ◌-◌, ◌<◌, ◌≤◌, ◌/◌, ◌%◌, List, [], ◌∷◌, ◌++◌, length, take, drop, min, sym, ap, ap₂, ◌∙◌, arith, length-drop, ◌⊎◌, inl, inr}
use Rattle.std.proofs.lemmas.Bool.Decides.{leb_tells, eqb_tells}
use Rattle.std.proofs.lemmas.List.{drop-drop, take_min, drop_min, take_rest}
use Rattle.std.specs.Fmt.{digits, digit_glyph}
use Rattle.httparse.specs.Ascii.{crlf_bytes}
use Rattle.tow_model.specs.declared.limits.TheConstants.{BLOCK_LEN}
use Rattle.tow_model.specs.Texts.{is_empty}
use Rattle.tow_sending.proofs.Steps.{empty_of}
use Rattle.tow_sending.proofs.Hex.{one_digit, two_digits, three_digits, four_digits}

pub first_block : (bytes : List ℕ) (at m : ℕ) → m ≡ min (length (take (length bytes - at) (drop at bytes))) BLOCK_LEN
    → take m (take (length bytes - at) (drop at bytes)) ≡ take BLOCK_LEN (drop at bytes)
first_block bytes at m is =
    let same : take (length bytes - at) (drop at bytes) ≡ drop at bytes = take_rest bytes at in
    let least : m ≡ min BLOCK_LEN (length (drop at bytes)) = omega (arith, is, ap length same) in
    ap₂ (λ (k : ℕ) (l : List ℕ). take k l) least same ∙ take_min BLOCK_LEN (drop at bytes)

pub at_end : (bytes : List ℕ) (at n : ℕ) → at ≤ length bytes → n ≡ length bytes → nat_eq at n ≡ is_empty (drop at bytes)
at_end bytes at n within is = by (eqb_tells at n)
  where
    by : ((nat_eq at n ≡ true) × (at ≡ n)) ⊎ ((nat_eq at n ≡ false) × (at ≡ n → ⊥)) → nat_eq at n ≡ is_empty (drop at bytes)
    by (inl (e, same)) = e ∙ empty_of (drop at bytes) true (λ t. omega (arith, length-drop at bytes, is, same)) (λ t. absurd cc)
    by (inr (e, apart)) = e ∙ empty_of (drop at bytes) false (λ t. absurd cc) (λ t. omega (arith, length-drop at bytes, is, within, apart))

pub passed : (bytes : List ℕ) (at m n : ℕ) → n ≡ length bytes → m ≡ min (n - at) BLOCK_LEN → drop (at + m) bytes ≡ drop BLOCK_LEN (drop at bytes)
passed bytes at m n len is =
    let least : m ≡ min BLOCK_LEN (length (drop at bytes)) = omega (arith, is, len, length-drop at bytes) in
    sym (drop-drop m at bytes) ∙ ap (λ (k : ℕ). drop k (drop at bytes)) least ∙ drop_min BLOCK_LEN (drop at bytes)

-- the four digits with the line's end, without the zeros before it
pub size_line : (n from a b c d : ℕ) → n ≤ BLOCK_LEN → a ≡ digit_glyph false (n / 4096) → b ≡ digit_glyph false (n / 256 % 16)
    → c ≡ digit_glyph false (n / 16 % 16) → d ≡ digit_glyph false (n % 16)
    → (n < 16 → from ≡ 3) → (16 ≤ n → n < 256 → from ≡ 2) → (256 ≤ n → n < 4096 → from ≡ 1) → (4096 ≤ n → from ≡ 0)
    → drop from (a ∷ b ∷ c ∷ d ∷ 13 ∷ 10 ∷ []) ≡ digits 16 false n ++ crlf_bytes
size_line n from a b c d small ea eb ec ed three two one none = by (leb_tells n 15) (leb_tells n 255) (leb_tells n 4095)
  where
    by : ((nat_le n 15 ≡ true) × (n ≤ 15)) ⊎ ((nat_le n 15 ≡ false) × (15 < n)) → ((nat_le n 255 ≡ true) × (n ≤ 255)) ⊎ ((nat_le n 255 ≡ false) × (255 < n))
        → ((nat_le n 4095 ≡ true) × (n ≤ 4095)) ⊎ ((nat_le n 4095 ≡ false) × (4095 < n)) → drop from (a ∷ b ∷ c ∷ d ∷ 13 ∷ 10 ∷ []) ≡ digits 16 false n ++ crlf_bytes
    by (inl (e, x)) y z =
        let from_is : from ≡ 3 = three (omega (arith, x)) in
        ap (λ (k : ℕ). drop k (a ∷ b ∷ c ∷ d ∷ 13 ∷ 10 ∷ [])) from_is
        ∙ ap (λ (k : ℕ). k ∷ 13 ∷ 10 ∷ []) ed ∙ ap (λ (l : List ℕ). l ++ crlf_bytes) (one_digit n (omega (arith, x)))
    by (inr (e, x)) (inl (f, y)) z =
        let from_is : from ≡ 2 = two (omega (arith, x)) (omega (arith, y)) in
        ap (λ (k : ℕ). drop k (a ∷ b ∷ c ∷ d ∷ 13 ∷ 10 ∷ [])) from_is
        ∙ ap₂ (λ (j : ℕ) (k : ℕ). j ∷ k ∷ 13 ∷ 10 ∷ []) ec ed ∙ ap (λ (l : List ℕ). l ++ crlf_bytes) (two_digits n (omega (arith, x)) (omega (arith, y)))
    by (inr (e, x)) (inr (f, y)) (inl (g, z)) =
        let from_is : from ≡ 1 = one (omega (arith, y)) (omega (arith, z)) in
        ap (λ (k : ℕ). drop k (a ∷ b ∷ c ∷ d ∷ 13 ∷ 10 ∷ [])) from_is
        ∙ ap (λ (i : ℕ). i ∷ c ∷ d ∷ 13 ∷ 10 ∷ []) eb
        ∙ ap₂ (λ (j : ℕ) (k : ℕ). digit_glyph false (n / 256 % 16) ∷ j ∷ k ∷ 13 ∷ 10 ∷ []) ec ed ∙ ap (λ (l : List ℕ). l ++ crlf_bytes) (three_digits n (omega (arith, y)) (omega (arith, z)))
    by (inr (e, x)) (inr (f, y)) (inr (g, z)) =
        let from_is : from ≡ 0 = none (omega (arith, z)) in
        ap (λ (k : ℕ). drop k (a ∷ b ∷ c ∷ d ∷ 13 ∷ 10 ∷ [])) from_is
        ∙ ap₂ (λ (h : ℕ) (i : ℕ). h ∷ i ∷ c ∷ d ∷ 13 ∷ 10 ∷ []) ea eb
        ∙ ap₂ (λ (j : ℕ) (k : ℕ). digit_glyph false (n / 4096) ∷ digit_glyph false (n / 256 % 16) ∷ j ∷ k ∷ 13 ∷ 10 ∷ []) ec ed
        ∙ ap (λ (l : List ℕ). l ++ crlf_bytes) (four_digits n (omega (arith, z)) (omega (arith, small)))
