-- The digits of a size of at most four.
use Rattle.std.specs.Prelude.{Bool, true, false, drop, ◌==◌, if◌then◌else◌}
use Rattle.std.proofs.Common.{◌≡◌, ℕ, ◌<◌, ◌≤◌, ◌/◌, ◌%◌, List, [], ◌∷◌, sym, ap, ap₂, ◌∙◌, arith, suc, eq-eqb, ne_eqb}
use Rattle.std.specs.Fmt.{digits, digits_onto, digit_glyph}
use Rattle.std.proofs.lemmas.Fmt.{hex_one_digit, hex_two_digits}

abbrev pub four : ℕ → List ℕ
four n = digit_glyph false (n / 4096) ∷ digit_glyph false (n / 256 % 16) ∷ digit_glyph false (n / 16 % 16) ∷ digit_glyph false (n % 16) ∷ []

pub one_digit : (n : ℕ) → n < 16 → drop 3 (four n) ≡ digits 16 false n
one_digit n small =
    let same : n % 16 ≡ n = omega arith in
    ap (λ (d : ℕ). digit_glyph false d ∷ []) same ∙ sym (hex_one_digit false n small)

pub two_digits : (n : ℕ) → 16 ≤ n → n < 256 → drop 2 (four n) ≡ digits 16 false n
two_digits n large small =
    let same : n / 16 % 16 ≡ n / 16 = omega arith in
    ap (λ (d : ℕ). digit_glyph false d ∷ digit_glyph false (n % 16) ∷ []) same ∙ sym (hex_two_digits false n large small)

onto_last : (k n : ℕ) (acc : List ℕ) → n < 16 → digits_onto (suc k) 16 false n acc ≡ digit_glyph false (n % 16) ∷ acc
onto_last k n acc small =
    let e : (n / 16 == 0) ≡ true = eq-eqb (n / 16) 0 (omega arith) in
    ap (λ (b : Bool). if b then digit_glyph false (n % 16) ∷ acc else digits_onto k 16 false (n / 16) (digit_glyph false (n % 16) ∷ acc)) e

onto_more : (k n : ℕ) (acc : List ℕ) → 16 ≤ n → digits_onto (suc k) 16 false n acc ≡ digits_onto k 16 false (n / 16) (digit_glyph false (n % 16) ∷ acc)
onto_more k n acc large =
    let e : (n / 16 == 0) ≡ false = ne_eqb (n / 16) 0 (λ z. omega (arith, z, large)) in
    ap (λ (b : Bool). if b then digit_glyph false (n % 16) ∷ acc else digits_onto k 16 false (n / 16) (digit_glyph false (n % 16) ∷ acc)) e

three_onto : (k n : ℕ) → 256 ≤ n → n < 4096 → digits_onto (suc (suc (suc k))) 16 false n [] ≡ drop 1 (four n)
three_onto k n large small =
    let a : n / 16 / 16 % 16 ≡ n / 256 % 16 = omega arith in
    onto_more (suc (suc k)) n [] (omega arith)
    ∙ onto_more (suc k) (n / 16) (digit_glyph false (n % 16) ∷ []) (omega arith)
    ∙ onto_last k (n / 16 / 16) (digit_glyph false (n / 16 % 16) ∷ digit_glyph false (n % 16) ∷ []) (omega arith)
    ∙ ap (λ (d : ℕ). digit_glyph false d ∷ digit_glyph false (n / 16 % 16) ∷ digit_glyph false (n % 16) ∷ []) a

four_onto : (k n : ℕ) → 4096 ≤ n → n < 65536 → digits_onto (suc (suc (suc (suc k)))) 16 false n [] ≡ four n
four_onto k n large small =
    let a : n / 16 / 16 % 16 ≡ n / 256 % 16 = omega arith in
    let b : n / 16 / 16 / 16 % 16 ≡ n / 4096 = omega arith in
    onto_more (suc (suc (suc k))) n [] (omega arith)
    ∙ onto_more (suc (suc k)) (n / 16) (digit_glyph false (n % 16) ∷ []) (omega arith)
    ∙ onto_more (suc k) (n / 16 / 16) (digit_glyph false (n / 16 % 16) ∷ digit_glyph false (n % 16) ∷ []) (omega arith)
    ∙ onto_last k (n / 16 / 16 / 16) (digit_glyph false (n / 16 / 16 % 16) ∷ digit_glyph false (n / 16 % 16) ∷ digit_glyph false (n % 16) ∷ []) (omega arith)
    ∙ ap₂ (λ (d : ℕ) (e : ℕ). digit_glyph false d ∷ digit_glyph false e ∷ digit_glyph false (n / 16 % 16) ∷ digit_glyph false (n % 16) ∷ []) b a

pub three_digits : (n : ℕ) → 256 ≤ n → n < 4096 → drop 1 (four n) ≡ digits 16 false n
unfolding digits
three_digits n large small = sym (three_onto 61 n large small)

pub four_digits : (n : ℕ) → 4096 ≤ n → n < 65536 → four n ≡ digits 16 false n
unfolding digits
four_digits n large small = sym (four_onto 60 n large small)
