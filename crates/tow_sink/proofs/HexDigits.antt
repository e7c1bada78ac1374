-- The digits of a size, from the last one on.
use Rattle.std.proofs.Common.{◌≡◌, ℕ, zero, suc, ◌-◌, ◌*◌, ◌/◌, ◌%◌, ◌^◌, ◌<◌, ◌≤◌, Bool, true, false, ◌==◌, if◌then◌else◌, List, [], ◌∷◌, ◌++◌, refl, sym, ap, ◌∙◌, subst, arith, eq-eqb, ne_eqb}
use Rattle.std.specs.Fmt.{digits, digits_onto, digit_glyph}
use Rattle.httparse.specs.Ascii.{crlf_bytes}

-- so many digits of n at most, before these bytes
pub before : ℕ → ℕ → List ℕ → List ℕ
before k n acc = digits_onto k 16 false n acc

onto_front : (k n : ℕ) (a b : List ℕ) → digits_onto k 16 false n (a ++ b) ≡ digits_onto k 16 false n a ++ b
onto_front zero n a b = refl
onto_front (suc k) n a b = by (n / 16 == 0) (onto_front k (n / 16) (digit_glyph false (n % 16) ∷ a) b)
  where
    by : (t : Bool) → digits_onto k 16 false (n / 16) (digit_glyph false (n % 16) ∷ (a ++ b)) ≡ digits_onto k 16 false (n / 16) (digit_glyph false (n % 16) ∷ a) ++ b
        → (if t then digit_glyph false (n % 16) ∷ (a ++ b) else digits_onto k 16 false (n / 16) (digit_glyph false (n % 16) ∷ (a ++ b)))
        ≡ (if t then digit_glyph false (n % 16) ∷ a else digits_onto k 16 false (n / 16) (digit_glyph false (n % 16) ∷ a)) ++ b
    by true later = refl
    by false later = later

pub before_any : (k n : ℕ) → k ≡ 64 → before k n crlf_bytes ≡ digits 16 false n ++ crlf_bytes
unfolding before digits
before_any k n is = ap (λ (j : ℕ). digits_onto j 16 false n crlf_bytes) is ∙ onto_front 64 n [] crlf_bytes

step : (k n : ℕ) (acc : List ℕ) → 16 ≤ n → digits_onto (suc k) 16 false n acc ≡ digits_onto k 16 false (n / 16) (digit_glyph false (n % 16) ∷ acc)
step k n acc large =
    let e : (n / 16 == 0) ≡ false = ne_eqb (n / 16) 0 (λ z. omega (arith, z, large)) in
    ap (λ (b : Bool). if b then digit_glyph false (n % 16) ∷ acc else digits_onto k 16 false (n / 16) (digit_glyph false (n % 16) ∷ acc)) e

last : (k n : ℕ) (acc : List ℕ) → n < 16 → digits_onto (suc k) 16 false n acc ≡ digit_glyph false (n % 16) ∷ acc
last k n acc small =
    let e : (n / 16 == 0) ≡ true = eq-eqb (n / 16) 0 (omega arith) in
    ap (λ (b : Bool). if b then digit_glyph false (n % 16) ∷ acc else digits_onto k 16 false (n / 16) (digit_glyph false (n % 16) ∷ acc)) e

pub before_more : (k j n d : ℕ) (acc : List ℕ) → k ≡ suc j → 16 ≤ n → d ≡ digit_glyph false (n % 16) → before k n acc ≡ before j (n / 16) (d ∷ acc)
unfolding before
before_more k j n d acc is large digit =
    ap (λ (i : ℕ). digits_onto i 16 false n acc) is ∙ step j n acc large ∙ ap (λ (e : ℕ). digits_onto j 16 false (n / 16) (e ∷ acc)) (sym digit)

pub before_last : (k j n d : ℕ) (acc : List ℕ) → k ≡ suc j → n < 16 → d ≡ digit_glyph false n → before k n acc ≡ d ∷ acc
unfolding before
before_last k j n d acc is small digit =
    let same : n % 16 ≡ n = omega (arith, small) in
    ap (λ (i : ℕ). digits_onto i 16 false n acc) is ∙ last j n acc small ∙ ap (λ (e : ℕ). digit_glyph false e ∷ acc) same ∙ ap (λ (e : ℕ). e ∷ acc) (sym digit)

power : (m : ℕ) → 16 ^ suc m ≡ 16 ^ m * 16
power m = grind arith

fewer_of : (m k n : ℕ) → k ≡ suc m → n < 16 ^ k → n / 16 < 16 ^ m
fewer_of m k n is small =
    let here : n < 16 ^ m * 16 = subst (λ (p : ℕ). n < p) (ap (λ (j : ℕ). 16 ^ j) is ∙ power m) small in
    omega (arith, here)

-- the number without its last digit has a digit fewer
pub fewer : (n len len' : ℕ) → len < 18 → len' ≡ suc len → n < 16 ^ (18 - len) → n / 16 < 16 ^ (18 - len')
fewer n len len' room is small = fewer_of (18 - len') (18 - len) n (omega (arith, room, is)) small

none_of : (k n : ℕ) → k ≡ 0 → n < 16 ^ k → n ≡ 0
none_of k n is small =
    let here : n < 1 = subst (λ (j : ℕ). n < 16 ^ j) is small in omega (arith, here)

-- one with a digit more leaves room for it
pub still_room : (n len len' : ℕ) → len < 18 → len' ≡ suc len → 16 ≤ n → n < 16 ^ (18 - len) → len' < 18
still_room n len len' room is large small = by (18 - len') refl
  where
    less : n / 16 < 16 ^ (18 - len')
    less = fewer n len len' room is small

    by : (k : ℕ) → k ≡ 18 - len' → len' < 18
    by zero e = let none : n / 16 ≡ 0 = none_of (18 - len') (n / 16) (sym e) less in absurd (omega (arith, none, large))
    by (suc k) e = omega (arith, e)
