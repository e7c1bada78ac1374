-- Where a text is cut at its first byte of some kind.
use Rattle.std.proofs.Common.{◌≡◌, ℕ, suc, ◌+◌, ◌<◌, Bool, true, false, not, cond, ◌==◌, [], ◌∷◌, length, take, drop, Option, Some, None, if◌then◌else◌, refl, sym, ap, ◌∙◌, arith}
use Rattle.std.proofs.lemmas.Bool.Decides.{nat_tests}
use Rattle.std.proofs.lemmas.List.Folds.{length-prefix_len}
use Rattle.std.specs.List.{prefix_len, take_while}
use Rattle.tow_model.specs.Texts.{Text, before, after}

-- how many bytes stand before the first c
abbrev len_before : ℕ → Text → ℕ
len_before c text = prefix_len (λ b. not (b == c)) text

next : (n : ℕ) → 1 + n ≡ suc n
next n = omega arith

before_step : (x : Bool) (b n : ℕ) (text rest : Text) → take n text ≡ rest → take (cond (not x) (1 + n) 0) (b ∷ text) ≡ (if x then [] else b ∷ rest)
before_step true b n text rest e = refl
before_step false b n text rest e = ap (λ k. take k (b ∷ text)) (next n) ∙ ap (λ k. b ∷ k) e

before_is : (c : ℕ) (text : Text) → take (len_before c text) text ≡ before c text
before_is c [] = refl
before_is c (b ∷ text) = before_step (b == c) b (len_before c text) text (before c text) (before_is c text)

none_step : (x : Bool) (n m : ℕ) (text : Text) (rest : Option Text) → (n ≡ m → None ≡ rest) → cond (not x) (1 + n) 0 ≡ suc m → None ≡ (if x then Some text else rest)
none_step true n m text rest none e = absurd (omega (arith, e))
none_step false n m text rest none e = none (omega (arith, e))

none_after : (c : ℕ) (text : Text) → len_before c text ≡ length text → None ≡ after c text
none_after c [] e = refl
none_after c (b ∷ text) e = none_step (b == c) (len_before c text) (length text) text (after c text) (none_after c text) e

some_step : (x : Bool) (b n m : ℕ) (text : Text) (rest : Option Text) → (n < m → Some (drop (n + 1) text) ≡ rest) → cond (not x) (1 + n) 0 < suc m
    → Some (drop (cond (not x) (1 + n) 0 + 1) (b ∷ text)) ≡ (if x then Some text else rest)
some_step true b n m text rest some less = refl
some_step false b n m text rest some less =
    let e : 1 + n + 1 ≡ suc (n + 1) = omega arith in ap (λ k. Some (drop k (b ∷ text))) e ∙ some (omega (arith, less))

some_after : (c : ℕ) (text : Text) → len_before c text < length text → Some (drop (len_before c text + 1) text) ≡ after c text
some_after c [] less = absurd (omega (arith, less))
some_after c (b ∷ text) less = some_step (b == c) b (len_before c text) (length text) text (after c text) (some_after c text) less

-- the same, where the bytes before it were counted
counted : (p : ℕ → Bool) (text : Text) (n : ℕ) → n ≡ length (take_while p text) → n ≡ prefix_len p text
counted p text n e = e ∙ length-prefix_len p text

pub before_at : (c : ℕ) (text : Text) (n : ℕ) → n ≡ length (take_while (λ b. not (b == c)) text) → take n text ≡ before c text
before_at c text n e = ap (λ k. take k text) (counted (λ b. not (b == c)) text n e) ∙ before_is c text

pub no_after : (c : ℕ) (text : Text) (n : ℕ) → n ≡ length (take_while (λ b. not (b == c)) text) → n ≡ length text → None ≡ after c text
no_after c text n e whole = none_after c text (sym (counted (λ b. not (b == c)) text n e) ∙ whole)

pub after_at : (c : ℕ) (text : Text) (n : ℕ) → n ≡ length (take_while (λ b. not (b == c)) text) → n < length text → Some (drop (n + 1) text) ≡ after c text
after_at c text n e less =
    let at = counted (λ b. not (b == c)) text n e in
    ap (λ k. Some (drop (k + 1) text)) at ∙ some_after c text (omega (arith, at, less))
