-- Where the authority of an absolute target ends.
use Rattle.std.proofs.Common.{◌≡◌, ℕ, suc, ◌+◌, Bool, true, false, not, cond, ◌&&◌, ◌==◌, [], ◌∷◌, length, drop, if◌then◌else◌, codes, refl, ap, ◌∙◌, arith}
use Rattle.std.proofs.lemmas.Bool.Decides.{nat_tests}
use Rattle.std.proofs.lemmas.List.Folds.{length-prefix_len}
use Rattle.std.specs.List.{prefix_len, take_while}
use Rattle.std.specs.Str.{byte}
use Rattle.tow_model.specs.Texts.{Text, is_among}
use Rattle.tow_model.specs.Paths.{slash, behind_authority}

next : (n : ℕ) → 1 + n ≡ suc n
next n = omega arith

-- a byte of an authority
abbrev is_inside : ℕ → Bool
is_inside b = not (b == slash) && not (b == byte "?")

behind_step : (x y : Bool) (b n : ℕ) (text rest : Text) → x ≡ not y → drop n text ≡ rest → drop (cond x (1 + n) 0) (b ∷ text) ≡ (if y then b ∷ text else rest)
behind_step true true b n text rest is e = absurd (cc)
behind_step true false b n text rest is e = ap (λ k. drop k (b ∷ text)) (next n) ∙ e
behind_step false true b n text rest is e = refl
behind_step false false b n text rest is e = absurd (cc)

ends_it : (b : ℕ) → is_inside b ≡ not (is_among (b ∷ []) (codes "/" ∷ codes "?" ∷ []))
ends_it b = grind (arith, nat_tests)

behind_is : (text : Text) → drop (prefix_len is_inside text) text ≡ behind_authority text
behind_is [] = refl
behind_is (b ∷ text) =
    behind_step (is_inside b) (is_among (b ∷ []) (codes "/" ∷ codes "?" ∷ [])) b (prefix_len is_inside text) text (behind_authority text) (ends_it b) (behind_is text)

pub behind_at : (text : Text) (n : ℕ) → n ≡ length (take_while is_inside text) → drop n text ≡ behind_authority text
behind_at text n e = ap (λ k. drop k text) (e ∙ length-prefix_len is_inside text) ∙ behind_is text
