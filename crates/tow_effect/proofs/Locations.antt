-- The set of bytes that are escaped gives the location's text.
use Rattle.std.proofs.Common.{◌≡◌, ℕ, ◌<◌, ◌≤◌, Bool, true, false, not, ◌||◌, ◌&&◌, if◌then◌else◌, [], ◌∷◌, ◌++◌, refl, ap, ◌∙◌, arith}
use Rattle.std.proofs.lemmas.Bool.{agree_below, agree_below_at}
use Rattle.std.proofs.lemmas.Bool.Decides.{nat_tests}
use Rattle.std.specs.Char.{is_ascii}
use Rattle.std.specs.List.{list_all}
use Rattle.percent_encoding.specs.AsciiSet.{contains, should_percent_encode}
use Rattle.percent_encoding.specs.Percent.{percent_encode, percent_encode_byte}
use Rattle.tow_model.specs.Texts.{Text, escaped, is_visible}
use Rattle.tow_effect.specs.declared.location.TheConstants.{HIDDEN}

set_is : agree_below (contains HIDDEN) (λ b. not (is_visible b)) 128 ≡ true
set_is = refl

combine : (b : ℕ) (c p : Bool) → (b < 128 → c ≡ not p) → (128 ≤ b → p ≡ false) → (not (is_ascii b) || c) ≡ not p
combine b c p low high = grind (arith, nat_tests)

visible_is_low : (b : ℕ) → 128 ≤ b → is_visible b ≡ false
visible_is_low b high = grind (arith, nat_tests)

escapes : (b : ℕ) → should_percent_encode HIDDEN b ≡ not (is_visible b)
unfolding should_percent_encode
escapes b =
    combine b (contains HIDDEN b) (is_visible b)
    (λ low. agree_below_at (contains HIDDEN) (λ v. not (is_visible v)) 128 b set_is low) (visible_is_low b)

choose : (b : ℕ) (e p : Bool) → e ≡ not p → (if e then percent_encode_byte b else b ∷ []) ≡ (if p then b ∷ [] else percent_encode_byte b)
choose b true false same = refl
choose b false true same = refl
choose b true true same = absurd (cc)
choose b false false same = absurd (cc)

pub escaped_is : (text : Text) → percent_encode HIDDEN text ≡ escaped is_visible text
unfolding percent_encode
escaped_is [] = refl
escaped_is (b ∷ text) =
    ap (λ t. t ++ percent_encode HIDDEN text) (choose b (should_percent_encode HIDDEN b) (is_visible b) (escapes b))
    ∙ ap (λ t. (if is_visible b then b ∷ [] else percent_encode_byte b) ++ t) (escaped_is text)

-- a text of visible bytes is its own location
pub kept_whole : (text : Text) → list_all is_visible text ≡ true → text ≡ escaped is_visible text
kept_whole [] e = refl
kept_whole (b ∷ text) e = by_test (is_visible b) e (kept_whole text)
  where
    by_test : (t : Bool) → (t && list_all is_visible text) ≡ true → (list_all is_visible text ≡ true → text ≡ escaped is_visible text) →
        b ∷ text ≡ (if t then b ∷ [] else percent_encode_byte b) ++ escaped is_visible text
    by_test true all rest = ap (λ t. b ∷ t) (rest all)
    by_test false all rest = absurd (cc)
