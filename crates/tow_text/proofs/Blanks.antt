-- Where the text without the blanks at its end has its end.
use Rattle.std.proofs.Common.{◌≡◌, ℕ, zero, suc, ◌<◌, Bool, true, false, ◌||◌, ◌==◌, [], ◌∷◌, length, get_or, take, drop, refl, ap, arith}
use Rattle.std.proofs.lemmas.List.Folds.{list_all_at}
use Rattle.tow_model.specs.Texts.{Text, is_blank, drop_blanks}

abbrev blank : ℕ → Bool
blank b = b == 32 || b == 9

pub ends_nowhere : (text : Text) → is_blank text ≡ true → [] ≡ drop_blanks text
ends_nowhere [] is = refl
ends_nowhere (b ∷ text) is = rw is refl

pub ends_at : (text : Text) (last : ℕ) → last < length text → blank (get_or text last 0) ≡ false → is_blank (drop (suc last) text) ≡ true
    → take (suc last) text ≡ drop_blanks text
ends_at [] last within is behind = absurd (omega (arith, within))
ends_at (b ∷ text) zero within is behind =
    let kept : is_blank (b ∷ text) ≡ false = list_all_at blank (b ∷ text) 0 0 within is in
    rw kept (ap (λ k. b ∷ k) (ends_nowhere text behind))
ends_at (b ∷ text) (suc last) within is behind =
    let kept : is_blank (b ∷ text) ≡ false = list_all_at blank (b ∷ text) (suc last) 0 within is in
    rw kept (ap (λ k. b ∷ k) (ends_at text last (omega (arith, within)) is behind))
