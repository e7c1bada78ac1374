-- The `/` at the end of a path.
use Rattle.std.specs.Prelude.{◌≡◌, ℕ, ◌+◌, ◌-◌, ◌<◌, ◌≤◌, ◌==◌, false, List, [], ◌∷◌, ◌++◌, length, get_or, take}
use Rattle.std.proofs.Common.{refl, sym, ◌∙◌, ap, arith, rules}
use Rattle.std.proofs.lemmas.List.{take_more}
use Rattle.tow_language.specs.Shapes.{without_last_slashes}

-- a `/` at the end goes
pub slash_goes : (path : List ℕ) → without_last_slashes (path ++ 47 ∷ []) ≡ without_last_slashes path
slash_goes [] = refl
slash_goes (b ∷ bs) = rw (slash_goes bs)

other_stays : (path : List ℕ) (b : ℕ) → (b == 47) ≡ false → without_last_slashes (path ++ b ∷ []) ≡ path ++ b ∷ []
other_stays [] b e = rw e
other_stays (c ∷ []) b e = rw e
other_stays (c ∷ d ∷ path) b e = rw (other_stays (d ∷ path) b e)

pub one_less : (path : List ℕ) (end : ℕ) → 0 < end → end ≤ length path → take end path ≡ take (end - 1) path ++ get_or path (end - 1) 0 ∷ []
one_less path end some le = let e : end ≡ (end - 1) + 1 = omega arith in ap (λ k. take k path) e ∙ take_more path (end - 1) 0 (omega arith)

pub slash_before : (path : List ℕ) (end : ℕ) → 0 < end → end ≤ length path → get_or path (end - 1) 0 ≡ 47 →
    without_last_slashes (take (end - 1) path) ≡ without_last_slashes (take end path)
slash_before path end some le is =
    sym (ap without_last_slashes (one_less path end some le ∙ ap (λ b. take (end - 1) path ++ b ∷ []) is) ∙ slash_goes (take (end - 1) path))

pub other_before : (path : List ℕ) (end : ℕ) → 0 < end → end ≤ length path → (get_or path (end - 1) 0 ≡ 47 → ⊥) →
    without_last_slashes (take end path) ≡ take end path
other_before path end some le is =
    let e : (get_or path (end - 1) 0 == 47) ≡ false = search rules in
    let f = one_less path end some le in
    ap without_last_slashes f ∙ other_stays (take (end - 1) path) (get_or path (end - 1) 0) e ∙ sym f
