-- Values without control bytes are shown as they are.
use Rattle.std.specs.Prelude.{◌≡◌, ℕ, ◌<◌, Bool, true, false, ◌==◌, ◌||◌, nat_lt, [], ◌∷◌, ◌++◌, length, take, drop, flat_map, if◌then◌else◌}
use Rattle.std.specs.List.{list_any}
use Rattle.std.proofs.Common.{refl, sym, ◌∙◌, ap, arith, length-drop}
use Rattle.std.proofs.lemmas.List.{take-append-drop}
use Rattle.tow_model.specs.Texts.{Text}
use Rattle.tow_semantics.specs.Values.{shown, shown_byte}

abbrev pub has_controls : Text → Bool
has_controls bytes = list_any (λ b. nat_lt b 0x20 || b == 0x7F) bytes

plain_bytes : (bytes : Text) → has_controls bytes ≡ false → flat_map shown_byte bytes ≡ bytes
plain_bytes [] none = refl
plain_bytes (b ∷ bs) none = by_test _ (nat_lt b 0x20 || b == 0x7F) none (plain_bytes bs)
  where
    by_test : (escape : Text) (t : Bool) → (t || has_controls bs) ≡ false → (has_controls bs ≡ false → flat_map shown_byte bs ≡ bs) →
        (if t then escape else b ∷ []) ++ flat_map shown_byte bs ≡ b ∷ bs
    by_test escape true controls rest = cc
    by_test escape false none_left rest = ap (λ k. b ∷ k) (rest none_left)

plain_value : (bytes : Text) → 0 < length bytes → has_controls bytes ≡ false → shown bytes ≡ bytes
plain_value [] some none = absurd (omega (arith, some))
plain_value (b ∷ bs) some none = plain_bytes (b ∷ bs) none

-- what stands from a place on, and has a byte and no control byte, is shown as it is
pub plain_from : (items : Text) (start : ℕ) → start < length items → has_controls (drop start items) ≡ false → items ≡ take start items ++ shown (drop start items)
plain_from items start within none =
    let some : 0 < length (drop start items) = omega (arith, length-drop start items, within) in
    sym (ap (λ k. take start items ++ k) (plain_value (drop start items) some none) ∙ take-append-drop start items)
