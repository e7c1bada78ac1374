-- The texts of an array.
use Rattle.std.specs.Prelude.{◌≡◌, ℕ, List, [], ◌∷◌, length, map, Ok}
use Rattle.std.proofs.Common.{refl, ap}
use Rattle.tow_language.specs.Fit.{some_texts}
use Rattle.tow_language.specs.Raw.{Written, array}
use Rattle.tow_fit.specs.declared.call.WrittenText.{WrittenText}
use Rattle.tow_fit.specs.Calls.{written_of}
use Rattle.tow_fit.specs.Fitting.{bytes_of}

pub bytes_written : (texts : List WrittenText) → map (λ (x : Written). x.bytes) (map written_of texts) ≡ map bytes_of texts
bytes_written [] = refl
bytes_written (t ∷ texts) = ap (λ k. bytes_of t ∷ k) (bytes_written texts)

pub array_texts : (place : ℕ) (texts : List WrittenText) → (length texts ≡ 0 → ⊥) → some_texts (array place (map written_of texts)) ≡ Ok (map bytes_of texts)
array_texts place [] some = absurd (some refl)
array_texts place (t ∷ texts) some = ap (λ k. Ok k) (bytes_written (t ∷ texts))
