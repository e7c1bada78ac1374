-- Blocks are the bytes in pieces, the last one shorter.
use Rattle.std.specs.Prelude.{true, false, nat_le}
use Rattle.std.proofs.Common.{◌≡◌, ℕ, zero, suc, ◌<◌, ◌≤◌, List, [], ◌∷◌, ◌++◌, length, take, drop, refl, sym, ap, ap₂, ◌∙◌, subst, arith, length-take, length-drop, take-append-drop, take_all, drop_of_length-le, ◌⊎◌, inl, inr, lit<}
use Rattle.std.proofs.lemmas.Bool.Decides.{leb_tells}
use Rattle.tow_model.specs.declared.limits.TheConstants.{BLOCK_LEN}
use Rattle.tow_wire.specs.Answers.{cut, ArePieces, BlocksAre}

-- more pieces than there are bytes change nothing
take_length : (a : List ℕ) (n : ℕ) → n ≤ length a → length (take n a) ≡ n
take_length a n fits = omega (arith, length-take n a, fits)

nothing_left : (size n : ℕ) → cut size n [] ≡ []
nothing_left size zero = refl
nothing_left size (suc n) = refl

-- one more piece at the front
one_more : (size : ℕ) (p rest : List ℕ) (pieces : List (List ℕ)) → length p ≡ size → 0 < length rest → ArePieces size pieces rest
    → ArePieces size (p ∷ pieces) (p ++ rest)
one_more size p rest [] len some are = absurd (omega (arith, some, ap (λ (l : List ℕ). length l) are))
one_more size p rest (q ∷ pieces) len some are = (rest, refl, len, are)

take_all_of : (a : List ℕ) (n : ℕ) → length a ≤ n → take n a ≡ a
take_all_of a n fits = take_all n a fits

drop_all_of : (a : List ℕ) (n : ℕ) → length a ≤ n → drop n a ≡ []
drop_all_of a n fits = drop_of_length-le a fits

cut_are : (size n : ℕ) (bytes : List ℕ) → 0 < size → length bytes ≤ n → ArePieces size (cut size n bytes) bytes
cut_are size zero [] some fits = refl
cut_are size (suc n) [] some fits = refl
cut_are size zero (x ∷ bytes) some fits = absurd (omega (arith, fits))
cut_are size (suc n) (x ∷ bytes) some fits =
    by (leb_tells (length (x ∷ bytes)) size) (λ shorter. cut_are size n (drop size (x ∷ bytes)) some shorter)
  where
    by : ((nat_le (length (x ∷ bytes)) size ≡ true) × (length (x ∷ bytes) ≤ size)) ⊎ ((nat_le (length (x ∷ bytes)) size ≡ false) × (size < length (x ∷ bytes)))
        → (length (drop size (x ∷ bytes)) ≤ n → ArePieces size (cut size n (drop size (x ∷ bytes))) (drop size (x ∷ bytes)))
        → ArePieces size (cut size (suc n) (x ∷ bytes)) (x ∷ bytes)
    by (inl (is, short)) later =
        subst (λ (ps : List (List ℕ)). ArePieces size ps (x ∷ bytes))
        (sym (ap₂ (λ (p : List ℕ) (ps : List (List ℕ)). p ∷ ps) (take_all_of (x ∷ bytes) size short)
        (ap (cut size n) (drop_all_of (x ∷ bytes) size short) ∙ nothing_left size n)))
        (refl, omega arith, short)
    by (inr (is, long)) later =
        let shorter : length (drop size (x ∷ bytes)) ≤ n = omega (arith, length-drop size (x ∷ bytes), some, fits) in
        let left : 0 < length (drop size (x ∷ bytes)) = omega (arith, length-drop size (x ∷ bytes), long) in
        subst (λ (l : List ℕ). ArePieces size (take size (x ∷ bytes) ∷ cut size n (drop size (x ∷ bytes))) l) (take-append-drop size (x ∷ bytes))
        (one_more size (take size (x ∷ bytes)) (drop size (x ∷ bytes)) (cut size n (drop size (x ∷ bytes)))
        (take_length (x ∷ bytes) size (omega (arith, long))) left (later shorter))

pub blocks_are : BlocksAre
blocks_are bytes = cut_are BLOCK_LEN (length bytes) bytes (lit< tt) (omega arith)
