-- How bytes and files are cut: the first piece, and then what is left.
use Rattle.std.proofs.Common.{◌≡◌, ℕ, zero, suc, ◌+◌, ◌-◌, ◌<◌, ◌≤◌, List, [], ◌∷◌, length, take, drop, min, refl, ap, arith, length-drop}
use Rattle.tow_model.specs.declared.limits.TheConstants.{BLOCK_LEN}
use Rattle.tow_model.specs.Texts.{Text}
use Rattle.tow_wire.specs.Answers.{cut, blocks}
use Rattle.tow_sending.specs.Pieces.{Piece, Part, parts}

-- more pieces than are needed change nothing
cut_enough : (size n m : ℕ) (bytes : List ℕ) → 0 < size → length bytes ≤ n → length bytes ≤ m → cut size n bytes ≡ cut size m bytes
cut_enough size zero zero bytes some a b = refl
cut_enough size zero (suc m) [] some a b = refl
cut_enough size zero (suc m) (x ∷ bytes) some a b = absurd (omega (arith, a))
cut_enough size (suc n) zero [] some a b = refl
cut_enough size (suc n) zero (x ∷ bytes) some a b = absurd (omega (arith, b))
cut_enough size (suc n) (suc m) [] some a b = refl
cut_enough size (suc n) (suc m) (x ∷ bytes) some a b =
    ap (λ (ps : List (List ℕ)). take size (x ∷ bytes) ∷ ps)
    (cut_enough size n m (drop size (x ∷ bytes)) some (omega (arith, length-drop size (x ∷ bytes), some, a)) (omega (arith, length-drop size (x ∷ bytes), some, b)))

-- the first block, and those of the rest
cut_more : (size n : ℕ) (bytes : List ℕ) → 0 < size → 0 < length bytes → length bytes ≤ n
    → cut size n bytes ≡ take size bytes ∷ cut size (length (drop size bytes)) (drop size bytes)
cut_more size n [] some has fits = absurd (omega (arith, has))
cut_more size zero (x ∷ bytes) some has fits = absurd (omega (arith, fits))
cut_more size (suc n) (x ∷ bytes) some has fits =
    ap (λ (ps : List (List ℕ)). take size (x ∷ bytes) ∷ ps)
    (cut_enough size n (length (drop size (x ∷ bytes))) (drop size (x ∷ bytes)) some (omega (arith, length-drop size (x ∷ bytes), some, fits)) (omega arith))

pub blocks_more : (bytes : List ℕ) → 0 < length bytes → blocks bytes ≡ take BLOCK_LEN bytes ∷ blocks (drop BLOCK_LEN bytes)
blocks_more bytes has = cut_more BLOCK_LEN (length bytes) bytes (omega arith) has (omega arith)

pub parts_enough : (path : Text) (n m at left : ℕ) → left ≤ n → left ≤ m → parts path n at left ≡ parts path m at left
parts_enough path zero zero at left a b = refl
parts_enough path zero (suc m) at zero a b = refl
parts_enough path zero (suc m) at (suc left) a b = absurd (omega (arith, a))
parts_enough path (suc n) zero at zero a b = refl
parts_enough path (suc n) zero at (suc left) a b = absurd (omega (arith, b))
parts_enough path (suc n) (suc m) at zero a b = refl
parts_enough path (suc n) (suc m) at (suc left) a b =
    ap (λ (ps : List Piece). Part path at (min BLOCK_LEN (suc left)) ∷ ps)
    (parts_enough path n m (at + BLOCK_LEN) (suc left - BLOCK_LEN) (omega (arith, a)) (omega (arith, b)))

-- the first part, and those of the rest
pub parts_more : (path : Text) (n at left : ℕ) → 0 < left → left ≤ n
    → parts path n at left ≡ Part path at (min BLOCK_LEN left) ∷ parts path (left - BLOCK_LEN) (at + BLOCK_LEN) (left - BLOCK_LEN)
parts_more path n at zero some fits = absurd (omega (arith, some))
parts_more path zero at (suc left) some fits = absurd (omega (arith, fits))
parts_more path (suc n) at (suc left) some fits =
    ap (λ (ps : List Piece). Part path at (min BLOCK_LEN (suc left)) ∷ ps)
    (parts_enough path n (suc left - BLOCK_LEN) (at + BLOCK_LEN) (suc left - BLOCK_LEN) (omega (arith, fits)) (omega arith))
