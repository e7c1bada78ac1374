-- Fields that are put in their places one after another.
use Rattle.std.proofs.Common.{◌≡◌, ℕ, List, [], ◌∷◌, ◌++◌, take, drop, refl, ap}
use Rattle.tow_model.specs.declared.request.Field.{Field}
use Rattle.tow_wire.specs.Answers.{placed, sorted}

-- these fields put among sorted ones, the last of them first
abbrev pub placed_all : List Field → List Field → List Field
placed_all [] behind = behind
placed_all (f ∷ fields) behind = placed f (placed_all fields behind)

pub placed_all-last : (fields : List Field) (f : Field) (behind : List Field)
    → placed_all (fields ++ f ∷ []) behind ≡ placed_all fields (placed f behind)
placed_all-last [] f behind = refl
placed_all-last (g ∷ fields) f behind = ap (placed g) (placed_all-last fields f behind)

pub placed_all-none : (fields : List Field) → placed_all fields [] ≡ sorted fields
placed_all-none [] = refl
placed_all-none (f ∷ fields) = ap (placed f) (placed_all-none fields)

-- the place of f is behind the first k fields
abbrev pub IsBehind : Field → List Field → ℕ → Type 0
IsBehind f fields k = placed f fields ≡ take k fields ++ placed f (drop k fields)
