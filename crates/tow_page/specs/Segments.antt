-- The segments of a path, read from the left.
use Rattle.std.specs.Prelude.{◌≡◌, Bool, true, false, not, ◌&&◌, ◌==◌, [], ◌∷◌, if◌then◌else◌}
use Rattle.std.specs.List.{list_any}
use Rattle.std.specs.Str.{is_utf8}
use Rattle.tow_model.specs.Texts.{Text}
use Rattle.tow_model.specs.Paths.{slash}

-- no segment before the last one is empty; whether the one under way has no byte so far is given
abbrev pub are_filled : Bool → Text → Bool
are_filled empty [] = true
are_filled empty (b ∷ bs) = if b == slash then not empty && are_filled true bs else are_filled false bs

-- no segment at all is empty
abbrev pub all_filled : Bool → Text → Bool
all_filled empty [] = not empty
all_filled empty (b ∷ bs) = if b == slash then not empty && all_filled true bs else all_filled false bs

-- segments that are UTF-8 without NUL, none of them empty
pub record Plain (name : Text) : Type 0 where
  pub filled : all_filled true name ≡ true
  pub utf8 : is_utf8 name ≡ true
  pub no_zero : list_any (λ b. b == 0) name ≡ false
