-- Regex tests that were found in a tree.
use Rattle.std.specs.Prelude.{ℕ, List, map}
use Rattle.tow_model.specs.Texts.{Text}
use Rattle.tow_pred.specs.declared.finding.Found.{Found}

-- their numbers and patterns
abbrev pub told : List Found → List (ℕ × Text)
told found = map (λ f. (f.number, f.pattern.now)) found
