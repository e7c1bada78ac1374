-- The regex tests of a tree, and their numbers.
use Rattle.std.specs.Prelude.{◌≡◌, ℕ, List, [], ◌++◌, map, length, flat_map, Option, None, Some}
use Rattle.std.specs.List.{range_with_len}
use Rattle.tow_model.specs.declared.statement.Statement.{Statement, fold-Statement}
use Rattle.tow_model.specs.declared.statement.Statement.TheOpen.{Statement-F, When, Act, Block}
use Rattle.tow_semantics.specs.Listeners.{joined_lists}
use Rattle.tow_semantics.specs.Predicates.{patterns_in}
use Rattle.tow_model.specs.Texts.{Text}

abbrev pub other_patterns : Option (List (ℕ × Text)) → List (ℕ × Text)
other_patterns None = []
other_patterns (Some tests) = tests

abbrev pub statement_patterns_by : Statement-F (List (ℕ × Text)) → List (ℕ × Text)
statement_patterns_by (When test then_part other) = patterns_in test ++ (then_part ++ other_patterns other)
statement_patterns_by (Act action) = []
statement_patterns_by (Block parts) = joined_lists parts

-- the regex tests of a statement in the order of the text, each with its number and pattern
abbrev pub statement_patterns : Statement → List (ℕ × Text)
statement_patterns = fold-Statement (List (ℕ × Text)) statement_patterns_by

-- and those of all statements
abbrev pub tree_patterns : List Statement → List (ℕ × Text)
tree_patterns tree = flat_map statement_patterns tree

-- the tests are numbered 0, 1, .. in their order
abbrev pub AreNumbered : List (ℕ × Text) → Type 0
AreNumbered tests = map (λ t. t.0) tests ≡ range_with_len 0 (length tests)

abbrev pub IsNumbered : List Statement → Type 0
IsNumbered tree = AreNumbered (tree_patterns tree)
