-- Which instructions a path passes over: tests of literal paths alone, of which none holds.
use Rattle.std.specs.Prelude.{ℕ, zero, suc, ◌+◌, Bool, true, false, List, [], ◌∷◌, map, length, drop, min, if◌then◌else◌, Option, Some, None}
use Rattle.std.specs.List.{list_any}
use Rattle.std.specs.Option.{option_and_then}
use Rattle.tow_model.specs.Texts.{Text}
use Rattle.tow_model.specs.declared.predicate.Test.{Test}
use Rattle.tow_model.specs.declared.predicate.Test.TheVariants.{Path, Prefix}
use Rattle.tow_matcher.specs.declared.row.Row.{Row}
use Rattle.tow_matcher.specs.Firsts.{row_holds}
use Rattle.tow_program.specs.declared.instruction.Instruction.{Instruction}
use Rattle.tow_program.specs.declared.instruction.Instruction.TheVariants.{Ask, Do, Skip}
use Rattle.tow_program.specs.declared.instruction.Literals.{Literals}

-- A TEST OF LITERAL PATHS ALONE

-- a row for each of its paths, and how many instructions it passes over where no row holds
pub record Alternatives : Type 0 where
  pub rows : List Row
  pub fails : ℕ

abbrev pub row_of : Bool → Text → Row
row_of prefix path = record { path = path; prefix = prefix }

abbrev pub alternatives : Test → ℕ → Option Alternatives
alternatives (Path paths) fails = Some (record { rows = map (row_of false) paths; fails = fails })
alternatives (Prefix paths) fails = Some (record { rows = map (row_of true) paths; fails = fails })
alternatives other fails = None

abbrev pub alternatives_in : Instruction → Option Alternatives
alternatives_in (Ask test holds fails) = alternatives test fails
alternatives_in (Do action) = None
alternatives_in (Skip passed) = None

abbrev pub shown : Literals → Alternatives
shown l = record { rows = map (row_of l.prefix) l.paths.now; fails = l.fails }

-- WHERE IT FAILS

-- how many instructions it passes over, if none of its rows holds for the path
abbrev pub failing_by : Text → Alternatives → Option ℕ
failing_by path a = if list_any (row_holds path) a.rows then None else Some a.fails

abbrev pub failing : Text → Instruction → Option ℕ
failing path i = option_and_then (failing_by path) (alternatives_in i)

-- the place behind so many of the instructions that follow the one at `at`, or the end of the program
abbrev pub past : List Instruction → ℕ → ℕ → ℕ
past program at passed = min (suc at + passed) (length program)

-- how many instructions are passed over, where it is so many at first, and then those of each such test that fails
abbrev pub passed : Text → List Instruction → ℕ → ℕ
passed path [] n = 0
passed path (i ∷ is) (suc n) = suc (passed path is n)
passed path (i ∷ is) zero = elim (failing path i) [ None ↦ 0 | Some fails ↦ suc (passed path is fails) ]

-- the first place from `at` on, along tests of literal paths that fail for the path, where none such stands
abbrev pub skipped : List Instruction → Text → ℕ → ℕ
skipped program path at = at + passed path (drop at program) 0
