-- The runs of a program: tests of literal paths, each where the one before it leads to when it fails.
use Rattle.std.specs.Prelude.{◌≡◌, ℕ, ◌<◌, ◌≤◌, List, length, get_or, slice_get, Option, Some, None}
use Rattle.std.specs.Option.{option_and_then}
use Rattle.tow_model.specs.Texts.{Text}
use Rattle.tow_matcher.specs.declared.row.Row.{Row}
use Rattle.tow_matcher.specs.Firsts.{first_row}
use Rattle.tow_program.specs.declared.instruction.Instruction.{Instruction}
use Rattle.tow_program.specs.declared.run.Hop.{Hop}
use Rattle.tow_program.specs.declared.run.Hop.TheVariants.{Rests, Goes}
use Rattle.tow_program.specs.declared.run.Run.{Run}
use Rattle.tow_program.specs.declared.table.Entry.{Entry}
use Rattle.tow_program.specs.Skips.{Alternatives, alternatives_in, skipped}

-- LOOKING UP

abbrev pub hop_by : ℕ → Option ℕ → Hop
hop_by behind None = Goes behind
hop_by behind (Some place) = Rests place

-- from this row on, where the rows have these places: to the first that holds, or behind them all
abbrev pub hop_in : List Row → List ℕ → ℕ → Text → ℕ → Hop
hop_in rows places behind path row = hop_by behind (option_and_then (slice_get places) (first_row rows path row))

abbrev pub hop_along : Option Run → Text → ℕ → ℕ → Hop
hop_along None path at row = Rests at
hop_along (Some run) path at row = hop_in run.matcher run.places run.behind path row

abbrev pub hop_from : List Run → Option Entry → Text → ℕ → Hop
hop_from runs None path at = Rests at
hop_from runs (Some entry) path at = hop_along (slice_get runs entry.run) path at entry.row

-- from the instruction at `at`
abbrev pub hop_of : List Run → List (Option Entry) → Text → ℕ → Hop
hop_of runs entries path at = hop_from runs (get_or entries at None) path at

-- WHAT IS RIGHT

-- from `at` on just this is skipped, or what is skipped from there on is not all
abbrev pub Leads : List Instruction → Text → ℕ → Hop → Type 0
Leads program path at (Rests to) = skipped program path at ≡ to
Leads program path at (Goes to) =
    (skipped program path at ≡ skipped program path to) × (at < to) × (at < length program)

-- the run has, from this row on, the rows of the instruction at `at` and of those that it leads to when it fails
pub record IsEntry (program : List Instruction) (run : Run) (at row : ℕ) : Type 0 where
  pub within : row ≤ length run.matcher
  pub places : length run.places ≡ length run.matcher
  pub leads : (path : Text) → Leads program path at (hop_in run.matcher run.places run.behind path row)

-- each entry is right, and each test of literal paths before `start` has one
pub record AreEntered (program : List Instruction) (start : ℕ) (runs : List Run) (entries : List (Option Entry)) : Type 0 where
  pub whole : length entries ≡ length program
  pub right : (at : ℕ) (entry : Entry) → get_or entries at None ≡ Some entry →
      (run : Run) × (slice_get runs entry.run ≡ Some run) × IsEntry program run at entry.row
  pub others : (at : ℕ) → at < start → get_or entries at None ≡ None → (path : Text) → skipped program path at ≡ at

-- MAKING IT

abbrev pub unless : Option Entry → Option Alternatives → Option Alternatives
unless None a = a
unless (Some entry) a = None

-- the test of literal paths at a place that has no entry
abbrev pub unentered : List Instruction → List (Option Entry) → ℕ → Option Alternatives
unentered program entries at = unless (get_or entries at None) (option_and_then alternatives_in (slice_get program at))
