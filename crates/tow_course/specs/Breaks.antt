-- What is true of an exchange that is cut short.
use Rattle.std.specs.Prelude.{◌≡◌, ◌≢◌, ℕ, List, count_by, Option}
use Rattle.tow_model.specs.declared.content.Content.{Content}
use Rattle.tow_model.specs.declared.record.Record.{Record}
use Rattle.tow_model.specs.declared.record.Choice.TheVariants.{Undecided}
use Rattle.tow_model.specs.declared.account.Verdict.{Verdict}
use Rattle.tow_model.specs.declared.statement.Statement.{Statement}
use Rattle.tow_model.specs.Lists.{IsPrefix}
use Rattle.tow_semantics.specs.Files.{Files}
use Rattle.tow_semantics.specs.Runs.{Walked}
use Rattle.tow_exchange.specs.Exchanges.{ExchangeData}
use Rattle.tow_exchange.specs.declared.phase.Phase.TheVariants.{Stopped}
use Rattle.tow_program.specs.Programs.{program_of}
use Rattle.tow_advance.specs.Moves.{AddsLogs, IsUnchosen}
use Rattle.tow_advance.specs.Needs.{IsUnderWay}
use Rattle.tow_progress.specs.Ended.{admits, leaves}
use Rattle.tow_course.specs.Course.{Course, Agrees, IsOnCourse, outcome_with}

-- what was done is a front of what this outcome does
pub record IsFrontOf (x : Record) (n : Course) (whole : Walked) : Type 0 where
  pub listeners : IsPrefix x.listeners whole.outcome.state.listeners
  pub entries : IsPrefix n.entries whole.outcome.entries

-- The exchange e, which got n, ends with the record x before it has come to its outcome.
pub record IsBroken (tree : List Statement) (files : Files) (e : ExchangeData) (n : Course) (x : Record) : Type 0 where
  -- whatever still comes
  pub front : (content : Option Content) → Agrees n.content content → (more : List Verdict)
      → IsFrontOf x n (outcome_with tree files e n content more)
  -- no answer is chosen
  pub choice : x.choice ≡ Undecided
  -- it has a listener for each admission, and no other that leaves a limit
  pub inside : (limit : ℕ) → count_by (admits limit) n.entries ≡ count_by (leaves limit) x.listeners

-- An exchange that has not stopped may be cut short, also by a call of `advance` that finds no memory.
pub record Breaks (tree : List Statement) (files : Files) (e : ExchangeData) (n : Course) : Type 0 where
  pub here : e.phase ≢ Stopped → IsBroken tree files e n e.stand.state
  pub there : (new : ExchangeData) → IsUnderWay (program_of tree) e new → new.phase ≢ Stopped
      → AddsLogs e.stand.state.listeners new.stand.state.listeners → (IsUnchosen e → IsUnchosen new)
      → IsBroken tree files e n new.stand.state

-- ---- law

abbrev pub CourseBreaks : Type 0
CourseBreaks =
    (tree : List Statement) (files : Files) (e : ExchangeData) (n : Course) → IsOnCourse tree files e n → Breaks tree files e n
