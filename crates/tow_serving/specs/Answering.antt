-- The answer of an exchange that has stopped, or the wait for a worker.
use Rattle.std.specs.Prelude.{◌≡◌, ◌≢◌, ◌<◌, Bool, List, Option, IfSome, reverse}
use Rattle.tow_model.specs.declared.account.End.TheVariants.{NoMemory}
use Rattle.tow_model.specs.declared.statement.Statement.{Statement}
use Rattle.tow_semantics.specs.Files.{Files}
use Rattle.tow_exchange.specs.Exchanges.{ExchangeData}
use Rattle.tow_exchange.specs.declared.phase.Phase.TheVariants.{Stopped}
use Rattle.tow_program.specs.declared.instruction.Instruction.{Instruction}
use Rattle.tow_program.specs.Programs.{program_of}
use Rattle.tow_answer.specs.declared.content_use.ContentUse.TheVariants.{Unasked}
use Rattle.tow_sending.specs.Pieces.{HasFile}
use Rattle.tow_progress.specs.Progress.{Progress, Origin}
use Rattle.tow_progress.specs.Accounts.{Tally}
use Rattle.tow_states.specs.Calling.{HasPlacesFor}
use Rattle.tow_states.specs.Known.{Setting}
use Rattle.tow_stages.specs.Answering.{AnswerBegins}
use Rattle.tow_stages.specs.Holding.{Holds}
use Rattle.tow_stages.specs.Stages.{Base, Stage, walking}
use Rattle.tow_turns.specs.Nexts.{end_in, rank}
use Rattle.tow_turns.specs.Safe.{IsSafe, calls_of}
use Rattle.tow_turns.specs.declared.stage.Then.{Then}
use Rattle.tow_turns.specs.declared.stage.Then.TheVariants.{On, Stop}
use Rattle.tow_turns.specs.declared.turn.Turn.TheVariants.{ToPool}

-- Its answer was made, or the memory was short for it.
pub record IsAnswered (program : List Instruction) (e : ExchangeData) (stage : Stage) : Type 0 where
  pub stopped : e.phase ≡ Stopped
  pub answers : (s : Setting) → program ≡ program_of s.tree → HasFile s.files e.stand.state.choice
      → (failed : Bool) (o : Origin) (b : Base) (c : Progress) (t : Tally) → AnswerBegins failed s o b e Unasked c t
      → Holds failed s o b stage c t
  pub safe : (tree : List Statement) (told : Option Files) (b : Base)
      → IfSome told (λ (files : Files). HasFile files e.stand.state.choice)
      → HasPlacesFor b.room (calls_of b) (reverse e.stand.state.listeners) → IsSafe tree told b stage
  pub near : rank stage < 5
  pub ends : IfSome (end_in stage) (λ end. end ≡ NoMemory)

-- It stays where it is, and has not stopped.
pub record IsWaiting (e : ExchangeData) (stage : Stage) : Type 0 where
  pub same : stage ≡ walking e
  pub live : e.phase ≢ Stopped

abbrev pub AnswersOrWaits : List Instruction → ExchangeData → Stage → Then → Type 0
AnswersOrWaits program e stage On = IsAnswered program e stage
AnswersOrWaits program e stage (Stop ToPool) = IsWaiting e stage
AnswersOrWaits program e stage other = ⊥
