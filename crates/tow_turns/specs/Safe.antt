-- What a stage must have, whatever its link tells.
use Rattle.std.specs.Prelude.{◌≡◌, ◌<◌, ℕ, true, List, [], Option, Some, None}
use Rattle.tow_model.specs.declared.account.End.{End}
use Rattle.tow_model.specs.declared.statement.Statement.{Statement}
use Rattle.tow_model.specs.Dates.{first_undated}
use Rattle.tow_semantics.specs.Files.{Files}
use Rattle.tow_exchange.specs.Exchanges.{ExchangeData}
use Rattle.tow_exchange.specs.declared.phase.Phase.TheVariants.{AwaitsContent}
use Rattle.tow_source.specs.Readings.{Reading}
use Rattle.tow_source.specs.declared.drain.Drain.{Drain}
use Rattle.tow_content.specs.declared.source.ContentSource.{ContentSource}
use Rattle.tow_content.specs.declared.gathering.Gathering.{Gathering}
use Rattle.tow_content.specs.Gatherings.{Gathers}
use Rattle.tow_sending.specs.Pieces.{Piece}
use Rattle.tow_replies.specs.Replies.{FitPipe}
use Rattle.tow_walks.specs.Sendable.{IsSendable}
use Rattle.tow_closing.specs.Closings.{ClosingData}
use Rattle.tow_progress.specs.Accounts.{Tally, no_calls}
use Rattle.tow_states.specs.Calling.{HasPlaces, HasPlacesFor}
use Rattle.tow_states.specs.Leaving.{left_in}
use Rattle.tow_stages.specs.Stages.{Base, Stage, answering, closing, ended, gathering, reading, refusing, walking}
use Rattle.tow_turns.specs.Contents.{DropsSome}
use Rattle.tow_turns.specs.Folders.{HasPartsIn}

-- what it asked of limits so far
abbrev pub calls_of : Base → Tally
calls_of b = record (no_calls true) { calls = b.calls }

-- An open exchange is the connection's, has a moment that a date can show, its answer can be sent, and its calls have their places.
pub record IsOpen (tree : List Statement) (told : Option Files) (b : Base) (e : ExchangeData) : Type 0 where
  pub connection : e.connection ≡ b.number
  pub dated : e.moment < first_undated
  pub sendable : IsSendable told e
  pub asks : ℕ
  pub places : HasPlaces tree b.room (calls_of b) e asks

-- One that waits for its content has come somewhere in it.
pub record IsAsking (tree : List Statement) (told : Option Files) (b : Base) (e : ExchangeData) (g : Gathering) : Type 0 where
  pub open_so : IsOpen tree told b e
  pub waits : e.phase ≡ AwaitsContent
  pub reading_so : Reading
  pub gathers : Gathers g reading_so

-- What is left of an answer can be put, and then its listeners can run.
pub record IsPuttable (told : Option Files) (b : Base) (d : ClosingData) (pieces : List Piece) (drain : Option (Drain ContentSource))
    : Type 0 where
  pub parts : HasPartsIn told pieces
  pub fit : FitPipe pieces
  pub drops : DropsSome drain
  pub places : HasPlacesFor b.room (calls_of b) d.completed.left

-- the link has taken all, if another head is to be read
abbrev pub IsWritten : Option End → Base → Type 0
IsWritten None b = b.port.output.items ≡ []
IsWritten (Some end) b = Unit {0}

-- What holds of a connection under a text, where the folder tells these files. The link has taken the whole of an answer before the
-- next head is read.
abbrev pub IsSafe : List Statement → Option Files → Base → Stage → Type 0
IsSafe tree told b reading = b.port.output.items ≡ []
IsSafe tree told b (refusing left) = Unit {0}
IsSafe tree told b (walking e) = IsOpen tree told b e × (b.port.output.items ≡ [])
IsSafe tree told b (gathering e g to_tell) = IsAsking tree told b e g
IsSafe tree told b (answering d pieces closes drain) = IsPuttable told b d pieces drain
IsSafe tree told b (closing d owed end) = HasPlacesFor b.room (calls_of b) (left_in owed d) × IsWritten end b
IsSafe tree told b (ended end) = Unit {0}
