-- What is true of a connection that has ended.
use Rattle.std.specs.Prelude.{◌≡◌, ◌≢◌, ℕ, ◌+◌, ◌<◌, ◌≤◌, ◌⊎◌, Bool, true, false, ◌&&◌, ◌==◌, List, [], ◌∷◌, ◌++◌, length, map, filter_map, reverse, count_by, Some, All, IsTrue}
use Rattle.tow_model.specs.declared.record.Record.{Record}
use Rattle.tow_model.specs.declared.record.Choice.TheVariants.{Undecided}
use Rattle.tow_model.specs.declared.record.Listener.{Listener}
use Rattle.tow_model.specs.declared.record.Listener.TheVariants as listens
use Rattle.tow_model.specs.declared.account.Account.{Account}
use Rattle.tow_model.specs.declared.account.Call.{Call}
use Rattle.tow_model.specs.declared.account.Line.{Line}
use Rattle.tow_model.specs.declared.account.Verdict.{Verdict}
use Rattle.tow_model.specs.declared.account.Verdict.TheVariants.{Admitted, Refused}
use Rattle.tow_model.specs.declared.account.End.{End}
use Rattle.tow_model.specs.declared.account.End.TheVariants.{Done, LinkFault, FolderFault, NoMemory}
use Rattle.tow_model.specs.declared.statement.Statement.{Statement}
use Rattle.tow_model.specs.Lists.{IsPrefix}
use Rattle.tow_history.specs.Histories.{verdicts}
use Rattle.tow_message.specs.Stream.{Stream, ReadsStream}
use Rattle.tow_semantics.specs.Files.{Files}
use Rattle.tow_semantics.specs.Listeners.{entering, leaving}
use Rattle.tow_semantics.specs.Runs.{Entry, for_verdict, Run, is_decided}
use Rattle.tow_semantics.specs.Sites.{run_of}
use Rattle.tow_wire.specs.Wire.{Met, wire, met, texts_of, invitation_to}
use Rattle.tow_progress.specs.Exchanges.{calls_of, lines_by, lines_of}

-- what is seen of a connection that has ended
pub record Seen : Type 0 where
  pub account : Account
  -- the bytes that its link gained
  pub written : List ℕ
  -- the lines of its number that its log gained
  pub lines : List Line
  -- its log failed in nothing for it
  pub logged : Bool

-- the wire under the verdicts that its calls of limits got
abbrev pub wire_seen : Run → ℕ → Stream → Seen → List ℕ
wire_seen run k stream seen = wire run k stream (verdicts seen.account.calls)

-- its exchanges under these verdicts
abbrev pub met_seen : Run → ℕ → Stream → Seen → List Met
met_seen run k stream seen = met run k stream (verdicts seen.account.calls)

-- The lines that were stored are a front of those that are owed.
pub record Keeps (all : Bool) (stored owed : List Line) : Type 0 where
  pub front : IsPrefix stored owed
  -- they are all of them, if none can have been lost
  pub whole : IsTrue all → stored ≡ owed

-- ---- a connection that is done

-- All was written, and each exchange was completed.
pub record IsDone (tree : List Statement) (run : Run) (k : ℕ) (stream : Stream) (seen : Seen) : Type 0 where
  -- the whole wire was written
  pub bytes : seen.written ≡ wire_seen run k stream seen
  -- its calls are those of its exchanges, in order
  pub calls : seen.account.calls ≡ calls_of (met_seen run k stream seen)
  -- it had all its exchanges
  pub count : seen.account.exchanges ≡ length (met_seen run k stream seen)
  -- none of them waits for a verdict
  pub heard : All (λ e. e.outcome.waits ≢ Some for_verdict) (met_seen run k stream seen)
  -- the lines that it stored are theirs; if its log failed in nothing, all of them
  pub lines : Keeps seen.logged seen.lines (lines_of tree run k (met_seen run k stream seen))

-- ---- a connection that was cut

abbrev pub is_admission : Verdict → Bool
is_admission Admitted = true
is_admission Refused = false

-- the entry was admitted at this limit
abbrev pub admits : ℕ → Entry → Bool
admits limit entry = entry.limit == limit && is_admission entry.verdict

-- the listener leaves this limit
abbrev pub leaves : ℕ → Listener → Bool
leaves limit (listens.Leave other) = other == limit
leaves limit (listens.Log number) = false

-- each entry of the exchange that was admitted has its leaving among the listeners
abbrev pub IsReleased : Met → Type 0
IsReleased e = (limit : ℕ) → count_by (admits limit) e.outcome.entries ≤ count_by (leaves limit) e.outcome.state.listeners

-- The calls of the last exchange, which had added these listeners.
pub record HasCalls (e : Met) (listeners : List Listener) (made : List Call) : Type 0 where
  -- it had added a front of its outcome's listeners
  pub added : IsPrefix listeners e.outcome.state.listeners
  -- it had made a front of its outcome's entries
  pub entries : List Entry
  pub entered : IsPrefix entries e.outcome.entries
  -- its calls are these entries, and then the leavings of these listeners, the one added last first
  pub are : made ≡ map (entering e.number) entries ++ filter_map (leaving e.number) (reverse listeners)
  -- each of these entries that was admitted has its leaving among these listeners
  pub released : (limit : ℕ) → count_by (admits limit) entries ≤ count_by (leaves limit) listeners

-- the exchange was decided, and this is its record at the end
abbrev pub IsDecidedAs : Met → Record → Type 0
IsDecidedAs e x = IsTrue (is_decided e.outcome) × (x ≡ e.outcome.state)

-- no exchange was begun
pub record IsUnbegun (seen : Seen) (begun : List Met) : Type 0 where
  pub none : begun ≡ []
  pub calls : seen.account.calls ≡ []
  pub lines : seen.lines ≡ []

-- The last of the exchanges that were begun was cut.
pub record IsCutIn (tree : List Statement) (run : Run) (k : ℕ) (seen : Seen) (all : Bool) (begun : List Met) : Type 0 where
  -- those before the last one, and that
  pub whole : List Met
  pub e : Met
  pub are : begun ≡ whole ++ e ∷ []
  -- its record at the end: that of its outcome if its answer was decided, else an undecided one
  pub state : Record
  pub ends : IsDecidedAs e state ⊎ (state.choice ≡ Undecided)
  -- its answer was decided if more was written than the answers before it and its own `100 Continue`
  pub decided : length (texts_of run k whole) + length (invitation_to e) < length seen.written → IsDecidedAs e state
  -- the calls are those of the exchanges before it, and then its own
  pub made : List Call
  pub calls : seen.account.calls ≡ calls_of whole ++ made
  pub its_calls : HasCalls e state.listeners made
  -- the lines that were stored are of the exchanges before it, and then of its record at the end
  pub lines : Keeps all seen.lines (lines_of tree run k whole ++ lines_by tree run k e state)

-- A front of the wire was written, and the first exchanges were begun.
pub record IsCut (tree : List Statement) (run : Run) (k : ℕ) (stream : Stream) (seen : Seen) (all : Bool) : Type 0 where
  -- the written bytes are a front of the wire
  pub bytes : IsPrefix seen.written (wire_seen run k stream seen)
  -- the exchanges that were begun are the first ones
  pub begun : List Met
  pub first : IsPrefix begun (met_seen run k stream seen)
  pub count : seen.account.exchanges ≡ length begun
  -- each exchange of whose answer or `100 Continue` a byte was written is among them
  pub reached : (before behind : List Met) (e : Met) → met_seen run k stream seen ≡ before ++ e ∷ behind
      → length (texts_of run k before) < length seen.written → length before < length begun
  -- none was begun, or the last of them was cut
  pub last : IsUnbegun seen begun ⊎ IsCutIn tree run k seen all begun

-- ---- both

-- A line that finds no memory is not stored, and its connection ends so.
abbrev pub EndedBy : End → List Statement → Run → ℕ → Stream → Seen → Type 0
EndedBy Done tree run k stream seen = IsDone tree run k stream seen
EndedBy LinkFault tree run k stream seen = IsCut tree run k stream seen seen.logged
EndedBy FolderFault tree run k stream seen = IsCut tree run k stream seen seen.logged
EndedBy NoMemory tree run k stream seen = IsCut tree run k stream seen false

-- Connection k, whose input is read as this stream, has ended as it was seen.
abbrev pub Ended : List Statement → Run → ℕ → Stream → Seen → Type 0
Ended tree run k stream seen = EndedBy seen.account.end tree run k stream seen

-- However this input of connection k is read, it has ended so under the text, the folder and the moments.
abbrev pub EndedUnder : List Statement → Files → (ℕ → ℕ → ℕ) → (k peer : ℕ) → List ℕ → Seen → Type 0
EndedUnder tree files moments k peer input seen =
    (stream : Stream) → ReadsStream peer input stream → Ended tree (run_of tree files moments) k stream seen
