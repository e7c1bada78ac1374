-- What an open connection has asked of limits and stored in its log, beside what it has written.
use Rattle.std.specs.Prelude.{◌≡◌, ◌≢◌, ℕ, pred, Bool, false, List, [], ◌∷◌, ◌++◌, Some, None, take, All, IsTrue}
use Rattle.tow_model.specs.declared.request.Request.{Request}
use Rattle.tow_model.specs.declared.content.Content.TheVariants.{Whole}
use Rattle.tow_model.specs.declared.account.Call.{Call}
use Rattle.tow_model.specs.declared.account.What.TheVariants.{Enter, Leave}
use Rattle.tow_model.specs.declared.account.Line.{Line}
use Rattle.tow_model.specs.declared.account.Verdict.{Verdict}
use Rattle.tow_model.specs.declared.statement.Statement.{Statement}
use Rattle.tow_history.specs.Histories.{verdicts}
use Rattle.tow_message.specs.Stream.{Stream, ReadsStream}
use Rattle.tow_semantics.specs.Listeners.{calls}
use Rattle.tow_semantics.specs.Runs.{Run, for_verdict}
use Rattle.tow_wire.specs.Wire.{Met, met}
use Rattle.tow_progress.specs.Progress.{Progress, input_of, verdicts_of, opening, origin_of}
use Rattle.tow_progress.specs.Runs.{Grows}
use Rattle.tow_progress.specs.OnWire.{IsOnWire}
use Rattle.tow_progress.specs.Steps.{heard, completed, open_exchange, IsComplete}
use Rattle.tow_progress.specs.Whole.{LastThing, an_end, a_refusal, a_closing, a_request, IsAtEnd}
use Rattle.tow_progress.specs.Exchanges.{calls_of, lines_by, lines_of}
use Rattle.tow_progress.specs.Ended.{Seen, Keeps, IsReleased, IsDone}

-- What is seen of its calls and its lines.
pub record Tally : Type 0 where
  -- its calls of limits so far
  pub calls : List Call
  -- those of the open request
  pub made : List Call
  -- the lines that its log has stored
  pub lines : List Line
  -- the lines that the open request owes so far
  pub owed : List Line
  -- no line was lost: its log has failed in nothing, and each line found its memory
  pub all : Bool

-- the exchanges that are finished
abbrev pub finished_of : Run → Progress → Stream → List Met
finished_of run c whole = take (pred c.request) (met run c.number whole c.spent)

-- Its calls and its lines are those of the exchanges so far.
pub record KeepsAccount (tree : List Statement) (run : Run) (c : Progress) (t : Tally) : Type 0 where
  -- the verdicts of its calls are those that it heard
  pub verdicts : verdicts t.calls ≡ verdicts_of c
  -- its calls are those of the finished exchanges, and then those of the open one
  pub calls : (whole : Stream) → ReadsStream c.peer (input_of c) whole
      → t.calls ≡ calls_of (finished_of run c whole) ++ t.made
  -- its lines are those of the finished exchanges, and then those of the open one
  pub lines : (whole : Stream) → ReadsStream c.peer (input_of c) whole
      → Keeps t.all t.lines (lines_of tree run c.number (finished_of run c whole) ++ t.owed)
  -- each finished exchange has left what it had entered
  pub released : (whole : Stream) → ReadsStream c.peer (input_of c) whole → All IsReleased (finished_of run c whole)

-- ---- steps

-- the open request made a call
abbrev pub called : Call → Tally → Tally
called call t = record t { calls = t.calls ++ call ∷ []; made = t.made ++ call ∷ [] }

abbrev pub entered : ℕ → Progress → Verdict → Call
entered limit c verdict = record { limit = limit; request = c.request; what = Enter verdict }

abbrev pub released : ℕ → Progress → Call
released limit c = record { limit = limit; request = c.request; what = Leave }

-- a line that the open request owes was stored
abbrev pub stored : Line → Tally → Tally
stored line t = record t { lines = t.lines ++ line ∷ []; owed = t.owed ++ line ∷ [] }

-- a line that the open request owes was lost
abbrev pub lost : Line → Tally → Tally
lost line t = record t { owed = t.owed ++ line ∷ []; all = false }

-- the next request is open
abbrev pub settled : Tally → Tally
settled t = record t { made = []; owed = [] }

-- the open request has made its calls, and its lines are told
pub record IsAccounted (tree : List Statement) (run : Run) (c : Progress) (e : Met) (t : Tally) : Type 0 where
  pub calls : t.made ≡ calls e.number e.outcome
  pub lines : t.owed ≡ lines_by tree run c.number e e.outcome.state
  -- it has left what it had entered
  pub released : IsReleased e

-- Each step keeps the account.
pub record AccountStepsKeep (tree : List Statement) (run : Run) (c : Progress) (t : Tally) : Type 0 where
  -- bytes were read, taken, put or written
  pub moves : (d : Progress) → origin_of d ≡ origin_of c → d.request ≡ c.request → d.spent ≡ c.spent → d.own ≡ c.own
      → KeepsAccount tree run d t
  -- a limit gave its verdict
  pub enters : (limit : ℕ) (verdict : Verdict)
      → KeepsAccount tree run (heard verdict c) (called (entered limit c verdict) t)
  -- a limit was left
  pub leaves : (limit : ℕ) → KeepsAccount tree run c (called (released limit c) t)
  -- a line was stored, which happens only if none was lost before
  pub stores : (line : Line) → IsTrue t.all → KeepsAccount tree run c (stored line t)
  -- a line was lost, or comes after one that was
  pub loses : (line : Line) → KeepsAccount tree run c (lost line t)
  -- the exchange completed, and the next request is open
  pub completes : IsOnWire run c → (q : Request) (bytes : List ℕ) → IsComplete run c q bytes
      → IsAccounted tree run c (open_exchange run c q (Some (Whole bytes))) t
      → KeepsAccount tree run (completed c) (settled t)

abbrev pub AccountIsKept : Type 0
AccountIsKept =
    (tree : List Statement) (run : Run) → Grows run → (c : Progress) (t : Tally) → KeepsAccount tree run c t
    → AccountStepsKeep tree run c t

-- ---- the beginning and the end

-- nothing was asked and nothing stored
abbrev pub no_calls : Bool → Tally
no_calls all = record { calls = []; made = []; lines = []; owed = []; all = all }

-- a connection of which nothing was read keeps its account
abbrev pub AccountOpens : Type 0
AccountOpens =
    (tree : List Statement) (run : Run) (k peer : ℕ) (input : List ℕ) (all : Bool)
    → KeepsAccount tree run (opening k peer input) (no_calls all)

-- the last request has made its calls, and its lines are told; where there is none, nothing was asked for it
abbrev pub LastIsAccounted : List Statement → Run → Progress → Tally → LastThing → Type 0
LastIsAccounted tree run c t an_end = (t.made ≡ []) × (t.owed ≡ [])
LastIsAccounted tree run c t (a_refusal status) = (t.made ≡ []) × (t.owed ≡ [])
LastIsAccounted tree run c t (a_closing q) = IsAccounted tree run c (open_exchange run c q None) t
LastIsAccounted tree run c t (a_request q content) =
    IsAccounted tree run c (open_exchange run c q content) t
    × ((open_exchange run c q content).outcome.waits ≢ Some for_verdict)

-- how many requests became exchanges
abbrev pub exchanges_at : Progress → LastThing → ℕ
exchanges_at c an_end = pred c.request
exchanges_at c (a_refusal status) = pred c.request
exchanges_at c (a_closing q) = c.request
exchanges_at c (a_request q content) = c.request

-- it ended with so many exchanges, and this was seen
pub record IsSeenOf (c : Progress) (t : Tally) (exchanges : ℕ) (seen : Seen) : Type 0 where
  pub calls : seen.account.calls ≡ t.calls
  pub count : seen.account.exchanges ≡ exchanges
  pub written : seen.written ≡ c.written
  pub lines : seen.lines ≡ t.lines

-- A connection that is on its wire and keeps its account is done if it has come to its last thing, has put, written and
-- asked all that this asks for, and has told its lines.
abbrev pub DoneFollows : Type 0
DoneFollows =
    (tree : List Statement) (run : Run) → Grows run → (c : Progress) (t : Tally) → IsOnWire run c → KeepsAccount tree run c t
    → (thing : LastThing) → IsAtEnd run c thing → LastIsAccounted tree run c t thing → c.piped_out ≡ []
    → (seen : Seen) → IsSeenOf c t (exchanges_at c thing) seen → (IsTrue seen.logged → IsTrue t.all)
    → (whole : Stream) → ReadsStream c.peer (input_of c) whole → IsDone tree run c.number whole seen
