-- When a connection that was cut has ended as it has to.
use Rattle.std.specs.Prelude.{◌≡◌, ◌⊎◌, ℕ, pred, ◌<◌, Bool, List, [], length, Option, IsTrue}
use Rattle.tow_model.specs.declared.request.Request.{Request}
use Rattle.tow_model.specs.declared.record.Record.{Record}
use Rattle.tow_model.specs.declared.record.Choice.TheVariants.{Undecided}
use Rattle.tow_model.specs.declared.content.Content.{Content}
use Rattle.tow_model.specs.declared.statement.Statement.{Statement}
use Rattle.tow_model.specs.Lists.{IsPrefix}
use Rattle.tow_message.specs.Stream.{Stream, refused, ReadsStream}
use Rattle.tow_semantics.specs.Runs.{Run}
use Rattle.tow_wire.specs.Wire.{text_of, invitation_to}
use Rattle.tow_progress.specs.Progress.{Progress, unfinished, input_of}
use Rattle.tow_progress.specs.Runs.{Grows}
use Rattle.tow_progress.specs.OnWire.{IsOnWire}
use Rattle.tow_progress.specs.Steps.{IsOpen, open_exchange}
use Rattle.tow_progress.specs.Exchanges.{lines_by}
use Rattle.tow_progress.specs.Ended.{Seen, HasCalls, IsDecidedAs, IsCut}
use Rattle.tow_progress.specs.Accounts.{Tally, KeepsAccount, IsSeenOf}

-- where a connection was cut
pub data CutAt : Type 0 where
  -- no exchange is open: the next head has not come, or is refused
  between : CutAt
  -- the exchange of this request is open, given its content as far as it is known
  inside : Request → Option Content → CutAt

-- It was cut before an exchange was begun.
pub record IsCutBetween (c : Progress) (t : Tally) : Type 0 where
  -- nothing was put but of the answer to a head that is refused
  pub put : (c.put ≡ []) ⊎ ((status : ℕ) × ReadsStream c.peer (unfinished c) (refused status))
  pub calls : t.made ≡ []
  pub lines : t.owed ≡ []

-- It was cut in the exchange of q, whose listeners then ran.
pub record IsCutInside (tree : List Statement) (run : Run) (c : Progress) (t : Tally) (q : Request)
    (content : Option Content) : Type 0 where
  pub opens : IsOpen c q content
  -- a front of its text was put
  pub put : IsPrefix c.put (text_of run c.number (open_exchange run c q content))
  -- its record at the end
  pub state : Record
  pub ends : IsDecidedAs (open_exchange run c q content) state ⊎ (state.choice ≡ Undecided)
  -- it was decided if more was put than its `100 Continue`
  pub decided : length (invitation_to (open_exchange run c q content)) < length c.put
      → IsDecidedAs (open_exchange run c q content) state
  -- its calls are its entries, and then the leavings of the listeners that it had added
  pub calls : HasCalls (open_exchange run c q content) state.listeners t.made
  -- its lines are told
  pub lines : t.owed ≡ lines_by tree run c.number (open_exchange run c q content) state

abbrev pub IsCutAt : List Statement → Run → Progress → Tally → CutAt → Type 0
IsCutAt tree run c t between = IsCutBetween c t
IsCutAt tree run c t (inside q content) = IsCutInside tree run c t q content

-- how many exchanges were begun
abbrev pub begun_at : Progress → CutAt → ℕ
begun_at c between = pred c.request
begun_at c (inside q content) = c.request

-- A connection that is on its wire and keeps its account has ended as one that was cut, if its listeners ran. All of its
-- lines are stored if none was lost.
abbrev pub CutFollows : Type 0
CutFollows =
    (tree : List Statement) (run : Run) → Grows run → (c : Progress) (t : Tally) → IsOnWire run c → KeepsAccount tree run c t
    → (at : CutAt) → IsCutAt tree run c t at
    → (seen : Seen) → IsSeenOf c t (begun_at c at) seen → (all : Bool) → (IsTrue all → IsTrue t.all)
    → (whole : Stream) → ReadsStream c.peer (input_of c) whole → IsCut tree run c.number whole seen all
