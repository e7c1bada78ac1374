-- What is sent for an exchange that completed.
use Rattle.std.specs.Prelude.{◌≡◌, ℕ, ◌≤◌, Bool, not, true, List, All, Option}
use Rattle.tow_model.specs.declared.limits.TheConstants.{PIPE_LEN}
use Rattle.tow_model.specs.declared.request.Request.{Request}
use Rattle.tow_model.specs.declared.answer.Answer.{Answer}
use Rattle.tow_model.specs.declared.content.Content.{Content}
use Rattle.tow_model.specs.declared.record.Record.{Record}
use Rattle.tow_semantics.specs.Runs.{Ending, Run, is_decided}
use Rattle.tow_wire.specs.Wire.{Met, answer_to, goes_on}
use Rattle.tow_exchange.specs.Completions.{CompletedData}
use Rattle.tow_answer.specs.declared.content_use.ContentUse.{ContentUse}
use Rattle.tow_answer.specs.Uses.{IsUsed}
use Rattle.tow_sending.specs.Pieces.{Piece, size_of, pieces_of, texts}

-- The pieces are those of the answer, and it says whether the connection ends.
pub record Sends (q : Request) (a : Answer) (pieces : List Piece) (ends : Bool) : Type 0 where
  pub whole : pieces ≡ pieces_of q a
  pub last : ends ≡ a.close

-- each piece fits an empty pipe
abbrev pub FitPipe : List Piece → Type 0
FitPipe pieces = All (λ (p : Piece). size_of p ≤ PIPE_LEN) pieces

-- An exchange ended so with this record, whatever became of its listeners: its answer is decided, it is the record's, and the
-- content of its request was used so.
pub record IsOutcomeOf (content_use : ContentUse) (x : Record) (content : Option Content) (o : Ending) : Type 0 where
  pub decided : is_decided o ≡ true
  pub status : x.status ≡ o.state.status
  pub fields : x.fields ≡ o.state.fields
  pub choice : x.choice ≡ o.state.choice
  pub used : IsUsed content_use content o

-- the exchange as the wire has it
abbrev pub met_as : CompletedData → Option Content → Ending → Met
met_as c content o = record { number = c.number; request = c.request; content = content; outcome = o }

-- What is sent is the answer that the wire has for it, over the files of the run, and the connection ends after it exactly if
-- the wire reads no next request.
pub record Replies (run : Run) (k : ℕ) (e : Met) (pieces : List Piece) (ends : Bool) : Type 0 where
  pub text : texts run.file pieces ≡ answer_to run k e
  pub last : ends ≡ not (goes_on e)

-- whatever run has this outcome and this moment
abbrev pub RepliesBy : ContentUse → CompletedData → Record → List Piece → Bool → Type 0
RepliesBy content_use c x pieces ends =
    (run : Run) (content : Option Content) (o : Ending)
    → run.moment c.connection c.number ≡ c.moment → IsOutcomeOf content_use x content o
    → Replies run c.connection (met_as c content o) pieces ends
