-- When a connection that is on its wire has written the whole of it.
use Rattle.std.specs.Prelude.{◌≡◌, ◌⊎◌, ℕ, false, List, [], Option, None, IsTrue}
use Rattle.tow_model.specs.declared.request.Request.{Request}
use Rattle.tow_model.specs.declared.content.Content.{Content}
use Rattle.tow_message.specs.Contents.{Gives}
use Rattle.tow_message.specs.Stream.{Stream, nothing, refused, HasRequest, IsWhole, ReadsStream}
use Rattle.tow_semantics.specs.Runs.{Run, is_decided}
use Rattle.tow_wire.specs.Answers.{refusal_text}
use Rattle.tow_wire.specs.Wire.{text_of, goes_on, wire}
use Rattle.tow_progress.specs.Progress.{Progress, unfinished, input_of, verdicts_of}
use Rattle.tow_progress.specs.Runs.{Grows}
use Rattle.tow_progress.specs.OnWire.{IsOnWire}
use Rattle.tow_progress.specs.Steps.{IsOpen, open_exchange}

-- what a connection comes to last
pub data LastThing : Type 0 where
  -- nothing more is asked
  an_end : LastThing
  -- a head is refused with a status
  a_refusal : ℕ → LastThing
  -- an answer closes whatever content comes
  a_closing : Request → LastThing
  -- a request whose content is not whole, or whose answer closes, given its content
  a_request : Request → Option Content → LastThing

-- all was put for a request whose answer closes before its content has come
pub record IsClosed (run : Run) (c : Progress) (q : Request) : Type 0 where
  pub opens : IsOpen c q None
  pub decided : IsTrue (is_decided (open_exchange run c q None).outcome)
  pub closes : goes_on (open_exchange run c q None) ≡ false
  pub all_put : c.put ≡ text_of run c.number (open_exchange run c q None)

-- all was put for a request behind which nothing is read
pub record IsLastRequest (run : Run) (c : Progress) (q : Request) (content : Option Content) : Type 0 where
  pub behind : List ℕ
  pub request : HasRequest c.peer (unfinished c) q behind
  -- its content is this, or its end does not come
  pub given : Gives q.framing behind content
  -- nothing is read behind it
  pub ends : (goes_on (open_exchange run c q content) ≡ false) ⊎ (¬ (IsWhole content))
  pub all_put : c.put ≡ text_of run c.number (open_exchange run c q content)

-- The connection has come to its last thing, and has put all that this asks for.
abbrev pub IsAtEnd : Run → Progress → LastThing → Type 0
IsAtEnd run c an_end = ReadsStream c.peer (unfinished c) nothing × (c.put ≡ [])
IsAtEnd run c (a_refusal status) =
    ReadsStream c.peer (unfinished c) (refused status)
    × (c.put ≡ refusal_text status (run.moment c.number c.request))
IsAtEnd run c (a_closing q) = IsClosed run c q
IsAtEnd run c (a_request q content) = IsLastRequest run c q content

-- If the pipe of output is empty besides, the whole wire was written.
abbrev pub WholeIsWritten : Type 0
WholeIsWritten =
    (run : Run) → Grows run → (c : Progress) → IsOnWire run c
    → (thing : LastThing) → IsAtEnd run c thing → c.piped_out ≡ []
    → (whole : Stream) → ReadsStream c.peer (input_of c) whole
    → c.written ≡ wire run c.number whole (verdicts_of c)

-- The same where a type keeps the fact without its reasons.
abbrev pub KeptWholeIsWritten : Type 0
KeptWholeIsWritten =
    (run : Run) → Grows run → (c : Progress) → ∥ IsOnWire run c ∥₁
    → (thing : LastThing) → IsAtEnd run c thing → c.piped_out ≡ []
    → (whole : Stream) → ReadsStream c.peer (input_of c) whole
    → c.written ≡ wire run c.number whole (verdicts_of c)
