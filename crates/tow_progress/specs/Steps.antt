-- The steps of a connection, and that each keeps it on its wire.
use Rattle.std.specs.Prelude.{◌≡◌, ℕ, suc, true, List, [], ◌∷◌, ◌++◌, Option, Some, None, IsTrue}
use Rattle.tow_model.specs.declared.request.Request.{Request}
use Rattle.tow_model.specs.declared.request.Framing.{Framing}
use Rattle.tow_model.specs.declared.content.Content.{Content}
use Rattle.tow_model.specs.declared.content.Content.TheVariants.{Whole}
use Rattle.tow_model.specs.declared.account.Verdict.{Verdict}
use Rattle.tow_model.specs.Lists.{IsPrefix}
use Rattle.tow_message.specs.Contents.{HasContent, Gives}
use Rattle.tow_message.specs.Stream.{Stream, refused, HasRequest, ReadsStream}
use Rattle.tow_semantics.specs.Runs.{Run, is_decided}
use Rattle.tow_wire.specs.Answers.{continue_text, is_invited, refusal_text}
use Rattle.tow_wire.specs.Wire.{Met, meet, left_by, text_of, goes_on}
use Rattle.tow_progress.specs.Progress.{Progress, unfinished, origin_of}
use Rattle.tow_progress.specs.Runs.{Grows}
use Rattle.tow_progress.specs.OnWire.{PutsFront, IsOnWire}

-- ---- what a step leaves

-- these bytes came from the link into the pipe of input, and the link has left the others
abbrev pub read_in : (bytes left : List ℕ) → Progress → Progress
read_in bytes left c = record c { piped_in = c.piped_in ++ bytes; left = left }

-- these bytes of the open request were taken from the pipe of input, which has left the others
abbrev pub taken : (bytes piped : List ℕ) → Progress → Progress
taken bytes piped c = record c { current = c.current ++ bytes; piped_in = piped }

-- the link took these bytes from the pipe of output, which has left the others
abbrev pub written_out : (bytes piped : List ℕ) → Progress → Progress
written_out bytes piped c = record c { written = c.written ++ bytes; piped_out = piped }

-- the open request got a verdict
abbrev pub heard : Verdict → Progress → Progress
heard verdict c = record c { own = c.own ++ verdict ∷ [] }

-- a piece was put for the open request
abbrev pub with_piece : List ℕ → Progress → Progress
with_piece piece c = record c { put = c.put ++ piece; piped_out = c.piped_out ++ piece }

-- the open request is finished, and the next one is open
abbrev pub completed : Progress → Progress
completed c = record c {
  request = suc c.request;
  finished = c.finished ++ c.current;
  current = [];
  texts = c.texts ++ c.put;
  put = [];
  spent = c.spent ++ c.own;
  own = [];
}

-- ---- what is known of the open request

-- while its end has not come, nothing is known of a content; else it is known whole
abbrev pub IsKnown : Framing → List ℕ → Option Content → Type 0
IsKnown framing behind None = Unit {0}
IsKnown framing behind (Some content) = Gives framing behind (Some content)

-- q is the open request, with this content as far as it is known
pub record IsOpen (c : Progress) (q : Request) (content : Option Content) : Type 0 where
  -- the input behind its head
  pub behind : List ℕ
  pub request : HasRequest c.peer (unfinished c) q behind
  pub known : IsKnown q.framing behind content

-- its exchange with this content, under the verdicts so far
abbrev pub open_exchange : Run → Progress → Request → Option Content → Met
open_exchange run c q content = meet run c.number c.request q content c.own

-- The open request q is done: it was answered, and its content was read to the end.
pub record IsComplete (run : Run) (c : Progress) (q : Request) (bytes : List ℕ) : Type 0 where
  -- the input behind its head
  pub behind : List ℕ
  pub request : HasRequest c.peer (unfinished c) q behind
  -- its content is these bytes, and all of it was taken from the pipe
  pub content : HasContent q.framing behind (Whole bytes) (c.piped_in ++ c.left)
  -- its answer is decided
  pub decided : IsTrue (is_decided (open_exchange run c q (Some (Whole bytes))).outcome)
  -- it used up the verdicts that it got
  pub used_up : left_by run c.number c.request q (Some (Whole bytes)) c.own ≡ []
  -- its answer lets the next request be read
  pub goes_on : goes_on (open_exchange run c q (Some (Whole bytes))) ≡ true
  -- all of its answer was put
  pub all_put : c.put ≡ text_of run c.number (open_exchange run c q (Some (Whole bytes)))

-- the same connection, on its wire
pub record Stays (run : Run) (old new : Progress) : Type 0 where
  pub origin : origin_of new ≡ origin_of old
  pub on_wire : IsOnWire run new

-- Each step of a connection keeps it on its wire.
pub record StepsKeep (run : Run) (c : Progress) : Type 0 where
  -- the link was read into the pipe of input
  pub reads : (bytes left : List ℕ) → c.left ≡ bytes ++ left
      → Stays run c (read_in bytes left c)
  -- a part of a head or of a content was taken from the pipe of input
  pub takes : (bytes piped : List ℕ) → c.piped_in ≡ bytes ++ piped
      → Stays run c (taken bytes piped c)
  -- the pipe of output was written to the link
  pub writes : (bytes piped : List ℕ) → c.piped_out ≡ bytes ++ piped
      → Stays run c (written_out bytes piped c)
  -- a verdict came
  pub hears : (verdict : Verdict) → Stays run c (heard verdict c)
  -- a piece was put which, however the open request is read, goes on with a front of what is written from it on
  pub puts : (piece : List ℕ)
      → ((rest : Stream) → ReadsStream c.peer (unfinished c) rest → PutsFront run (with_piece piece c) rest)
      → Stays run c (with_piece piece c)
  -- a piece of `100 Continue` was put for a request that is invited before its content has come
  pub invites : (q : Request) (piece : List ℕ) → IsOpen c q None
      → IsTrue (is_invited q (open_exchange run c q None).outcome)
      → IsPrefix (c.put ++ piece) continue_text
      → Stays run c (with_piece piece c)
  -- a piece was put of an answer that is decided
  pub answers : (q : Request) (content : Option Content) (piece : List ℕ) → IsOpen c q content
      → IsTrue (is_decided (open_exchange run c q content).outcome)
      → IsPrefix (c.put ++ piece) (text_of run c.number (open_exchange run c q content))
      → Stays run c (with_piece piece c)
  -- a piece was put of the answer to a head that is refused
  pub refuses : (status : ℕ) (piece : List ℕ) → ReadsStream c.peer (unfinished c) (refused status)
      → IsPrefix (c.put ++ piece) (refusal_text status (run.moment c.number c.request))
      → Stays run c (with_piece piece c)
  -- the exchange completed, and the next request is open
  pub completes : (q : Request) (bytes : List ℕ) → IsComplete run c q bytes
      → Stays run c (completed c)

-- ---- laws

abbrev pub WireIsKept : Type 0
WireIsKept = (run : Run) → Grows run → (c : Progress) → IsOnWire run c → StepsKeep run c

-- An answer that was decided before the content came is the one that is owed whatever content comes.
pub record Settles (run : Run) (k : ℕ) (old new : Met) : Type 0 where
  pub decided : is_decided new.outcome ≡ true
  pub outcome : new.outcome ≡ old.outcome
  pub text : text_of run k new ≡ text_of run k old
  pub on : goes_on new ≡ goes_on old

abbrev pub AnswersSettle : Type 0
AnswersSettle =
    (run : Run) → Grows run → (k j : ℕ) (q : Request) (content : Option Content) (v : List Verdict)
    → IsTrue (is_decided (meet run k j q None v).outcome)
    → Settles run k (meet run k j q None v) (meet run k j q content v)
