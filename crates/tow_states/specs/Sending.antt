-- An exchange has stopped: its answer is put piece by piece, and a content that nobody asked for is dropped.
use Rattle.std.specs.Prelude.{◌≡◌, ℕ, List, [], ◌++◌, Some, None}
use Rattle.tow_model.specs.declared.content.Content.{Content}
use Rattle.tow_semantics.specs.Runs.{Ending}
use Rattle.tow_semantics.specs.Sites.{file_bytes}
use Rattle.tow_semantics.specs.Outcome.{decided}
use Rattle.tow_wire.specs.Answers.{answer, answer_of}
use Rattle.tow_wire.specs.Wire.{text_of}
use Rattle.tow_exchange.specs.Exchanges.{ExchangeData, content_given}
use Rattle.tow_exchange.specs.declared.phase.Phase.TheVariants.{Stopped}
use Rattle.tow_progress.specs.Progress.{Progress, Origin}
use Rattle.tow_progress.specs.Steps.{taken, with_piece}
use Rattle.tow_progress.specs.Accounts.{Tally}
use Rattle.tow_course.specs.Course.{Course, notes_of, read_in}
use Rattle.tow_states.specs.Known.{Setting, Stands, HasExchange, Shows, exchange_of, moment_of, run_in}
use Rattle.tow_states.specs.Walking.{IsWalking}
use Rattle.tow_states.specs.Gathering.{IsGathering}

-- how an exchange that has stopped ends
abbrev pub ending_of : ExchangeData → Course → Ending
ending_of e n = (decided e.stand (notes_of n [])).outcome

-- its answer
abbrev pub answer_text : Setting → Progress → ExchangeData → Course → List ℕ
answer_text s c e n =
    answer (file_bytes s.files) e.request (answer_of e.request c.request (moment_of s c) n.content (ending_of e n))

-- The exchange has stopped, and so much is left to put of what is written for it.
pub record IsSending (s : Setting) (o : Origin) (c : Progress) (t : Tally) (e : ExchangeData) (n : Course)
    (took to_put : List ℕ) : Type 0 where
  pub stands : Stands s o c t
  pub exchange : HasExchange s c t e n took
  pub phase : e.phase ≡ Stopped
  pub put : c.put ++ to_put ≡ text_of (run_in s) c.number (exchange_of s c e.request n.content)

-- ---- laws

-- The answer of an exchange that has stopped is decided, and is what is left to put.
pub record AnswerIsDecided : Type 0 where
  -- it stopped on its walk
  pub walked : (s : Setting) (o : Origin) (c : Progress) (t : Tally) (e : ExchangeData) (n : Course) → IsWalking s o c t e n
      → e.phase ≡ Stopped → IsSending s o c t e n [] (answer_text s c e n)
  -- its content came, and it was given that
  pub gathered : (s : Setting) (o : Origin) (c : Progress) (t : Tally) (e : ExchangeData) (n : Course) (took : List ℕ)
      → IsGathering s o c t e n took → (content : Content) → Shows e.request.framing took (Some content)
      → IsSending s o c t (content_given content e) (read_in content n) took
      (answer_text s c (content_given content e) (read_in content n))

-- Each step of an answer keeps it.
pub record SendStepsKeep (s : Setting) (o : Origin) (c : Progress) (t : Tally) (e : ExchangeData) (n : Course)
    (took to_put : List ℕ) : Type 0 where
  -- the next piece was put
  pub puts : (piece rest : List ℕ) → to_put ≡ piece ++ rest → IsSending s o (with_piece piece c) t e n took rest
  -- content that was not asked for was taken from the pipe, and is dropped
  pub drops : n.content ≡ None → (bytes piped : List ℕ) → c.piped_in ≡ bytes ++ piped
      → IsSending s o (taken bytes piped c) t e n (took ++ bytes) to_put

abbrev pub AnswerIsSent : Type 0
AnswerIsSent =
    (s : Setting) (o : Origin) (c : Progress) (t : Tally) (e : ExchangeData) (n : Course) (took to_put : List ℕ)
    → IsSending s o c t e n took to_put → SendStepsKeep s o c t e n took to_put
