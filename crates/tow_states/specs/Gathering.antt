-- An exchange waits for its content, which is read.
use Rattle.std.specs.Prelude.{◌≡◌, ℕ, Bool, true, false, not, ◌&&◌, List, [], ◌++◌, None}
use Rattle.tow_model.specs.declared.request.Request.{Request}
use Rattle.tow_wire.specs.Answers.{continue_text, is_too_long}
use Rattle.tow_wire.specs.Wire.{invitation_to}
use Rattle.tow_exchange.specs.Exchanges.{ExchangeData}
use Rattle.tow_exchange.specs.declared.phase.Phase.TheVariants.{AwaitsContent}
use Rattle.tow_progress.specs.Progress.{Progress, Origin}
use Rattle.tow_progress.specs.Steps.{taken, with_piece}
use Rattle.tow_progress.specs.Accounts.{Tally}
use Rattle.tow_course.specs.Course.{Course}
use Rattle.tow_states.specs.Known.{Setting, Stands, HasExchange, exchange_of}
use Rattle.tow_states.specs.Walking.{IsWalking}

-- The exchange waits for its content, for which all of its `100 Continue` was put if it is owed one.
pub record IsGathering (s : Setting) (o : Origin) (c : Progress) (t : Tally) (e : ExchangeData) (n : Course)
    (took : List ℕ) : Type 0 where
  pub stands : Stands s o c t
  pub exchange : HasExchange s c t e n took
  pub phase : e.phase ≡ AwaitsContent
  pub none : n.content ≡ None
  pub put : c.put ≡ invitation_to (exchange_of s c e.request None)

-- once its content is asked for, the client is told to send it
abbrev pub is_to_be_told : Request → Bool
is_to_be_told q = q.expects && not (is_too_long q.framing)

-- ---- laws

-- From a walk that comes to wait for the content.
pub record GatheringBegins (s : Setting) (o : Origin) (c : Progress) (t : Tally) (e : ExchangeData) (n : Course) : Type 0 where
  pub at_once : is_to_be_told e.request ≡ false → IsGathering s o c t e n []
  pub invited : is_to_be_told e.request ≡ true → IsGathering s o (with_piece continue_text c) t e n []

abbrev pub WalkComesToContent : Type 0
WalkComesToContent =
    (s : Setting) (o : Origin) (c : Progress) (t : Tally) (e : ExchangeData) (n : Course) → IsWalking s o c t e n
    → e.phase ≡ AwaitsContent → GatheringBegins s o c t e n

-- content was taken from the pipe
abbrev pub ContentIsTaken : Type 0
ContentIsTaken =
    (s : Setting) (o : Origin) (c : Progress) (t : Tally) (e : ExchangeData) (n : Course) (took : List ℕ)
    → IsGathering s o c t e n took → (bytes piped : List ℕ) → c.piped_in ≡ bytes ++ piped
    → IsGathering s o (taken bytes piped c) t e n (took ++ bytes)
