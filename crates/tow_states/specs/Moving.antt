-- The link is read into the pipe of input, and the pipe of output is written to the link: each state stays.
use Rattle.std.specs.Prelude.{◌≡◌, ℕ, List, ◌++◌}
use Rattle.tow_exchange.specs.Exchanges.{ExchangeData}
use Rattle.tow_progress.specs.Progress.{Progress, Origin}
use Rattle.tow_progress.specs.Steps.{read_in, written_out}
use Rattle.tow_progress.specs.Whole.{LastThing}
use Rattle.tow_progress.specs.Accounts.{Tally}
use Rattle.tow_course.specs.Course.{Course}
use Rattle.tow_states.specs.Known.{Setting}
use Rattle.tow_states.specs.Reading.{IsReading, IsRefusing}
use Rattle.tow_states.specs.Walking.{IsWalking}
use Rattle.tow_states.specs.Gathering.{IsGathering}
use Rattle.tow_states.specs.Sending.{IsSending}
use Rattle.tow_states.specs.Ending.{IsAtLast}

-- bytes that the link had left came into the pipe of input
abbrev pub KeptByReads : (Progress → Type 0) → Progress → Type 0
KeptByReads state c = (bytes left : List ℕ) → c.left ≡ bytes ++ left → state (read_in bytes left c)

-- the link took bytes from the pipe of output
abbrev pub KeptByWrites : (Progress → Type 0) → Progress → Type 0
KeptByWrites state c = (bytes piped : List ℕ) → c.piped_out ≡ bytes ++ piped → state (written_out bytes piped c)

pub record KeptByMoves (state : Progress → Type 0) (c : Progress) : Type 0 where
  pub reads : KeptByReads state c
  pub writes : KeptByWrites state c

-- ---- law

-- What holds in a state goes on to hold. Nothing is read once a head is refused or the last thing is done.
pub record MovesKeep (s : Setting) (o : Origin) (c : Progress) (t : Tally) : Type 0 where
  pub reading : IsReading s o c t → KeptByMoves (λ d. IsReading s o d t) c
  pub refusing : (status : ℕ) (to_put : List ℕ) → IsRefusing s o c t status to_put
      → KeptByWrites (λ d. IsRefusing s o d t status to_put) c
  pub walking : (e : ExchangeData) (n : Course) → IsWalking s o c t e n → KeptByMoves (λ d. IsWalking s o d t e n) c
  pub gathering : (e : ExchangeData) (n : Course) (took : List ℕ) → IsGathering s o c t e n took
      → KeptByMoves (λ d. IsGathering s o d t e n took) c
  pub sending : (e : ExchangeData) (n : Course) (took to_put : List ℕ) → IsSending s o c t e n took to_put
      → KeptByMoves (λ d. IsSending s o d t e n took to_put) c
  pub last : (thing : LastThing) → IsAtLast s o c t thing → KeptByWrites (λ d. IsAtLast s o d t thing) c

abbrev pub StatesMove : Type 0
StatesMove = (s : Setting) (o : Origin) (c : Progress) (t : Tally) → MovesKeep s o c t
