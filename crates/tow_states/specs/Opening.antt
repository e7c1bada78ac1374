-- A head was read: its exchange opens.
use Rattle.std.specs.Prelude.{◌≡◌, ℕ, List, ◌++◌}
use Rattle.tow_model.specs.declared.request.Request.{Request}
use Rattle.tow_message.specs.Stream.{HasRequest}
use Rattle.tow_exchange.specs.Exchanges.{opened}
use Rattle.tow_progress.specs.Progress.{Progress, Origin}
use Rattle.tow_progress.specs.Steps.{taken}
use Rattle.tow_progress.specs.Accounts.{Tally}
use Rattle.tow_course.specs.Course.{fresh}
use Rattle.tow_states.specs.Known.{Setting, moment_of}
use Rattle.tow_states.specs.Reading.{IsReading}
use Rattle.tow_states.specs.Walking.{IsWalking}

-- A head that stands first in the pipe was taken, and its exchange walks from the beginning of the text.
abbrev pub ExchangeOpens : Type 0
ExchangeOpens =
    (s : Setting) (o : Origin) (c : Progress) (t : Tally) → IsReading s o c t
    → (q : Request) (head piped : List ℕ) → c.piped_in ≡ head ++ piped
    → HasRequest c.peer (c.piped_in ++ c.left) q (piped ++ c.left)
    → IsWalking s o (taken head piped c) t (opened c.number c.request q (moment_of s c)) fresh
