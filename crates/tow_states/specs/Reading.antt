-- Between requests: the next head is read, or is refused.
use Rattle.std.specs.Prelude.{◌≡◌, ℕ, Bool, List, [], ◌++◌}
use Rattle.tow_message.specs.Stream.{refused, ReadsStream}
use Rattle.tow_wire.specs.Answers.{refusal_text}
use Rattle.tow_progress.specs.Progress.{Progress, Origin, opening, unfinished}
use Rattle.tow_progress.specs.Steps.{with_piece}
use Rattle.tow_progress.specs.Accounts.{Tally, no_calls}
use Rattle.tow_progress.specs.Inside.{KeepsInside}
use Rattle.tow_states.specs.Known.{Setting, Stands, moment_of}

-- No exchange is open, and nothing of the next request was taken.
pub record IsReading (s : Setting) (o : Origin) (c : Progress) (t : Tally) : Type 0 where
  pub stands : Stands s o c t
  pub current : c.current ≡ []
  pub put : c.put ≡ []
  pub own : c.own ≡ []
  pub calls : t.made ≡ []
  pub lines : t.owed ≡ []
  pub inside : KeepsInside c.request [] t.calls

-- The next head is refused with this status, and so much is left to put of its answer.
pub record IsRefusing (s : Setting) (o : Origin) (c : Progress) (t : Tally) (status : ℕ) (to_put : List ℕ) : Type 0 where
  pub stands : Stands s o c t
  pub head : ReadsStream c.peer (unfinished c) (refused status)
  pub put : c.put ++ to_put ≡ refusal_text status (moment_of s c)
  pub calls : t.made ≡ []
  pub lines : t.owed ≡ []
  pub inside : KeepsInside c.request [] t.calls

-- ---- laws

-- a connection of which nothing was read reads its first head
abbrev pub ReadingBegins : Type 0
ReadingBegins =
    (s : Setting) (k peer : ℕ) (input : List ℕ) (all : Bool)
    → IsReading s (record { number = k; peer = peer; input = input }) (opening k peer input) (no_calls all)

-- a head that is refused has all of its answer to put
abbrev pub RefusingBegins : Type 0
RefusingBegins =
    (s : Setting) (o : Origin) (c : Progress) (t : Tally) → IsReading s o c t
    → (status : ℕ) → ReadsStream c.peer (c.piped_in ++ c.left) (refused status)
    → IsRefusing s o c t status (refusal_text status (moment_of s c))

-- the next piece of it is put
abbrev pub RefusalIsPut : Type 0
RefusalIsPut =
    (s : Setting) (o : Origin) (c : Progress) (t : Tally) (status : ℕ) (to_put : List ℕ) → IsRefusing s o c t status to_put
    → (piece rest : List ℕ) → to_put ≡ piece ++ rest → IsRefusing s o (with_piece piece c) t status rest
