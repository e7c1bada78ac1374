-- What a source of content has read, and what its answers say.
use Rattle.std.specs.Prelude.{◌≡◌, ℕ, ◌+◌, ◌<◌, ◌≤◌, List, [], ◌∷◌, ◌++◌, length, take}
use Rattle.circular_buffer.specs.Buffer.{Buffer}
use Rattle.tow_model.specs.declared.request.Framing.{Framing}
use Rattle.tow_model.specs.declared.content.Content.TheVariants as Contents
use Rattle.tow_model.specs.Lists.{IsPrefix}
use Rattle.tow_message.specs.Contents.{IsContent, HasContent, IsShort, IsBad}
use Rattle.tow_source.specs.declared.body.Body.{Body}
use Rattle.tow_source.specs.declared.body.Body.TheVariants.{Got, NotYet, End, Bad, TooLong}
use Rattle.tow_source.specs.declared.body.Drained.{Drained}
use Rattle.tow_source.specs.declared.body.Drained.TheVariants as Drains

-- the text that was taken from the pipe, and the content bytes that were given
pub record Reading : Type 0 where
  pub framing : Framing
  pub taken : List ℕ
  pub given : List ℕ

-- nothing is read yet
abbrev pub unread : Framing → Reading
unread framing = record { framing = framing; taken = []; given = [] }

-- whatever follows, what was given is a front of the content
abbrev pub GivesFront : Reading → Type 0
GivesFront r =
    (more rest bytes : List ℕ) → HasContent r.framing (r.taken ++ more) (Contents.Whole bytes) rest → IsPrefix r.given bytes

-- the last byte is the first with which no continuation is content
abbrev pub TurnsBad : Framing → List ℕ → Type 0
TurnsBad framing text =
    IsBad framing text × ((before : List ℕ) × (byte : ℕ) × (text ≡ before ++ byte ∷ []) × IsShort framing before)

-- the reading has come to this end
abbrev pub IsOver : Reading → Body → Type 0
IsOver r End = IsContent r.framing r.taken (Contents.Whole r.given)
IsOver r Bad = TurnsBad r.framing r.taken
IsOver r TooLong = IsContent r.framing r.taken Contents.TooLong
IsOver r NotYet = ⊥
IsOver r (Got n) = ⊥

-- a call took these bytes from the front of the pipe
pub record Takes (took : List ℕ) (piped piped' : Buffer ℕ) (old new : Reading) : Type 0 where
  pub from_pipe : piped.items ≡ took ++ piped'.items
  pub room : piped'.capacity ≡ piped.capacity
  pub taken : new.taken ≡ old.taken ++ took
  pub framing : new.framing ≡ old.framing
  pub front : GivesFront new

-- bytes are given at the front of the slice, and as many or more are taken for them
abbrev pub KeepsPace : Body → Buffer ℕ → Buffer ℕ → List ℕ → Type 0
KeepsPace (Got n) piped piped' to' = (0 < n) × (n ≤ length to') × (length piped'.items + n ≤ length piped.items)
KeepsPace NotYet piped piped' to' = Unit {0}
KeepsPace End piped piped' to' = Unit {0}
KeepsPace Bad piped piped' to' = Unit {0}
KeepsPace TooLong piped piped' to' = Unit {0}

-- what each answer says
abbrev pub Tells : Body → Buffer ℕ → List ℕ → Reading → Reading → Type 0
Tells (Got n) piped' to' old new = new.given ≡ old.given ++ take n to'
Tells NotYet piped' to' old new = (new.given ≡ old.given) × (piped'.items ≡ []) × IsShort new.framing new.taken
Tells End piped' to' old new = (new.given ≡ old.given) × IsOver new End
Tells Bad piped' to' old new = (new.given ≡ old.given) × IsOver new Bad
Tells TooLong piped' to' old new = (new.given ≡ old.given) × IsOver new TooLong

-- where the reading had come to an end, that is the answer again, and nothing is taken
abbrev pub Repeats : Body → Buffer ℕ → Buffer ℕ → Reading → Type 0
Repeats answer piped piped' old = (end : Body) → IsOver old end → (answer ≡ end) × (piped' ≡ piped)

-- one call of a source
pub record Reads (answer : Body) (piped piped' : Buffer ℕ) (to' : List ℕ) (old new : Reading) : Type 0 where
  pub took : List ℕ
  pub takes : Takes took piped piped' old new
  pub tells : Tells answer piped' to' old new
  pub repeats : Repeats answer piped piped' old

-- from each reading that the source may have before, to one that it has after
abbrev pub Onward : (Reading → Type 0) → (Reading → Type 0) → (Reading → Reading → Type 0) → Type 0
Onward before after step = (old : Reading) → before old → (new : Reading) × after new × step old new

-- a source's answer in place of that of the drain
abbrev pub answer_of : Drained → Body
answer_of Drains.Whole = End
answer_of Drains.NotYet = NotYet
answer_of Drains.Bad = Bad
answer_of Drains.TooLong = TooLong

-- what each answer of a drain says
abbrev pub DrainTells : Drained → Buffer ℕ → Reading → Type 0
DrainTells Drains.NotYet piped' new = (piped'.items ≡ []) × IsShort new.framing new.taken
DrainTells Drains.Whole piped' new = IsOver new End
DrainTells Drains.Bad piped' new = IsOver new Bad
DrainTells Drains.TooLong piped' new = IsOver new TooLong

-- one call of a drain
pub record DrainsPipe (answer : Drained) (piped piped' : Buffer ℕ) (old new : Reading) : Type 0 where
  pub took : List ℕ
  pub takes : Takes took piped piped' old new
  pub tells : DrainTells answer piped' new
  pub repeats : Repeats (answer_of answer) piped piped' old
