-- What turns of a connection read and write, where its input, its output and its clock tell.
use Rattle.std.specs.Prelude.{◌≡◌, ℕ, ◌+◌, ◌-◌, ◌*◌, ◌<◌, ◌≤◌, List, [], ◌++◌, length, if◌then◌else◌, Option, Some, None, IfSome, IsTrue}
use Rattle.std.specs.Io.KnownBytes.{append_known}
use Rattle.tow_link.specs.Data.{Told}
use Rattle.tow_link.specs.Calls.{IsDrained}
use Rattle.tow_link.specs.Runs.{AppendsPart}
use Rattle.tow_model.specs.declared.statement.Statement.{Statement}
use Rattle.tow_message.specs.Stream.{Stream, ReadsStream}
use Rattle.tow_semantics.specs.Sites.{run_of}
use Rattle.tow_wire.specs.Wire.{wire, wire_from}
use Rattle.tow_heads.specs.declared.requests.NextRequest.{NextRequest}
use Rattle.tow_heads.specs.NextRequests.{GoesOnWith}
use Rattle.tow_conn.specs.declared.progress.Progress.{Progress}
use Rattle.tow_model.specs.declared.limits.TheConstants.{LOCAL_PEER}
use Rattle.tow_conn.specs.Conversations.{Leads}

-- where a clock tells, the second of each request of each connection
abbrev pub Moments : Type 0
Moments = Option (ℕ → ℕ → ℕ)

-- the bytes that are not answered yet: those that were read, and those that the source has left
abbrev pub open_bytes : Progress → Told → List ℕ
open_bytes progress told = progress.inbox ++ told.left

-- a fact on what a source told before and what it tells now; one that tells goes on to tell
abbrev pub BothTell : Option Told → Option Told → (Told → Told → Type 0) → Type 0
BothTell None None fact = Unit {0}
BothTell None (Some now) fact = ⊥
BothTell (Some before) None fact = ⊥
BothTell (Some before) (Some now) fact = fact before now

-- the bytes written lead from what stood open to what stands open
abbrev pub LeadsOn : List Statement → Moments → Progress → Progress → Option Told → Option Told → List ℕ → Type 0
LeadsOn tree table old new before now written =
    BothTell before now (λ t u. IfSome table (λ moments.
    Leads (run_of tree [] moments) old.number (open_bytes old t) written new.number (open_bytes new u)))

-- some turns: what they wrote leads on
pub record GoesOn (tree : List Statement) (table : Moments) (old new : Progress) (before now : Option Told) (output output' : Option (List ℕ)) : Type 0 where
  pub written : List ℕ
  pub appended : output' ≡ append_known output written
  pub leads : LeadsOn tree table old new before now written

-- at the end of the input nothing is left
abbrev pub EndIsTold : Progress → Option Told → Type 0
EndIsTold progress told = IsTrue progress.ended → IsDrained told

-- whatever the input has left, it goes on with this; once it has ended, it has nothing left
abbrev pub IsNext : Progress → NextRequest → Type 0
IsNext progress answer =
    (left : List ℕ) → (IsTrue progress.ended → left ≡ []) → GoesOnWith LOCAL_PEER progress.inbox left answer

-- the output gained all that the open bytes ask for
abbrev pub WritesRest : List Statement → Moments → Progress → Option Told → Option (List ℕ) → Option (List ℕ) → Type 0
WritesRest tree table progress told output output' =
    IfSome told (λ t. IfSome table (λ moments. (stream : Stream) → ReadsStream LOCAL_PEER (open_bytes progress t) stream →
    output' ≡ append_known output (wire_from (run_of tree [] moments) 0 progress.number stream [])))

-- the output gained a front of that
abbrev pub WritesFront : List Statement → Moments → Progress → Option Told → Option (List ℕ) → Option (List ℕ) → Type 0
WritesFront tree table progress told output output' =
    IfSome told (λ t. IfSome table (λ moments. (stream : Stream) → ReadsStream LOCAL_PEER (open_bytes progress t) stream →
    AppendsPart output output' (wire_from (run_of tree [] moments) 0 progress.number stream [])))

-- Where the input and the clock tell: however the input is read, the output gained the whole wire of connection 0.
abbrev pub WritesWire : List Statement → Moments → Option Told → Option (List ℕ) → Option (List ℕ) → Type 0
WritesWire tree table told output output' =
    IfSome told (λ t. IfSome table (λ moments. (stream : Stream) → ReadsStream LOCAL_PEER t.left stream →
    output' ≡ append_known output (wire (run_of tree [] moments) 0 stream [])))

-- The same of a front of the wire.
abbrev pub WritesPart : List Statement → Moments → Option Told → Option (List ℕ) → Option (List ℕ) → Type 0
WritesPart tree table told output output' =
    IfSome told (λ t. IfSome table (λ moments. (stream : Stream) → ReadsStream LOCAL_PEER t.left stream →
    AppendsPart output output' (wire (run_of tree [] moments) 0 stream [])))

-- how much of the inbox is empty, and whether the end of the input is still to be found
abbrev pub still : Progress → ℕ
still progress = (65536 - length progress.inbox) + (if progress.ended then 0 else 1)

-- what is left to do, counted: no turn leaves as much
abbrev pub left_to_do : Progress → ℕ
left_to_do progress = (1000 - progress.number) * 65538 + still progress

-- a turn comes nearer to the end: it answered a request, or more bytes are there, or the end of the input was found
abbrev pub GetsOn : Progress → Progress → Type 0
GetsOn old new = (new.number ≤ 1000) × (left_to_do new < left_to_do old)
