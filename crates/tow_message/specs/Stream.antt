-- What the input of a connection is read as: requests with their contents, one after the other, and how it ends.
use Rattle.std.specs.Prelude.{◌≡◌, ℕ, ◌<◌, ◌⊎◌, ◌||◌, ◌==◌, List, length, Option, Some, None, All, IsTrue}
use Rattle.httparse.specs.Grammar.{RequestHead}
use Rattle.tow_model.specs.declared.request.Request.{Request}
use Rattle.tow_model.specs.declared.content.Content.{Content}
use Rattle.tow_model.specs.declared.content.Content.TheVariants.{Whole, Bad, TooLong}
use Rattle.tow_model.specs.declared.limits.TheConstants.{MAX_HEAD_LEN}
use Rattle.tow_message.specs.Heads.{HasHead, HasNoHead, line_feed, carriage_return, IsRefusedBy, connection_refusal, request_of}
use Rattle.tow_message.specs.Contents.{HasContent, Gives}

-- nothing more is asked; a head is refused with a status, or there is none; the last request, whose content is not whole;
-- a request, its whole content, and what follows it
pub data Stream : Type 0 where
  nothing : Stream
  refused : ℕ → Stream
  last : Request → Option Content → Stream
  next : Request → List ℕ → Stream → Stream

-- CR and LF alone, in fewer bytes than a head may have
pub record IsBlank (input : List ℕ) : Type 0 where
  pub bytes : All (λ b. IsTrue (b == carriage_return || b == line_feed)) input
  pub few : length input < MAX_HEAD_LEN

-- the input begins with no head, and is not blank
pub record IsNoRequest (input : List ℕ) : Type 0 where
  pub no_head : HasNoHead input
  pub not_blank : ¬ (IsBlank input)

-- the input begins with a head that the connection refuses with this status
abbrev pub IsRefused : List ℕ → ℕ → Type 0
IsRefused input status = IsRefusedBy connection_refusal input status

-- the input begins with the head of the request q, and rest follows
pub record HasRequest (peer : ℕ) (input : List ℕ) (q : Request) (rest : List ℕ) : Type 0 where
  pub head : RequestHead
  pub reads : HasHead input head rest
  pub served : connection_refusal head ≡ None
  pub request : request_of peer head ≡ q

abbrev pub IsWhole : Option Content → Type 0
IsWhole None = ⊥
IsWhole (Some Bad) = ⊥
IsWhole (Some TooLong) = ⊥
IsWhole (Some (Whole bytes)) = Unit {0}

-- The input of this peer is read as the stream.
abbrev pub ReadsStream : ℕ → List ℕ → Stream → Type 0
ReadsStream peer input nothing = IsBlank input
ReadsStream peer input (refused status) = IsRefused input status ⊎ (IsNoRequest input × (status ≡ 400))
ReadsStream peer input (last q content) =
    (rest : List ℕ) × HasRequest peer input q rest × Gives q.framing rest content × ¬ (IsWhole content)
ReadsStream peer input (next q bytes stream) =
    (rest : List ℕ) × (after : List ℕ)
    × HasRequest peer input q rest × HasContent q.framing rest (Whole bytes) after × ReadsStream peer after stream

-- an input is read as one stream at most
abbrev pub StreamIsOne : ℕ → List ℕ → Type 0
StreamIsOne peer input = (s t : Stream) → ReadsStream peer input s → ReadsStream peer input t → s ≡ t

-- there is no input that is read as no stream
abbrev pub StreamIsThere : ℕ → List ℕ → Type 0
StreamIsThere peer input = ¬ ((s : Stream) → ¬ (ReadsStream peer input s))
