-- What a look at the front of an input answers.
use Rattle.std.specs.Prelude.{◌≡◌, ℕ, ◌<◌, ◌≤◌, ◌⊎◌, Bool, List, length, take, IsTrue, IsFalse}
use Rattle.httparse.specs.Grammar.{MayBecomeRequest, NeverHasRequest}
use Rattle.httparse.specs.Spans.{RequestExceeds}
use Rattle.tow_model.specs.declared.limits.TheConstants.{MAX_HEAD_FIELDS, MAX_HEAD_LEN}
use Rattle.tow_model.specs.declared.request.Request.{Request}
use Rattle.tow_message.specs.Heads.{Head as IsHead, HasNoHead, IsRefusedBy, refusal}
use Rattle.tow_message.specs.Stream.{IsBlank, IsNoRequest}
use Rattle.tow_request.specs.declared.NextHead.{NextHead}
use Rattle.tow_request.specs.declared.NextHead.TheVariants.{Head, Partial, Nothing, Refuse, NoMemory}

-- the bytes may go on to a head: they are blank, or httparse gave partial or too many headers
abbrev pub MayGoOn : List ℕ → Type 0
MayGoOn bytes = IsBlank bytes ⊎ (MayBecomeRequest bytes ⊎ RequestExceeds MAX_HEAD_FIELDS bytes)

-- no head will come: the input ended, the room is full, or httparse gave another error
abbrev pub IsHopeless : List ℕ → Bool → Type 0
IsHopeless bytes ended = IsTrue ended ⊎ ((length bytes ≡ MAX_HEAD_LEN) ⊎ NeverHasRequest bytes)

-- what each answer says of the bytes
abbrev pub Tells : List ℕ → Bool → ℕ → NextHead → Type 0
Tells bytes ended peer (Head q used) = (used ≤ length bytes) × IsHead (take used bytes) peer q
Tells bytes ended peer Partial = IsFalse ended × (length bytes < MAX_HEAD_LEN) × HasNoHead bytes × MayGoOn bytes
Tells bytes ended peer Nothing = IsTrue ended × IsBlank bytes
Tells bytes ended peer (Refuse status) =
    IsRefusedBy refusal bytes status ⊎ ((status ≡ 400) × IsNoRequest bytes × IsHopeless bytes ended)
Tells bytes ended peer NoMemory = Unit {0}

-- where a front of the bytes is a head that is served, it is the answer
abbrev pub FindsHead : List ℕ → ℕ → NextHead → Type 0
FindsHead bytes peer answer =
    (q : Request) (used : ℕ) → used ≤ length bytes → IsHead (take used bytes) peer q → (answer ≡ Head q used) ⊎ (answer ≡ NoMemory)
