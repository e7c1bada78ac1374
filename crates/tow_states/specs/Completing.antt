-- All of an answer was put: the exchange completes.
use Rattle.std.specs.Prelude.{◌≡◌, ℕ, Bool, true, false, List, [], Some, None}
use Rattle.tow_model.specs.declared.content.Content.{Content}
use Rattle.tow_model.specs.declared.content.Content.TheVariants.{Whole}
use Rattle.tow_message.specs.Contents.{IsShort}
use Rattle.tow_message.specs.Stream.{IsWhole}
use Rattle.tow_wire.specs.Answers.{closes}
use Rattle.tow_exchange.specs.Exchanges.{ExchangeData}
use Rattle.tow_closing.specs.Closings.{ClosingData}
use Rattle.tow_progress.specs.Progress.{Progress, Origin}
use Rattle.tow_progress.specs.Accounts.{Tally}
use Rattle.tow_course.specs.Course.{Course, Agrees}
use Rattle.tow_states.specs.Known.{Setting, Shows}
use Rattle.tow_states.specs.Gathering.{IsGathering}
use Rattle.tow_states.specs.Sending.{IsSending, ending_of}
use Rattle.tow_states.specs.Closing.{IsClosing, IsWorkOf, to_end, to_last, to_next}

-- whether its answer is the last of the connection
abbrev pub answer_closes : Progress → ExchangeData → Course → Bool
answer_closes c e n = closes e.request c.request n.content (ending_of e n)

-- the link has brought all that it has, and the pipe of input is empty
pub record IsDry (c : Progress) : Type 0 where
  pub piped : c.piped_in ≡ []
  pub left : c.left ≡ []

-- How an exchange completes of whose answer all was put.
pub record SendingCompletes (s : Setting) (o : Origin) (c : Progress) (t : Tally) (e : ExchangeData) (n : Course)
    (took : List ℕ) (d : ClosingData) : Type 0 where
  -- its answer lets the next request be read, and its content was taken whole, by it or past it
  pub goes_on : answer_closes c e n ≡ false → (bytes : List ℕ) → Shows e.request.framing took (Some (Whole bytes))
      → Agrees n.content (Some (Whole bytes)) → IsClosing s o c t e n d None (to_next bytes)
  -- its answer closes, and it was given no content
  pub closes_early : answer_closes c e n ≡ true → n.content ≡ None → IsClosing s o c t e n d None to_end
  -- its answer closes after the content that it was given
  pub closes_late : answer_closes c e n ≡ true → (content : Content) → n.content ≡ Some content
      → IsClosing s o c t e n d None (to_last (Some content))
  -- the content that was dropped is bad or too long
  pub drops_refused : n.content ≡ None → (content : Content) → Shows e.request.framing took (Some content)
      → ¬ (IsWhole (Some content)) → IsClosing s o c t e n d None (to_last (Some content))
  -- the input ends before the content that was dropped
  pub drops_short : n.content ≡ None → IsDry c → IsShort e.request.framing took
      → IsClosing s o c t e n d None (to_last None)

-- ---- laws

abbrev pub ExchangeCompletes : Type 0
ExchangeCompletes =
    (s : Setting) (o : Origin) (c : Progress) (t : Tally) (e : ExchangeData) (n : Course) (took : List ℕ)
    → IsSending s o c t e n took [] → (d : ClosingData) → IsWorkOf s.tree e d → SendingCompletes s o c t e n took d

-- the input ends before the content that an exchange waits for, which stays undecided
abbrev pub ContentIsShort : Type 0
ContentIsShort =
    (s : Setting) (o : Origin) (c : Progress) (t : Tally) (e : ExchangeData) (n : Course) (took : List ℕ)
    → IsGathering s o c t e n took → IsDry c → IsShort e.request.framing took
    → (d : ClosingData) → IsWorkOf s.tree e d → IsClosing s o c t e n d None (to_last None)
