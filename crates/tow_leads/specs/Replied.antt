-- What a reply leads to: its pieces are what is to be put for its exchange.
use Rattle.std.specs.Prelude.{◌≡◌, ℕ, Bool, List}
use Rattle.tow_model.specs.declared.record.Record.{Record}
use Rattle.tow_semantics.specs.Sites.{file_bytes}
use Rattle.tow_exchange.specs.Exchanges.{ExchangeData}
use Rattle.tow_exchange.specs.Completions.{completion, without_listeners, without_record}
use Rattle.tow_answer.specs.Uses.{IsUsed}
use Rattle.tow_answer.specs.declared.content_use.ContentUse.{ContentUse}
use Rattle.tow_sending.specs.Pieces.{Piece, texts}
use Rattle.tow_replies.specs.Replies.{RepliesBy}
use Rattle.tow_progress.specs.Progress.{Progress}
use Rattle.tow_progress.specs.Accounts.{Tally}
use Rattle.tow_course.specs.Course.{Course}
use Rattle.tow_states.specs.Known.{Setting, HasExchange}
use Rattle.tow_states.specs.Sending.{answer_text, ending_of}
use Rattle.tow_states.specs.Completing.{answer_closes}

-- The pieces are the answer of the exchange, and it is told whether the connection ends behind it.
pub record IsReply (s : Setting) (c : Progress) (e : ExchangeData) (n : Course) (pieces : List Piece) (ends : Bool) : Type 0 where
  pub text : texts (file_bytes s.files) pieces ≡ answer_text s c e n
  pub last : ends ≡ answer_closes c e n

-- ---- law

abbrev pub RepliesLeadOn : Type 0
RepliesLeadOn =
    (s : Setting) (c : Progress) (t : Tally) (e : ExchangeData) (n : Course) (took : List ℕ) → HasExchange s c t e n took
    → (content_use : ContentUse) (x : Record) → x ≡ without_listeners e.stand.state
    → IsUsed content_use n.content (ending_of e n)
    → (pieces : List Piece) (ends : Bool) → RepliesBy content_use (without_record (completion e)) x pieces ends
    → IsReply s c e n pieces ends
