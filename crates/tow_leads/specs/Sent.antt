-- What a call of an answer under way leads to: the next piece was put, or nothing.
use Rattle.std.specs.Prelude.{◌≡◌, ℕ, List, ◌++◌, Some}
use Rattle.circular_buffer.specs.Buffer.{Buffer}
use Rattle.tow_semantics.specs.Sites.{file_bytes}
use Rattle.tow_exchange.specs.Exchanges.{ExchangeData}
use Rattle.tow_sending.specs.Pieces.{Piece, Puts, left_after, texts}
use Rattle.tow_sending.specs.declared.sent.Sent.{Sent}
use Rattle.tow_progress.specs.Progress.{Progress, Origin}
use Rattle.tow_progress.specs.Steps.{with_piece}
use Rattle.tow_progress.specs.Accounts.{Tally}
use Rattle.tow_course.specs.Course.{Course}
use Rattle.tow_states.specs.Known.{Setting}
use Rattle.tow_states.specs.Sending.{IsSending}

-- These bytes were put, and the other pieces are left.
pub record SendLeadsOn (s : Setting) (o : Origin) (c : Progress) (t : Tally) (e : ExchangeData) (n : Course) (took : List ℕ)
    (pieces : List Piece) (pipe : Buffer ℕ) : Type 0 where
  pub piece : List ℕ
  pub piped : pipe.items ≡ c.piped_out ++ piece
  pub is : IsSending s o (with_piece piece c) t e n took (texts (file_bytes s.files) pieces)

-- ---- law

abbrev pub SendsLeadOn : Type 0
SendsLeadOn =
    (s : Setting) (o : Origin) (c : Progress) (t : Tally) (e : ExchangeData) (n : Course) (took : List ℕ) (pieces : List Piece)
    → IsSending s o c t e n took (texts (file_bytes s.files) pieces)
    → (tells : Sent) (pipe pipe' : Buffer ℕ) → pipe.items ≡ c.piped_out → Puts (Some s.files) tells pieces pipe pipe'
    → SendLeadsOn s o c t e n took (left_after tells pieces) pipe'
