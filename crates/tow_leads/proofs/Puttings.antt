-- A call of an answer under way puts the next piece of it, or nothing.
use Rattle.std.proofs.Common.{◌≡◌, ℕ, List, [], ◌∷◌, ◌++◌, Some, refl, sym, ap, ◌∙◌, append-nil}
use Rattle.circular_buffer.specs.Buffer.{Buffer}
use Rattle.tow_semantics.specs.Files.{Files}
use Rattle.tow_semantics.specs.Sites.{file_bytes}
use Rattle.tow_exchange.specs.Exchanges.{ExchangeData}
use Rattle.tow_sending.specs.Pieces.{GainsFirst, IsTextOf, Own, Part, Piece, left_after, text_of, texts}
use Rattle.tow_sending.specs.declared.sent.Sent.TheVariants as sent
use Rattle.tow_progress.specs.Progress.{Progress, Origin}
use Rattle.tow_progress.specs.Accounts.{Tally}
use Rattle.tow_course.specs.Course.{Course}
use Rattle.tow_states.specs.Known.{Setting}
use Rattle.tow_states.specs.Sending.{IsSending}
use Rattle.tow_states.proofs.Answers.{answer_is_sent}
use Rattle.tow_leads.specs.Sent.{SendLeadsOn, SendsLeadOn}

-- where the files are told, a piece has their bytes
piece_is : (files : Files) (p : Piece) (text : List ℕ) → IsTextOf (Some files) p text → text_of (file_bytes files) p ≡ text
piece_is files (Own bytes) text is = sym is
piece_is files (Part path at len) text is = sym is.1

module _ (s : Setting) (o : Origin) (c : Progress) (t : Tally) (e : ExchangeData) (n : Course) (took : List ℕ) where
  abbrev Sends : List Piece → Type 0
  Sends pieces = IsSending s o c t e n took (texts (file_bytes s.files) pieces)

  -- nothing was put
  none_put : (pieces : List Piece) → Sends pieces → (pipe pipe' : Buffer ℕ) → pipe.items ≡ c.piped_out → pipe' ≡ pipe
      → SendLeadsOn s o c t e n took pieces pipe'
  none_put pieces is pipe pipe' same stays = record {
    piece = [];
    piped = ap (λ (b : Buffer ℕ). b.items) stays ∙ same ∙ sym (append-nil c.piped_out);
    is = (answer_is_sent s o c t e n took (texts (file_bytes s.files) pieces) is).puts [] (texts (file_bytes s.files) pieces) refl;
  }

  first_put : (pieces : List Piece) → Sends pieces → (pipe pipe' : Buffer ℕ) → pipe.items ≡ c.piped_out
      → GainsFirst (Some s.files) pieces pipe pipe' → SendLeadsOn s o c t e n took (left_after sent.Piece pieces) pipe'
  first_put [] is pipe pipe' same stays = none_put [] is pipe pipe' same stays
  first_put (p ∷ rest) is pipe pipe' same (text, gains, put) = record {
    piece = text;
    piped = ap (λ (b : Buffer ℕ). b.items) put ∙ ap (λ (l : List ℕ). l ++ text) same;
    is = (answer_is_sent s o c t e n took (texts (file_bytes s.files) (p ∷ rest)) is).puts text (texts (file_bytes s.files) rest)
        (ap (λ (l : List ℕ). l ++ texts (file_bytes s.files) rest) (piece_is s.files p text gains));
  }

pub sends_lead_on : SendsLeadOn
sends_lead_on s o c t e n took pieces is sent.Piece pipe pipe' same puts = first_put s o c t e n took pieces is pipe pipe' same puts
sends_lead_on s o c t e n took pieces is sent.Whole pipe pipe' same puts = first_put s o c t e n took pieces is pipe pipe' same puts
sends_lead_on s o c t e n took pieces is sent.NeedWorker pipe pipe' same puts = none_put s o c t e n took pieces is pipe pipe' same puts
sends_lead_on s o c t e n took pieces is sent.Full pipe pipe' same puts = none_put s o c t e n took pieces is pipe pipe' same puts
sends_lead_on s o c t e n took pieces is sent.FolderFault pipe pipe' same puts = none_put s o c t e n took pieces is pipe pipe' same puts
