-- An answer begins, is put piece by piece, and ends; and a content that nobody asked for is dropped behind it.
use Rattle.std.specs.Prelude.{◌≡◌, ◌≢◌, ◌⊎◌, ℕ, Bool, true, false, List, [], Option, Some, None}
use Rattle.circular_buffer.specs.Buffer.{Buffer}
use Rattle.tow_model.specs.declared.account.End.{End}
use Rattle.tow_model.specs.declared.account.End.TheVariants.{Done, NoMemory}
use Rattle.tow_exchange.specs.Exchanges.{ExchangeData}
use Rattle.tow_exchange.specs.Completions.{completion, without_listeners, without_record}
use Rattle.tow_answer.specs.declared.content_use.ContentUse.{ContentUse}
use Rattle.tow_answer.specs.declared.content_use.ContentUse.TheVariants.{Unasked, Served, Refused}
use Rattle.tow_replies.specs.Replies.{RepliesBy}
use Rattle.tow_source.specs.Readings.{DrainsPipe, Onward, unread}
use Rattle.tow_source.specs.declared.body.Drained.{Drained}
use Rattle.tow_source.specs.declared.body.Drained.TheVariants as drains
use Rattle.tow_source.specs.declared.drain.Drain.{Drain}
use Rattle.tow_content.specs.declared.source.ContentSource.{ContentSource}
use Rattle.tow_content.specs.Sources.{ReadsContent}
use Rattle.tow_closing.specs.Closings.{ClosingData}
use Rattle.tow_sending.specs.Pieces.{HasParts, Piece, Puts, left_after}
use Rattle.tow_sending.specs.declared.sent.Sent.{Sent}
use Rattle.tow_progress.specs.Progress.{Progress, Origin}
use Rattle.tow_progress.specs.Steps.{taken, with_piece}
use Rattle.tow_progress.specs.Accounts.{Tally}
use Rattle.tow_states.specs.Known.{Setting}
use Rattle.tow_states.specs.Closing.{IsWorkOf}
use Rattle.tow_stages.specs.Stages.{Base, answering, closing}
use Rattle.tow_stages.specs.Holding.{Holds}

-- ---- its beginning

-- Behind the answer a content is dropped that was not asked for, unless the connection ends there.
abbrev pub IsDrainFor : ContentUse → ExchangeData → Bool → Option (Drain ContentSource) → Type 0
IsDrainFor Unasked e true drain = drain ≡ None
IsDrainFor Unasked e false None = ⊥
IsDrainFor Unasked e false (Some drain) = ReadsContent drain.source (unread e.request.framing)
IsDrainFor Served e closes drain = drain ≡ None
IsDrainFor Refused e closes drain = drain ≡ None

-- The answer of an exchange that has stopped is made, by its closing work and its record.
pub record AnswerBegins (failed : Bool) (s : Setting) (o : Origin) (b : Base) (e : ExchangeData) (content_use : ContentUse)
    (c : Progress) (t : Tally) : Type 0 where
  pub replies : (d : ClosingData) → IsWorkOf s.tree e d
      → (pieces : List Piece) (closes : Bool)
      → RepliesBy content_use (without_record (completion e)) (without_listeners e.stand.state) pieces closes
      → HasParts s.files pieces
      → (drain : Option (Drain ContentSource)) → IsDrainFor content_use e closes drain
      → Holds failed s o b (answering d pieces closes drain) c t
  -- there was no memory for it
  pub is_short : (d : ClosingData) → IsWorkOf s.tree e d → Holds failed s o b (closing d None (Some NoMemory)) c t

-- ---- its pieces, and what follows it

-- a piece was put, or none
pub record PutLeadsOn (failed : Bool) (s : Setting) (o : Origin) (b : Base) (d : ClosingData) (pieces : List Piece) (closes : Bool)
    (drain : Option (Drain ContentSource)) (pipe : Buffer ℕ) (c : Progress) (t : Tally) : Type 0 where
  pub piece : List ℕ
  pub holds : Holds failed s o (record b { port = record b.port { output = pipe } }) (answering d pieces closes drain) (with_piece piece c) t

-- a content that was not asked for was taken, as far as it came
pub record DropLeadsOn (failed : Bool) (s : Setting) (o : Origin) (b : Base) (d : ClosingData) (closes : Bool) (answer : Drained)
    (drain : Drain ContentSource) (pipe : Buffer ℕ) (c : Progress) (t : Tally) : Type 0 where
  pub took : List ℕ
  -- it goes on
  pub goes_on : answer ≡ drains.NotYet
      → Holds failed s o (record b { port = record b.port { input = pipe } }) (answering d [] closes (Some drain)) (taken took pipe.items c) t
  -- it goes on, but nothing more comes
  pub is_short : answer ≡ drains.NotYet → b.port.ended ≡ true → b.port.output.items ≡ []
      → Holds failed s o (record b { port = record b.port { input = pipe } }) (closing d None (Some Done)) (taken took pipe.items c) t
  -- it came whole
  pub is_whole : answer ≡ drains.Whole
      → Holds failed s o (record b { port = record b.port { input = pipe } }) (closing d None None) (taken took pipe.items c) t
  -- it is bad, or too long
  pub is_refused : (answer ≡ drains.Bad) ⊎ (answer ≡ drains.TooLong) → b.port.output.items ≡ []
      → Holds failed s o (record b { port = record b.port { input = pipe } }) (closing d None (Some Done)) (taken took pipe.items c) t

-- What follows while an answer is put.
pub record AnsweringLeadsOn (failed : Bool) (s : Setting) (o : Origin) (b : Base) (d : ClosingData) (pieces : List Piece) (closes : Bool)
    (drain : Option (Drain ContentSource)) (c : Progress) (t : Tally) : Type 0 where
  pub puts : (tells : Sent) (pipe : Buffer ℕ) → Puts (Some s.files) tells pieces b.port.output pipe
      → PutLeadsOn failed s o b d (left_after tells pieces) closes drain pipe c t
  -- all was put and written, and nothing is dropped: the next request is read, or the connection ends
  pub completes : pieces ≡ [] → drain ≡ None → closes ≡ false → Holds failed s o b (closing d None None) c t
  pub ends : pieces ≡ [] → drain ≡ None → closes ≡ true → b.port.output.items ≡ []
      → Holds failed s o b (closing d None (Some Done)) c t
  -- all was put, and its content is dropped
  pub drops : pieces ≡ [] → (old new : Drain ContentSource) → drain ≡ Some old → (answer : Drained) (pipe : Buffer ℕ)
      → Onward (ReadsContent old.source) (ReadsContent new.source) (DrainsPipe answer b.port.input pipe)
      → DropLeadsOn failed s o b d closes answer new pipe c t
  pub is_cut : (end : End) → end ≢ Done → Holds failed s o b (closing d None (Some end)) c t

-- ---- law

abbrev pub AnsweringsLeadOn : Type 0
AnsweringsLeadOn =
    (failed : Bool) (s : Setting) (o : Origin) (b : Base) (d : ClosingData) (pieces : List Piece) (closes : Bool)
    (drain : Option (Drain ContentSource)) (c : Progress) (t : Tally) → Holds failed s o b (answering d pieces closes drain) c t
    → AnsweringLeadsOn failed s o b d pieces closes drain c t
