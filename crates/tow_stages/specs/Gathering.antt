-- A client is told to send its content, and the content is gathered.
use Rattle.std.specs.Prelude.{◌≡◌, ◌≢◌, ℕ, Bool, true, false, List, [], Some, None}
use Rattle.circular_buffer.specs.Buffer.{Buffer}
use Rattle.tow_model.specs.declared.account.End.{End}
use Rattle.tow_model.specs.declared.account.End.TheVariants.{Done}
use Rattle.tow_model.specs.declared.content.Content.{Content as Contents}
use Rattle.tow_model.specs.declared.content.Content.TheVariants as contents
use Rattle.tow_wire.specs.Answers.{continue_text}
use Rattle.tow_exchange.specs.Exchanges.{ExchangeData, content_given}
use Rattle.tow_answer.specs.declared.content_use.ContentUse.{ContentUse}
use Rattle.tow_answer.specs.declared.content_use.ContentUse.TheVariants.{Served, Refused}
use Rattle.tow_source.specs.Readings.{Onward}
use Rattle.tow_content.specs.Gatherings.{Gathers, GathersPipe, StandsFor}
use Rattle.tow_content.specs.declared.gathering.Gathering.{Gathering}
use Rattle.tow_content.specs.declared.gathering.Gathered.{Gathered}
use Rattle.tow_content.specs.declared.gathering.Gathered.TheVariants as gathered
use Rattle.tow_closing.specs.Closings.{ClosingData}
use Rattle.tow_progress.specs.Progress.{Progress, Origin}
use Rattle.tow_progress.specs.Steps.{taken, with_piece}
use Rattle.tow_progress.specs.Accounts.{Tally}
use Rattle.tow_states.specs.Known.{Setting}
use Rattle.tow_states.specs.Closing.{IsWorkOf}
use Rattle.tow_leads.specs.Ports.{as_put}
use Rattle.tow_stages.specs.Stages.{Base, closing, gathering}
use Rattle.tow_stages.specs.Holding.{Holds}
use Rattle.tow_stages.specs.Moving.{over}
use Rattle.tow_stages.specs.Answering.{AnswerBegins}

-- what became of the content
abbrev pub use_of : Contents → ContentUse
use_of (contents.Whole bytes) = Served
use_of contents.Bad = Refused
use_of contents.TooLong = Refused

-- with another pipe of input
abbrev pub fed_by : Buffer ℕ → Base → Base
fed_by pipe b = record b { port = record b.port { input = pipe } }

-- Content was taken, as far as it came.
pub record GatherLeadsOn (failed : Bool) (s : Setting) (o : Origin) (b : Base) (e : ExchangeData) (answer : Gathered)
    (g : Gathering) (pipe : Buffer ℕ) (c : Progress) (t : Tally) : Type 0 where
  pub took : List ℕ
  -- it goes on
  pub goes_on : answer ≡ gathered.NotYet → Holds failed s o (fed_by pipe b) (gathering e g false) (taken took pipe.items c) t
  -- it goes on, but nothing more comes
  pub is_short : answer ≡ gathered.NotYet → b.port.ended ≡ true → b.port.output.items ≡ [] → (d : ClosingData) → IsWorkOf s.tree e d
      → Holds failed s o (fed_by pipe b) (closing d None (Some Done)) (taken took pipe.items c) t
  -- it came
  pub came : (content : Contents) → answer ≡ gathered.Content content
      → AnswerBegins failed s o (fed_by pipe b) (content_given content e) (use_of content) (taken took pipe.items c) t
  -- the memory was short, or the connection is cut
  pub is_cut : (end : End) → end ≢ Done → (d : ClosingData) → IsWorkOf s.tree e d
      → Holds failed s o (fed_by pipe b) (closing d None (Some end)) (taken took pipe.items c) t

-- What follows while an exchange waits for its content.
pub record GatheringLeadsOn (failed : Bool) (s : Setting) (o : Origin) (b : Base) (e : ExchangeData) (g : Gathering) (to_tell : Bool)
    (c : Progress) (t : Tally) : Type 0 where
  -- `100 Continue` was put
  pub tells : to_tell ≡ true
      → Holds failed s o (over (as_put continue_text b.port) b) (gathering e g false) (with_piece continue_text c) t
  pub takes : to_tell ≡ false → (answer : Gathered) (new : Gathering) (pipe : Buffer ℕ)
      → Onward (Gathers g) (StandsFor answer new) (GathersPipe answer b.port.input pipe)
      → GatherLeadsOn failed s o b e answer new pipe c t
  pub is_cut : (end : End) → end ≢ Done → (d : ClosingData) → IsWorkOf s.tree e d
      → Holds failed s o b (closing d None (Some end)) c t

-- ---- law

abbrev pub GatheringsLeadOn : Type 0
GatheringsLeadOn =
    (failed : Bool) (s : Setting) (o : Origin) (b : Base) (e : ExchangeData) (g : Gathering) (to_tell : Bool) (c : Progress)
    (t : Tally) → Holds failed s o b (gathering e g to_tell) c t → GatheringLeadsOn failed s o b e g to_tell c t
