-- A fault, or want of memory: what stands then, and which listeners are to run.
use Rattle.std.specs.Prelude.{◌≡◌, ◌≢◌, ℕ, List, None}
use Rattle.tow_model.specs.declared.request.Field.{Field}
use Rattle.tow_exchange.specs.Exchanges.{ExchangeData, with_fields}
use Rattle.tow_exchange.specs.declared.phase.Phase.TheVariants.{Stopped}
use Rattle.tow_program.specs.Programs.{program_of}
use Rattle.tow_advance.specs.Moves.{AddsLogs, IsUnchosen}
use Rattle.tow_advance.specs.Needs.{IsUnderWay}
use Rattle.tow_closing.specs.Closings.{ClosingData}
use Rattle.tow_progress.specs.Progress.{Progress, Origin}
use Rattle.tow_progress.specs.Accounts.{Tally}
use Rattle.tow_progress.specs.Cuts.{between}
use Rattle.tow_course.specs.Course.{Course}
use Rattle.tow_states.specs.Known.{Setting}
use Rattle.tow_states.specs.Reading.{IsReading, IsRefusing}
use Rattle.tow_states.specs.Walking.{IsWalking}
use Rattle.tow_states.specs.Gathering.{IsGathering}
use Rattle.tow_states.specs.Sending.{IsSending}
use Rattle.tow_states.specs.Closing.{IsClosing, IsWorkOf, cut_off}
use Rattle.tow_states.specs.Ending.{IsCutOff}

-- as a call of `advance` leaves an exchange if it finds no memory
pub record HaltsIn (s : Setting) (old new : ExchangeData) : Type 0 where
  pub under_way : IsUnderWay (program_of s.tree) old new
  pub live : new.phase ≢ Stopped
  pub adds : AddsLogs old.stand.state.listeners new.stand.state.listeners
  pub unchosen : IsUnchosen old → IsUnchosen new
  pub connection : new.connection ≡ old.connection
  pub number : new.number ≡ old.number
  pub request : new.request ≡ old.request
  pub moment : new.moment ≡ old.moment

-- A connection may be cut in each state. The listeners of an exchange that is open are to run then.
pub record BreaksOff (s : Setting) (o : Origin) (c : Progress) (t : Tally) : Type 0 where
  pub reading : IsReading s o c t → IsCutOff s o c t between
  pub refusing : (status : ℕ) (to_put : List ℕ) → IsRefusing s o c t status to_put → IsCutOff s o c t between
  -- on its walk, before it has stopped
  pub walking : (e : ExchangeData) (n : Course) → IsWalking s o c t e n → e.phase ≢ Stopped
      → (d : ClosingData) → IsWorkOf s.tree e d → IsClosing s o c t e n d None (cut_off None)
  -- on its walk, where `advance` found no memory
  pub halted : (e new : ExchangeData) (n : Course) → IsWalking s o c t e n → HaltsIn s e new
      → (d : ClosingData) → IsWorkOf s.tree new d → IsClosing s o c t new n d None (cut_off None)
  -- on its walk, where there was no memory for the fields of a page
  pub no_page : (e : ExchangeData) (n : Course) (fields : List Field) → IsWalking s o c t e n → e.phase ≢ Stopped
      → (d : ClosingData) → IsWorkOf s.tree (with_fields fields e) d
      → IsClosing s o c t (with_fields fields e) n d None (cut_off None)
  pub gathering : (e : ExchangeData) (n : Course) (took : List ℕ) → IsGathering s o c t e n took
      → (d : ClosingData) → IsWorkOf s.tree e d → IsClosing s o c t e n d None (cut_off None)
  pub sending : (e : ExchangeData) (n : Course) (took to_put : List ℕ) → IsSending s o c t e n took to_put
      → (d : ClosingData) → IsWorkOf s.tree e d → IsClosing s o c t e n d None (cut_off n.content)

abbrev pub StatesBreak : Type 0
StatesBreak = (s : Setting) (o : Origin) (c : Progress) (t : Tally) → BreaksOff s o c t
