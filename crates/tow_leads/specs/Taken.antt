-- What a call of a gathering or of a drain leads to: so much of the content was taken.
use Rattle.std.specs.Prelude.{◌≡◌, ℕ, List, [], Some, None}
use Rattle.circular_buffer.specs.Buffer.{Buffer}
use Rattle.tow_model.specs.declared.request.Framing.{Framing}
use Rattle.tow_model.specs.declared.content.Content.TheVariants as contents
use Rattle.tow_message.specs.Contents.{IsShort}
use Rattle.tow_exchange.specs.Exchanges.{ExchangeData}
use Rattle.tow_source.specs.Readings.{Reading, DrainsPipe}
use Rattle.tow_source.specs.declared.body.Drained.{Drained}
use Rattle.tow_source.specs.declared.body.Drained.TheVariants as drains
use Rattle.tow_content.specs.Gatherings.{GathersPipe}
use Rattle.tow_content.specs.declared.gathering.Gathered.{Gathered}
use Rattle.tow_content.specs.declared.gathering.Gathered.TheVariants.{Content, NotYet, NoMemory}
use Rattle.tow_progress.specs.Progress.{Progress, Origin}
use Rattle.tow_progress.specs.Steps.{taken}
use Rattle.tow_progress.specs.Accounts.{Tally}
use Rattle.tow_course.specs.Course.{Course}
use Rattle.tow_states.specs.Known.{Setting, Shows}
use Rattle.tow_states.specs.Gathering.{IsGathering}
use Rattle.tow_states.specs.Sending.{IsSending}

-- all that stood in the pipe was taken, and the content goes on
abbrev pub GoesOn : Framing → List ℕ → List ℕ → Type 0
GoesOn framing took piped = (piped ≡ []) × IsShort framing took

-- what a gathering says of what was taken
abbrev pub GatheredIs : Gathered → Framing → List ℕ → List ℕ → Type 0
GatheredIs (Content content) framing took piped = Shows framing took (Some content)
GatheredIs NotYet framing took piped = GoesOn framing took piped
GatheredIs NoMemory framing took piped = Unit {0}

-- what a drain says of what was taken, of which the source gave these bytes
abbrev pub DrainedIs : Drained → Framing → List ℕ → List ℕ → List ℕ → Type 0
DrainedIs drains.Whole framing took given piped = Shows framing took (Some (contents.Whole given))
DrainedIs drains.Bad framing took given piped = Shows framing took (Some contents.Bad)
DrainedIs drains.TooLong framing took given piped = Shows framing took (Some contents.TooLong)
DrainedIs drains.NotYet framing took given piped = GoesOn framing took piped

-- The gathering of an exchange that waits for its content was called.
pub record GatherLeadsOn (s : Setting) (o : Origin) (c : Progress) (t : Tally) (e : ExchangeData) (n : Course) (answer : Gathered)
    (piped : Buffer ℕ) (r : Reading) (took : List ℕ) : Type 0 where
  pub is : IsGathering s o (taken took piped.items c) t e n r.taken
  pub framing : r.framing ≡ e.request.framing
  pub tells : GatheredIs answer e.request.framing r.taken piped.items

-- The drain of a content that was not asked for was called.
pub record DrainLeadsOn (s : Setting) (o : Origin) (c : Progress) (t : Tally) (e : ExchangeData) (n : Course) (answer : Drained)
    (piped : Buffer ℕ) (r : Reading) (took to_put : List ℕ) : Type 0 where
  pub is : IsSending s o (taken took piped.items c) t e n r.taken to_put
  pub framing : r.framing ≡ e.request.framing
  pub tells : DrainedIs answer e.request.framing r.taken r.given piped.items

-- ---- laws

abbrev pub GatheringsLeadOn : Type 0
GatheringsLeadOn =
    (s : Setting) (o : Origin) (c : Progress) (t : Tally) (e : ExchangeData) (n : Course) (old new : Reading)
    → IsGathering s o c t e n old.taken → old.framing ≡ e.request.framing
    → (answer : Gathered) (piped piped' : Buffer ℕ) → piped.items ≡ c.piped_in
    → (g : GathersPipe answer piped piped' old new) → GatherLeadsOn s o c t e n answer piped' new g.took

abbrev pub DrainsLeadOn : Type 0
DrainsLeadOn =
    (s : Setting) (o : Origin) (c : Progress) (t : Tally) (e : ExchangeData) (n : Course) (to_put : List ℕ) (old new : Reading)
    → IsSending s o c t e n old.taken to_put → n.content ≡ None → old.framing ≡ e.request.framing
    → (answer : Drained) (piped piped' : Buffer ℕ) → piped.items ≡ c.piped_in
    → (d : DrainsPipe answer piped piped' old new) → DrainLeadsOn s o c t e n answer piped' new d.took to_put
