-- What a gathering has collected, and what its answers say.
use Rattle.std.specs.Prelude.{◌≡◌, ℕ, List, []}
use Rattle.circular_buffer.specs.Buffer.{Buffer}
use Rattle.tow_model.specs.declared.content.Content.TheVariants as Contents
use Rattle.tow_message.specs.Contents.{IsContent, IsShort}
use Rattle.tow_source.specs.Readings.{Reading, Takes, TurnsBad}
use Rattle.tow_content.specs.declared.gathering.Gathered.{Gathered}
use Rattle.tow_content.specs.declared.gathering.Gathered.TheVariants.{Content, NotYet, NoMemory}
use Rattle.tow_content.specs.declared.gathering.Gathering.{Gathering}
use Rattle.tow_content.specs.Sources.{ReadsContent}

-- the source of the gathering has read so, and all that it gave is collected
pub record Gathers (gathering : Gathering) (r : Reading) : Type 0 where
  pub reads : ReadsContent gathering.source r
  pub bytes : gathering.bytes.items ≡ r.given

-- the gathering goes on from this reading, if its answer was that the content goes on
abbrev pub StandsFor : Gathered → Gathering → Reading → Type 0
StandsFor NotYet gathering r = Gathers gathering r
StandsFor NoMemory gathering r = Unit {0}
StandsFor (Content content) gathering r = Unit {0}

-- what each answer says
abbrev pub GatherTells : Gathered → Buffer ℕ → Reading → Type 0
GatherTells (Content (Contents.Whole bytes)) piped' new = IsContent new.framing new.taken (Contents.Whole bytes)
GatherTells (Content Contents.TooLong) piped' new = IsContent new.framing new.taken Contents.TooLong
GatherTells (Content Contents.Bad) piped' new = TurnsBad new.framing new.taken
GatherTells NotYet piped' new = (piped'.items ≡ []) × IsShort new.framing new.taken
GatherTells NoMemory piped' new = Unit {0}

-- one call of a gathering
pub record GathersPipe (answer : Gathered) (piped piped' : Buffer ℕ) (old new : Reading) : Type 0 where
  pub took : List ℕ
  pub takes : Takes took piped piped' old new
  pub tells : GatherTells answer piped' new
