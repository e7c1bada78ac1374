-- What `ask` does.
use Rattle.std.specs.Prelude.{◌≡◌, ◌⊎◌, ℕ, Bool, List, Option}
use Rattle.tow_link.specs.Data.{Rose}
use Rattle.tow_host.specs.Held.{Held}
use Rattle.tow_host.specs.Moments.{clock_table}
use Rattle.tow_site.specs.Built as built
use Rattle.tow_site.specs.Compiled.{SiteData}
use Rattle.tow_conn.specs.Turns.{Moments, WritesWire, WritesPart}
use Rattle.tow_server.specs.Texts.{Compiles, LeavesStreams, ReturnsText, UsesText}
use Rattle.tow_server.specs.declared.status.Status.{Status}
use Rattle.tow_server.specs.declared.status.Status.TheVariants.{Done, NoMemory, StreamFault}

-- the walk of the site's tree is built
abbrev pub is_walked : SiteData → Bool
is_walked site = built.is_built site.tree

-- the output gained the whole wire of the input under the text
abbrev pub AsksWire : Moments → Held → Held → Type 0
AsksWire table old new =
    Compiles is_walked new.text (λ site. WritesWire site.tree table old.input.told old.output.written new.output.written)

-- the output gained a front of that
abbrev pub AsksPart : Moments → Held → Held → Type 0
AsksPart table old new =
    Compiles is_walked new.text (λ site. WritesPart site.tree table old.input.told old.output.written new.output.written)

-- the output gained a front of the wire of the input under the text of this name
pub record AsksPartOf (name : List ℕ) (table : Moments) (old new : Held) : Type 0 where
  pub returned : ReturnsText name old new
  pub part : AsksPart table old new

-- `ask` under the text of this name ended with this status, at one moment or at those of the host's clock
pub record Asked (name : List ℕ) (moment : Option ℕ) (status : Status) (old new : Held) : Type 0 where
  pub text : UsesText is_walked name status old new
  -- with `Done` the text was read whole, and all that the input asks for was written
  pub done : status ≡ Done → AsksWire (clock_table old.moments moment) old new
  -- with `StreamFault` a front of that was written, and the input or the output failed
  pub part : status ≡ StreamFault → AsksPart (clock_table old.moments moment) old new
  pub stream : status ≡ StreamFault → Rose old.input.faults new.input.faults ⊎ Rose old.output.faults new.output.faults
  -- with `NoMemory` nothing was read and written, or a front of that was written
  pub memory : status ≡ NoMemory → LeavesStreams old new ⊎ AsksPartOf name (clock_table old.moments moment) old new
