-- What `check` does.
use Rattle.std.specs.Prelude.{◌≡◌, ℕ, Bool, true, List, length}
use Rattle.std.specs.Io.KnownBytes.{append_known}
use Rattle.tow_link.specs.Data.{Rose}
use Rattle.tow_link.specs.Runs.{AppendsPart}
use Rattle.tow_host.specs.Held.{Held}
use Rattle.tow_site.specs.Compiled.{SiteData}
use Rattle.tow_server.specs.Lines.{ok_line}
use Rattle.tow_server.specs.Texts.{Compiles, LeavesStreams, UsesText}
use Rattle.tow_server.specs.declared.status.Status.{Status}
use Rattle.tow_server.specs.declared.status.Status.TheVariants.{Done, NoMemory, StreamFault}

-- each site is checked
abbrev pub is_checked : SiteData → Bool
is_checked site = true

-- the output gained the line with the number of the text's statements
abbrev pub Checks : Held → Held → Type 0
Checks old new = Compiles is_checked new.text (λ site. new.output.written ≡ append_known old.output.written (ok_line (length site.tree)))

-- the output gained a front of that
abbrev pub ChecksPart : Held → Held → Type 0
ChecksPart old new = Compiles is_checked new.text (λ site. AppendsPart old.output.written new.output.written (ok_line (length site.tree)))

-- `check` of the text of this name ended with this status
pub record Checked (name : List ℕ) (status : Status) (old new : Held) : Type 0 where
  pub text : UsesText is_checked name status old new
  -- with `Done` the text was read whole, and the line with the number of its statements was printed
  pub done : status ≡ Done → Checks old new
  -- with `StreamFault` a front of that line was printed, and the output failed
  pub part : status ≡ StreamFault → ChecksPart old new
  pub stream : status ≡ StreamFault → Rose old.output.faults new.output.faults
  pub memory : status ≡ NoMemory → LeavesStreams old new
  -- nothing is ever read of the input
  pub input : new.input ≡ old.input
