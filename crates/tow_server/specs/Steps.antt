-- What the steps of a command do to what the host shows.
use Rattle.std.specs.Prelude.{◌≡◌, ◌≢◌, ℕ, ◌⊎◌, Bool, true, List}
use Rattle.std.specs.Io.KnownBytes.{append_known}
use Rattle.tow_model.specs.declared.statement.Statement.{Statement}
use Rattle.tow_link.specs.Data.{SourceData, Rose}
use Rattle.tow_link.specs.Runs.{AppendsPart}
use Rattle.tow_host.specs.Held.{Held, AsksText, with_text}
use Rattle.tow_site.specs.Compiled.{SiteData, IsSiteOf}
use Rattle.tow_site.specs.declared.fault.Fault.{Fault}
use Rattle.tow_site.specs.declared.fault.Fault.TheVariants as faults
use Rattle.tow_conn.specs.Turns.{Moments, WritesWire, WritesPart}
use Rattle.tow_server.specs.Lines.{line_for, ok_line}
use Rattle.tow_server.specs.Returned.{untouched}
use Rattle.tow_server.specs.Texts.{HandsBack, IsNamed, IsRead, LeavesStreams, Prints, Refuses, ReturnsText, TextCallFailed, TextSourceFailed}
use Rattle.tow_server.specs.declared.status.Status.{Status}
use Rattle.tow_server.specs.declared.status.Status.TheVariants.{Done, Text, HostFault, NoMemory, StreamFault}

-- the source of the text of this name, which is still out, was read, and these are the bytes
pub record LoadsText (name : List ℕ) (source : SourceData) (bytes : List ℕ) (old new : Held) : Type 0 where
  pub named : IsNamed old.texts name source
  pub read : IsRead source bytes
  pub rest : AsksText true old new

-- there is no such text, or its source failed, or memory is short; no source is out
pub record LacksText (name : List ℕ) (status : Status) (old new : Held) : Type 0 where
  pub ends : (status ≡ HostFault) ⊎ (status ≡ NoMemory)
  pub host : status ≡ HostFault → TextSourceFailed name old new ⊎ TextCallFailed name old new
  pub streams : LeavesStreams old new
  pub home : new.is_home ≡ old.is_home
  pub back : old.handed ≡ old.returned → new.handed ≡ new.returned
  pub rest : untouched new ≡ untouched old

-- a text's source was handed back, and this line was printed
pub record RefusesText (line : List ℕ) (source : SourceData) (old new : Held) : Type 0 where
  pub prints : Prints old.output new.output line
  pub rest : new ≡ record (with_text source old) { output = new.output }

-- a text's source was handed back, and the line of its fault was printed if there was memory
pub record RefusesFault (fault : Fault) (source : SourceData) (status : Status) (old new : Held) : Type 0 where
  pub ends : (status ≡ Text) ⊎ (status ≡ NoMemory)
  pub named : status ≡ Text → fault ≢ faults.NoMemory
  pub prints : status ≡ Text → Prints old.output new.output (line_for fault)
  pub memory : status ≡ NoMemory → new.output ≡ old.output
  pub rest : new ≡ record (with_text source old) { output = new.output }

-- the text of this name was read whole, and this is its site; its source is still out
pub record OpensSite (name : List ℕ) (site : SiteData) (source : SourceData) (old new : Held) : Type 0 where
  pub bytes : List ℕ
  pub named : IsNamed old.texts name source
  pub read : IsRead source bytes
  pub is : IsSiteOf bytes site
  pub rest : AsksText true old new

-- the text of this name could not be had, or it is refused, whatever sites are served, or memory is short; no source is out
pub record LacksSite (name : List ℕ) (status : Status) (old new : Held) : Type 0 where
  pub ends : ((status ≡ HostFault) ⊎ (status ≡ NoMemory)) ⊎ (status ≡ Text)
  pub host : status ≡ HostFault → TextSourceFailed name old new ⊎ TextCallFailed name old new
  pub text : status ≡ Text → ReturnsText name old new
  pub refused : (is_built : SiteData → Bool) → status ≡ Text → Refuses is_built old new
  pub streams : status ≢ Text → LeavesStreams old new
  pub input : new.input ≡ old.input
  pub back : HandsBack old new

-- a text's source was handed back, and the number of its statements was printed
pub record ReportsSite (statements : ℕ) (source : SourceData) (status : Status) (old new : Held) : Type 0 where
  pub ends : ((status ≡ Done) ⊎ (status ≡ StreamFault)) ⊎ (status ≡ NoMemory)
  pub done : status ≡ Done → new.output.written ≡ append_known old.output.written (ok_line statements)
  pub part : status ≡ StreamFault → AppendsPart old.output.written new.output.written (ok_line statements)
  pub stream : status ≡ StreamFault → Rose old.output.faults new.output.faults
  pub memory : status ≡ NoMemory → new.output ≡ old.output
  pub rest : new ≡ record (with_text source old) { output = new.output }

-- the input was answered under a tree, and its text's source was handed back
pub record AnswersInput (tree : List Statement) (table : Moments) (source : SourceData) (status : Status) (old new : Held) : Type 0 where
  pub ends : ((status ≡ Done) ⊎ (status ≡ StreamFault)) ⊎ (status ≡ NoMemory)
  pub done : status ≡ Done → WritesWire tree table old.input.told old.output.written new.output.written
  pub part : WritesPart tree table old.input.told old.output.written new.output.written
  pub stream : status ≡ StreamFault → Rose old.input.faults new.input.faults ⊎ Rose old.output.faults new.output.faults
  pub rest : new ≡ record (with_text source old) { input = new.input; output = new.output }
