-- How a walk leads from one exchange to another.
use Rattle.std.specs.Prelude.{◌≡◌, ◌≢◌, ◌⊎◌, ℕ, zero, suc, ◌≤◌, Bool, List, Option, Some, None}
use Rattle.tow_model.specs.declared.statement.Statement.{Statement}
use Rattle.tow_model.specs.Texts.{Text}
use Rattle.tow_semantics.specs.Files.{Files}
use Rattle.tow_semantics.specs.Pages.{Found, found_page, page_for}
use Rattle.tow_exchange.specs.Exchanges.{ExchangeData, page_given, with_fields}
use Rattle.tow_exchange.specs.Waiting.{AwaitsSomePage}
use Rattle.tow_exchange.specs.declared.phase.Phase.{Phase}
use Rattle.tow_exchange.specs.declared.phase.Phase.TheVariants.{AwaitsVerdict, AwaitsContent, AwaitsPage}
use Rattle.tow_exchange.specs.declared.phase.Phase.TheVariants as phases
use Rattle.tow_program.specs.declared.instruction.Instruction.{Instruction}
use Rattle.tow_program.specs.Programs.{program_of}
use Rattle.tow_advance.specs.declared.next.Next.{Next}
use Rattle.tow_advance.specs.declared.next.Next.TheVariants as next
use Rattle.tow_advance.specs.Moves.{AddsLogs, IsUnchosen, walk_left}
use Rattle.tow_advance.specs.Needs.{IsUnderWay}
use Rattle.tow_course.specs.Course.{Advances}
use Rattle.tow_page.specs.Answers.{CanBeGiven}
use Rattle.tow_walks.specs.declared.halt.Halt.{Halt}
use Rattle.tow_walks.specs.declared.halt.Halt.TheVariants.{Stopped, Limit, Content, Worker, FolderFault, NoMemory}

-- ---- where a walk halts

-- what an exchange has come to when a walk halts so
abbrev pub HaltsAt : Halt → Phase → Type 0
HaltsAt Stopped phase = phase ≡ phases.Stopped
HaltsAt (Limit limit) phase = phase ≡ AwaitsVerdict limit
HaltsAt Content phase = phase ≡ AwaitsContent
HaltsAt Worker phase = Unit {0}
HaltsAt FolderFault phase = AwaitsSomePage phase
HaltsAt NoMemory phase = phase ≢ phases.Stopped

-- what it has come to when it needs this
abbrev pub NeedsAt : Next → Phase → Type 0
NeedsAt next.Stop phase = phase ≡ phases.Stopped
NeedsAt (next.AskLimit limit) phase = phase ≡ AwaitsVerdict limit
NeedsAt next.NeedContent phase = phase ≡ AwaitsContent
NeedsAt (next.NeedFolder location listing) phase = phase ≡ AwaitsPage location listing
NeedsAt next.NeedWorker phase = Unit {0}
NeedsAt next.NoMemory phase = phase ≢ phases.Stopped

-- what a walk that may not look for a page halts with, at this need
abbrev pub halt_of : Next → Halt
halt_of next.Stop = Stopped
halt_of (next.AskLimit limit) = Limit limit
halt_of next.NeedContent = Content
halt_of (next.NeedFolder location listing) = Worker
halt_of next.NeedWorker = Worker
halt_of next.NoMemory = NoMemory

-- ---- what a walk does

-- what is found for an exchange that waits for a page; where the folder tells its files, that is what they have
abbrev pub IsFoundIn : Option Files → Text → Bool → ExchangeData → Found → Type 0
IsFoundIn None location listing e found = Unit {0}
IsFoundIn (Some files) location listing e found = found ≡ found_page files location listing e.request e.stand.state

-- the old exchange waits for a page, and the new one was given it
pub record Looks (told : Option Files) (old new : ExchangeData) : Type 0 where
  pub location : Text
  pub listing : Bool
  pub waits : old.phase ≡ AwaitsPage location listing
  pub found : Found
  pub is_found : IsFoundIn told location listing old found
  -- the path of a file is one that a folder can be asked for
  pub can : CanBeGiven (page_for found)
  pub given : new ≡ page_given found old

-- by calls of `advance`, and so many looks between them
abbrev pub WalksBy : ℕ → List Statement → Option Files → ExchangeData → ExchangeData → Type 0
WalksBy zero tree told old new = Advances tree old new
WalksBy (suc looks) tree told old new =
    (seen : ExchangeData) × (given : ExchangeData) × WalksBy looks tree told old seen × Looks told seen given × Advances tree given new

-- by calls of `advance` and looks
pub record Walks (tree : List Statement) (told : Option Files) (old new : ExchangeData) : Type 0 where
  pub looks : ℕ
  pub steps : WalksBy looks tree told old new

-- ---- what a walk leaves

-- what every walk leaves, also one that is cut short: no listener is added but those of logs, no answer is chosen before it is
-- decided, and no more is left to do
pub record Keeps (program : List Instruction) (old new : ExchangeData) : Type 0 where
  pub adds : AddsLogs old.stand.state.listeners new.stand.state.listeners
  pub unchosen : IsUnchosen old → IsUnchosen new
  pub nearer : walk_left program new ≤ walk_left program old
  pub connection : new.connection ≡ old.connection
  pub number : new.number ≡ old.number
  pub request : new.request ≡ old.request
  pub moment : new.moment ≡ old.moment

-- ---- want of memory

-- within a call of `advance`
pub record BreaksOff (tree : List Statement) (old new : ExchangeData) : Type 0 where
  pub under : IsUnderWay (program_of tree) old new
  pub live : new.phase ≢ phases.Stopped
  pub adds : AddsLogs old.stand.state.listeners new.stand.state.listeners
  pub unchosen : IsUnchosen old → IsUnchosen new

-- while it waits for a page, whose fields it may have in part
pub record LacksPage (old new : ExchangeData) : Type 0 where
  pub waits : AwaitsSomePage old.phase
  pub fields : new ≡ with_fields new.stand.state.fields old

-- The exchange has walked to some place, and there the memory was short.
pub record IsCutShort (tree : List Statement) (told : Option Files) (old new : ExchangeData) : Type 0 where
  pub there : ExchangeData
  pub walks : Walks tree told old there
  pub short : BreaksOff tree there new ⊎ LacksPage there new
