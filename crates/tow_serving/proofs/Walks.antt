-- An exchange walks through its text, with a folder or without one.
use Rattle.std.proofs.Common.{◌≡◌, ◌≢◌, ◌⊎◌, inl, inr, ◌<◌, ℕ, true, false, List, [], reverse, Option, Some, None, refl, sym, subst, ◌∙◌, arith, lit<}
use Rattle.tow_model.specs.Dates.{first_undated}
use Rattle.tow_model.specs.declared.account.End.{End}
use Rattle.tow_model.specs.declared.account.End.TheVariants.{NoMemory}
use Rattle.tow_model.specs.declared.account.Role.{Role}
use Rattle.tow_model.specs.declared.account.Role.TheVariants.{Loop, Main, Worker}
use Rattle.tow_model.specs.declared.statement.Statement.{Statement}
use Rattle.tow_semantics.specs.Files.{Files}
use Rattle.tow_exchange.specs.Exchanges.{ExchangeData}
use Rattle.tow_exchange.specs.Completions.{completion}
use Rattle.tow_exchange.specs.Waiting.{AwaitsSomePage}
use Rattle.tow_exchange.specs.declared.phase.Phase.{Phase}
use Rattle.tow_exchange.specs.declared.phase.Phase.TheVariants.{Stopped}
use Rattle.tow_program.specs.declared.instruction.Instruction.{Instruction}
use Rattle.tow_program.specs.Programs.{program_of}
use Rattle.tow_closing.specs.Closings.{ClosingData}
use Rattle.tow_course.specs.Course.{Advances}
use Rattle.tow_folder.specs.Folders.{FolderData}
use Rattle.tow_link.specs.Data.{Rose}
use Rattle.tow_walks.specs.Folders.{faults_by, may_look, told_by}
use Rattle.tow_walks.specs.Walks.{BreaksOff, HaltsAt, IsCutShort, Keeps, Walks}
use Rattle.tow_walks.specs.declared.halt.Halt.{Halt}
use Rattle.tow_walks.specs.declared.halt.Halt.TheVariants as halts
use Rattle.tow_walks.proofs.Sendable.{walks_stay_sendable}
use Rattle.tow_walks.proofs.Steps.{by_step, cut_in_step}
use Rattle.tow_states.specs.Calling.{HasPlacesFor}
use Rattle.tow_states.specs.Closing.{IsWorkOf}
use Rattle.tow_states.specs.Known.{Setting}
use Rattle.tow_states.proofs.Calls.{calls_have_places}
use Rattle.tow_stages.specs.Holding.{Holds}
use Rattle.tow_stages.specs.Stages.{Base, Stage, closing, walking}
use Rattle.tow_stages.proofs.Walks.{places_walk, walkings_lead_on}
use Rattle.tow_turns.specs.Folders.{IsFolderOf}
use Rattle.tow_turns.specs.Nexts.{IsNext, IsOwnEnd, StepFits, end_in, rank}
use Rattle.tow_turns.specs.Roles.{IsLoop}
use Rattle.tow_turns.specs.Safe.{IsOpen, IsSafe, calls_of}
use Rattle.tow_turns.specs.Steps.{Leads}
use Rattle.tow_turns.specs.declared.stage.Then.{Then}
use Rattle.tow_turns.specs.declared.stage.Then.TheVariants as thens
use Rattle.tow_turns.specs.declared.turn.Turn.{Turn}
use Rattle.tow_turns.specs.declared.turn.Turn.TheVariants as turns
use Rattle.tow_turns.proofs.Cuts.{comes_to, rests}
use Rattle.tow_serving.specs.Answering.{AnswersOrWaits, IsAnswered}
use Rattle.tow_serving.proofs.Steps.{closes_fits, on_fits, open_places, own_end}

-- ---- the folder

-- without a folder nobody looks for a page
no_look : (F : Type 0) (role : Role) → may_look {F = F} role None ≡ false
no_look F (Loop i) = refl
no_look F (Worker i) = refl
no_look F Main = refl

-- A walk is one over the files of the folder; without one it goes on by calls of `advance` alone.
pub walks_over : {F : Type 0} (shows : F → FolderData) (folder : Option F) (role : Role) (tree : List Statement) (files : Files)
    (old new : ExchangeData) → IsFolderOf shows folder files → Walks tree (told_by shows folder) old new
    → (may_look role folder ≡ false → Advances tree old new) → Walks tree (Some files) old new
walks_over shows None role tree files old new is w advances = by_step tree (Some files) old new (advances (no_look _ role))
walks_over shows (Some folder) role tree files old new is w advances = subst (λ (told : Option Files). Walks tree told old new) is w

-- so is one that is cut short
pub cut_over : {F : Type 0} (shows : F → FolderData) (folder : Option F) (role : Role) (tree : List Statement) (files : Files)
    (old new : ExchangeData) → IsFolderOf shows folder files → IsCutShort tree (told_by shows folder) old new
    → (may_look role folder ≡ false → BreaksOff tree old new) → IsCutShort tree (Some files) old new
cut_over shows None role tree files old new is w breaks = cut_in_step tree (Some files) old new (breaks (no_look _ role))
cut_over shows (Some folder) role tree files old new is w breaks =
    subst (λ (told : Option Files). IsCutShort tree told old new) is w

-- ---- what it leads to

-- it has walked
pub walked : (s : Setting) (b : Base) (program : List Instruction) (old new : ExchangeData) → Keeps program old new
    → Walks s.tree (Some s.files) old new → Leads s b b (walking old) (walking new)
walked s b program old new keeps w failed o c t h =
    comes_to failed s o b (walking new) c t ((walkings_lead_on failed s o b old c t h).walks program new keeps w)

-- the memory was short
pub walked_short : (s : Setting) (b : Base) (program : List Instruction) (old new : ExchangeData) (d : ClosingData) (after : Stage)
    → after ≡ closing d None (Some NoMemory) → Keeps program old new → IsCutShort s.tree (Some s.files) old new → IsWorkOf s.tree new d
    → Leads s b b (walking old) after
walked_short s b program old new d after so keeps short work failed o c t h =
    comes_to failed s o b after c t (subst (λ (x : Stage). Holds failed s o b x c t) (sym so)
    ((walkings_lead_on failed s o b old c t h).is_short program new keeps short d work))

-- where it has halted, it is answered or waits for a worker
pub answered_leads : (program : List Instruction) (s : Setting) (b : Base) (e : ExchangeData) (stage : Stage) (follows : Then)
    → program ≡ program_of s.tree → AnswersOrWaits program e stage follows → Leads s b b (walking e) stage
answered_leads program s b e stage thens.On same is failed o c t h =
    comes_to failed s o b stage c t (is.answers s same h.holds.0.served.sendable.there failed o b c t
    ((walkings_lead_on failed s o b e c t h).stops is.stopped))
answered_leads program s b e stage (thens.Stop turns.ToPool) same is failed o c t h =
    subst (λ (x : Stage). Leads s b b (walking e) x) (sym is.same) (rests s b (walking e)) failed o c t h
answered_leads program s b e stage (thens.Stop turns.Idle) same is failed o c t h = absurd is
answered_leads program s b e stage (thens.Stop (turns.AskLimit limit)) same is failed o c t h = absurd is
answered_leads program s b e stage (thens.Stop (turns.Release limit)) same is failed o c t h = absurd is
answered_leads program s b e stage (thens.Stop turns.ToLoop) same is failed o c t h = absurd is
answered_leads program s b e stage (thens.Stop turns.Spent) same is failed o c t h = absurd is
answered_leads program s b e stage (thens.Stop (turns.Ended end)) same is failed o c t h = absurd is
answered_leads program s b e stage thens.Read same is failed o c t h = absurd is
answered_leads program s b e stage thens.Write same is failed o c t h = absurd is

-- ---- that the step fits

-- an exchange stays open over a walk
pub open_after : (tree : List Statement) (told : Option Files) (b : Base) (program : List Instruction) (old new : ExchangeData)
    → Keeps program old new → Walks tree told old new → IsOpen tree told b old → IsOpen tree told b new
open_after tree told b program old new keeps w is = record {
  connection = keeps.connection ∙ is.connection;
  dated = subst (λ (m : ℕ). m < first_undated) (sym keeps.moment) is.dated;
  sendable = walks_stay_sendable tree told old new w is.sendable;
  asks = is.asks;
  places = places_walk w.looks tree told b.room (calls_of b) old new is.asks w.steps is.places;
}

-- whatever a walk has done, there are places for what its listeners leave
pub kept_places : (tree : List Statement) (told : Option Files) (b : Base) (program : List Instruction) (old new : ExchangeData)
    → Keeps program old new → IsOpen tree told b old → HasPlacesFor b.room (calls_of b) (reverse new.stand.state.listeners)
kept_places tree told b program old new keeps is =
    (calls_have_places tree b.room (calls_of b)).completes old is.asks new.stand.state.listeners is.places keeps.adds

-- its listeners are to run
pub cut_fits : (role : Role) (tree : List Statement) (told : Option Files) (n n' : ℕ) (b : Base) (program : List Instruction)
    (old new : ExchangeData) (d : ClosingData) (end : End) (after : Stage) → after ≡ closing d None (Some end)
    → d.completed ≡ completion new → Keeps program old new → IsOpen tree told b old → IsOwnEnd n n' end
    → StepFits role tree told n n' b b (walking old) after thens.On
cut_fits role tree told n n' b program old new d end after so completed keeps is own =
    closes_fits role tree told n n' b b (walking old) after new d end so completed (kept_places tree told b program old new keeps is) own
    (omega arith) (lit< tt) (record { link = refl; ended_so = refl; number = refl }) tt (λ over. over)

-- a fault that is the folder's for this exchange is its connection's
pub fault_rose : {F : Type 0} (shows : F → FolderData) (folder folder' : Option F) (k number : ℕ) → k ≡ number
    → Rose (faults_by shows folder k) (faults_by shows folder' k) → Rose (faults_by shows folder number) (faults_by shows folder' number)
fault_rose shows folder folder' k number is = subst (λ (x : ℕ). Rose (faults_by shows folder x) (faults_by shows folder' x)) is

-- one that waits for a page has not stopped
pub page_is_live : (phase : Phase) → AwaitsSomePage phase → phase ≢ Stopped
page_is_live phase waits is = subst (λ (x : Phase). AwaitsSomePage x) is waits

-- it stays on its walk, and what follows is a turn's end
pub stays_fits : (role : Role) (tree : List Statement) (told : Option Files) (n n' : ℕ) (b : Base) (old new : ExchangeData) (turn : Turn)
    → IsOpen tree told b new → b.port.output.items ≡ [] → IsNext role b (walking new) (thens.Stop turn)
    → StepFits role tree told n n' b b (walking old) (walking new) (thens.Stop turn)
stays_fits role tree told n n' b old new turn is written next = record {
  safe = (is, written);
  next = next;
  nearer = λ on. cc;
  keeps = record { link = refl; ended_so = refl; number = refl };
  waits = λ read. cc;
  links = λ which. tt;
  stays_over = λ over. over;
  ends_so = λ end none. cc;
}

-- it waits for its content
pub asks_fits : (role : Role) (tree : List Statement) (told : Option Files) (n n' : ℕ) (b : Base) (old : ExchangeData) (after : Stage)
    → IsSafe tree told b after → rank after < 7 → end_in after ≡ None → StepFits role tree told n n' b b (walking old) after thens.On
asks_fits role tree told n n' b old after safe near goes_on =
    on_fits role tree told n n' b b (walking old) after safe (omega arith) near (record { link = refl; ended_so = refl; number = refl }) tt
    (λ over. over) (λ end some. absurd (cc))

-- its answer was made
answer_fits : (role : Role) (tree : List Statement) (told : Option Files) (n n' : ℕ) (b : Base) (program : List Instruction)
    (old new : ExchangeData) (stage : Stage) → IsOpen tree told b new → IsAnswered program new stage
    → StepFits role tree told n n' b b (walking old) stage thens.On
answer_fits role tree told n n' b program old new stage open_so is =
    let near = is.near in
    let nearer : rank stage < rank (walking old) = omega (arith, near) in
    on_fits role tree told n n' b b (walking old) stage (is.safe tree told b open_so.sendable.there (open_places tree told b new open_so))
    (omega arith) nearer (record { link = refl; ended_so = refl; number = refl }) tt (λ over. over)
    (λ end at. own_end n n' (end_in stage) end is.ends at)

-- it is answered, or a worker is to go on with it
pub answered_fits : (role : Role) (tree : List Statement) (told : Option Files) (n n' : ℕ) (b : Base) (program : List Instruction)
    (old new : ExchangeData) (stage : Stage) (follows : Then) → (new.phase ≢ Stopped → IsLoop role) → IsOpen tree told b new
    → b.port.output.items ≡ [] → AnswersOrWaits program new stage follows
    → StepFits role tree told n n' b b (walking old) stage follows
answered_fits role tree told n n' b program old new stage thens.On loops open_so written is =
    answer_fits role tree told n n' b program old new stage open_so is
answered_fits role tree told n n' b program old new stage (thens.Stop turns.ToPool) loops open_so written is =
    subst (λ (x : Stage). StepFits role tree told n n' b b (walking old) x (thens.Stop turns.ToPool)) (sym is.same)
    (stays_fits role tree told n n' b old new turns.ToPool open_so written (loops is.live, is.live))
answered_fits role tree told n n' b program old new stage (thens.Stop turns.Idle) loops open_so written is = absurd is
answered_fits role tree told n n' b program old new stage (thens.Stop (turns.AskLimit limit)) loops open_so written is = absurd is
answered_fits role tree told n n' b program old new stage (thens.Stop (turns.Release limit)) loops open_so written is = absurd is
answered_fits role tree told n n' b program old new stage (thens.Stop turns.ToLoop) loops open_so written is = absurd is
answered_fits role tree told n n' b program old new stage (thens.Stop turns.Spent) loops open_so written is = absurd is
answered_fits role tree told n n' b program old new stage (thens.Stop (turns.Ended end)) loops open_so written is = absurd is
answered_fits role tree told n n' b program old new stage thens.Read loops open_so written is = absurd is
answered_fits role tree told n n' b program old new stage thens.Write loops open_so written is = absurd is

-- who may not look for a page, and is equipped, is a loop
pub is_loop_else : {F : Type 0} (role : Role) (folder : Option F) → IsLoop role ⊎ (may_look role folder ≡ true)
    → may_look role folder ≡ false → IsLoop role
is_loop_else role folder (inl loop) none = loop
is_loop_else role folder (inr may) none = absurd (cc)

-- ---- a walk that has stopped, or waits for a worker

-- the memory was not short
pub has_memory : (halt : Halt) → (halt ≡ halts.Stopped) ⊎ (halt ≡ halts.Worker) → halt ≢ halts.NoMemory
has_memory halt (inl stopped) short = cc
has_memory halt (inr worker) short = cc

-- if it has not stopped, a loop has walked
pub waits_in_loop : {F : Type 0} (role : Role) (folder : Option F) (halt : Halt) (phase : Phase)
    → IsLoop role ⊎ (may_look role folder ≡ true) → (halt ≡ halts.Worker → may_look role folder ≡ false) → HaltsAt halt phase
    → (halt ≡ halts.Stopped) ⊎ (halt ≡ halts.Worker) → phase ≢ Stopped → IsLoop role
waits_in_loop role folder halt phase equipped none at (inl stopped) live =
    absurd (live (subst (λ (x : Halt). HaltsAt x phase) stopped at))
waits_in_loop role folder halt phase equipped none at (inr worker) live = is_loop_else role folder equipped (none worker)
