-- The content of an exchange is gathered.
use Rattle.std.specs.Prelude.{IfSome}
use Rattle.std.proofs.Common.{◌≡◌, ◌<◌, ◌≤◌, ◌+◌, ℕ, Bool, true, false, List, [], length, Option, Some, None, refl, sym, ap, subst, ◌∙◌, arith, length-append, lit<}
use Rattle.circular_buffer.specs.Buffer.{Buffer}
use Rattle.tow_model.specs.declared.account.End.{End}
use Rattle.tow_model.specs.declared.account.End.TheVariants.{Done, NoMemory}
use Rattle.tow_model.specs.declared.account.Role.{Role}
use Rattle.tow_model.specs.declared.content.Content.{Content}
use Rattle.tow_model.specs.declared.statement.Statement.{Statement}
use Rattle.tow_semantics.specs.Files.{Files}
use Rattle.tow_exchange.specs.Exchanges.{ExchangeData, content_given}
use Rattle.tow_exchange.specs.Completions.{completion}
use Rattle.tow_source.specs.Readings.{Onward, Reading}
use Rattle.tow_content.specs.Gatherings.{Gathers, GathersPipe, StandsFor}
use Rattle.tow_content.specs.declared.gathering.Gathering.{Gathering}
use Rattle.tow_content.specs.declared.gathering.Gathered.{Gathered}
use Rattle.tow_content.specs.declared.gathering.Gathered.TheVariants as gathered
use Rattle.tow_closing.specs.Closings.{ClosingData}
use Rattle.tow_walks.specs.Sendable.{IsSendable}
use Rattle.tow_progress.specs.Progress.{Progress, Origin}
use Rattle.tow_progress.specs.Accounts.{Tally}
use Rattle.tow_progress.specs.Steps.{taken}
use Rattle.tow_states.specs.Closing.{IsWorkOf}
use Rattle.tow_states.specs.Known.{Setting}
use Rattle.tow_stages.specs.Answering.{AnswerBegins}
use Rattle.tow_stages.specs.Gathering.{GatherLeadsOn, fed_by, use_of}
use Rattle.tow_stages.specs.Holding.{Holds}
use Rattle.tow_stages.specs.Stages.{Base, Stage, closing, gathering}
use Rattle.tow_stages.proofs.Gathers.{gatherings_lead_on}
use Rattle.tow_turns.specs.Nexts.{IsOwnEnd, StepFits, end_in, rank}
use Rattle.tow_turns.specs.Safe.{IsAsking, IsOpen, IsSafe}
use Rattle.tow_turns.specs.Steps.{Comes, Leads}
use Rattle.tow_turns.specs.declared.stage.Then.TheVariants as thens
use Rattle.tow_turns.proofs.Cuts.{comes_to}
use Rattle.tow_serving.proofs.Steps.{closes_fits, on_fits, open_places, own_end}

-- ---- what a call of the gathering leads to

module _ (s : Setting) (b : Base) (e : ExchangeData) (old new : Gathering) (to_tell : Bool) (answer : Gathered) (pipe : Buffer ℕ)
    (told : to_tell ≡ false) (on : Onward (Gathers old) (StandsFor answer new) (GathersPipe answer b.port.input pipe)) where
  -- as far as it came
  led : (failed : Bool) (o : Origin) (c : Progress) (t : Tally) → Holds failed s o b (gathering e old to_tell) c t
      → GatherLeadsOn failed s o b e answer new pipe c t
  led failed o c t h = (gatherings_lead_on failed s o b e old to_tell c t h).takes told answer new pipe on

  -- it goes on
  pub gathers_on : answer ≡ gathered.NotYet → Leads s b (fed_by pipe b) (gathering e old to_tell) (gathering e new to_tell)
  gathers_on is =
      subst (λ (x : Bool). Leads s b (fed_by pipe b) (gathering e old to_tell) (gathering e new x)) (sym told)
      (λ failed o c t h.
      let on_it = led failed o c t h in
      comes_to failed s o (fed_by pipe b) (gathering e new false) (taken on_it.took pipe.items c) t (on_it.goes_on is))

  -- its listeners are to run after it
  ends_in : (failed : Bool) (o : Origin) (c : Progress) (t : Tally) (d : ClosingData) (end : End) (after : Stage)
      → after ≡ closing d None (Some end) → Holds failed s o (fed_by pipe b) (closing d None (Some end)) c t
      → Comes failed s o (fed_by pipe b) after t.lines
  ends_in failed o c t d end after so holds =
      comes_to failed s o (fed_by pipe b) after c t (subst (λ (x : Stage). Holds failed s o (fed_by pipe b) x c t) (sym so) holds)

  -- nothing more comes, and all is written
  pub falls_short : answer ≡ gathered.NotYet → b.port.ended ≡ true → b.port.output.items ≡ [] → (d : ClosingData) (after : Stage)
      → after ≡ closing d None (Some Done) → IsWorkOf s.tree e d → Leads s b (fed_by pipe b) (gathering e old to_tell) after
  falls_short is over written d after so work failed o c t h =
      let on_it = led failed o c t h in
      ends_in failed o (taken on_it.took pipe.items c) t d Done after so (on_it.is_short is over written d work)

  -- the memory was short
  pub finds_no_memory : (d : ClosingData) (after : Stage) → after ≡ closing d None (Some NoMemory) → IsWorkOf s.tree e d
      → Leads s b (fed_by pipe b) (gathering e old to_tell) after
  finds_no_memory d after so work failed o c t h =
      let on_it = led failed o c t h in
      ends_in failed o (taken on_it.took pipe.items c) t d NoMemory after so (on_it.is_cut NoMemory (λ wrong. cc) d work)

  -- it came, and the answer that it gets is made
  pub comes_whole : (content : Content) → answer ≡ gathered.Content content → (after : Stage)
      → (IsSendable (Some s.files) e → (failed : Bool) (o : Origin) (b' : Base) (c : Progress) (t : Tally)
      → AnswerBegins failed s o b' (content_given content e) (use_of content) c t → Holds failed s o b' after c t)
      → Leads s b (fed_by pipe b) (gathering e old to_tell) after
  comes_whole content is after answers failed o c t h =
      let on_it = led failed o c t h in
      let progress : Progress = taken on_it.took pipe.items c in
      comes_to failed s o (fed_by pipe b) after progress t
      (answers h.holds.0.served.sendable failed o (fed_by pipe b) progress t (on_it.came content is))

-- ---- that the step fits

-- an exchange stays open over another pipe of input
pub open_over : (tree : List Statement) (told : Option Files) (b : Base) (pipe : Buffer ℕ) (e : ExchangeData) → IsOpen tree told b e
    → IsOpen tree told (fed_by pipe b) e
open_over tree told b pipe e is = record {
  connection = is.connection;
  dated = is.dated;
  sendable = is.sendable;
  asks = is.asks;
  places = is.places;
}

asking_is_far : (e : ExchangeData) (g : Gathering) (to_tell : Bool) → 4 < rank (gathering e g to_tell)
asking_is_far e g true = lit< tt
asking_is_far e g false = lit< tt

module _ (role : Role) (tree : List Statement) (told : Option Files) (n n' : ℕ) (b : Base) (e : ExchangeData) (old new : Gathering)
    (to_tell : Bool) (answer : Gathered) (pipe : Buffer ℕ)
    (on : Onward (Gathers old) (StandsFor answer new) (GathersPipe answer b.port.input pipe)) (is : IsAsking tree told b e old) where
  abbrev call : (r : Reading) × StandsFor answer new r × GathersPipe answer b.port.input pipe is.reading_so r
  call = on is.reading_so is.gathers

  -- no more stands in the pipe than before
  fewer : length pipe.items ≤ length b.port.input.items
  fewer =
      let split : length b.port.input.items ≡ length call.2.took + length pipe.items =
      ap length call.2.takes.from_pipe ∙ length-append call.2.took pipe.items in
      omega (arith, split)

  -- its listeners are to run
  pub short_fits : (d : ClosingData) (end : End) (after : Stage) → after ≡ closing d None (Some end) → d.completed ≡ completion e
      → IsOwnEnd n n' end → StepFits role tree told n n' b (fed_by pipe b) (gathering e old to_tell) after thens.On
  short_fits d end after so completed own =
      let far = asking_is_far e old to_tell in
      let near : 3 < rank (gathering e old to_tell) = omega (arith, far) in
      closes_fits role tree told n n' b (fed_by pipe b) (gathering e old to_tell) after e d end so completed
      (open_places tree told b e is.open_so) own fewer near (record { link = refl; ended_so = refl; number = refl }) tt (λ over. over)

  -- its answer is made
  pub answer_fits : (after : Stage) → IsSafe tree told (fed_by pipe b) after → rank after < 5
      → IfSome (end_in after) (λ (x : End). x ≡ NoMemory)
      → StepFits role tree told n n' b (fed_by pipe b) (gathering e old to_tell) after thens.On
  answer_fits after safe near ends =
      let far = asking_is_far e old to_tell in
      let nearer : rank after < rank (gathering e old to_tell) = omega (arith, near, far) in
      on_fits role tree told n n' b (fed_by pipe b) (gathering e old to_tell) after safe fewer nearer
      (record { link = refl; ended_so = refl; number = refl }) tt (λ over. over) (λ end at. own_end n n' (end_in after) end ends at)
