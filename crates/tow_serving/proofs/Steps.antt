-- One step after another, and an exchange that comes to its end.
use Rattle.std.specs.Prelude.{IfSome}
use Rattle.std.proofs.Common.{◌≡◌, ◌<◌, ◌≤◌, inr, ℕ, List, length, reverse, Option, Some, None, sym, ap, subst, ◌∙◌, arith}
use Rattle.tow_model.specs.declared.account.End.{End}
use Rattle.tow_model.specs.declared.account.End.TheVariants.{NoMemory}
use Rattle.tow_model.specs.declared.account.Role.{Role}
use Rattle.tow_model.specs.declared.record.Listener.{Listener}
use Rattle.tow_model.specs.declared.statement.Statement.{Statement}
use Rattle.tow_semantics.specs.Files.{Files}
use Rattle.tow_exchange.specs.Exchanges.{ExchangeData}
use Rattle.tow_exchange.specs.Completions.{CompletedData, completion}
use Rattle.tow_closing.specs.Closings.{ClosingData}
use Rattle.tow_states.specs.Calling.{HasPlacesFor}
use Rattle.tow_states.specs.Known.{Setting}
use Rattle.tow_states.proofs.Calls.{calls_have_places}
use Rattle.tow_stages.specs.Stages.{Base, Stage, closing}
use Rattle.tow_stages.proofs.Answers.{adds_none}
use Rattle.tow_turns.specs.Cuts.{IsLive}
use Rattle.tow_turns.specs.Nexts.{IsOver, IsOwnEnd, KeepsLink, StepFits, end_in, rank}
use Rattle.tow_turns.specs.Safe.{IsOpen, IsSafe, calls_of}
use Rattle.tow_turns.specs.Steps.{Leads}
use Rattle.tow_turns.specs.declared.stage.Then.TheVariants as thens

-- one step, and then another
pub then_leads : (s : Setting) (a b c : Base) (x y z : Stage) → Leads s a b x y → Leads s b c y z → Leads s a c x z
then_leads s a b c x y z first second failed o p t h =
    let m = first failed o p t h in
    let n = second failed o m.progress m.tally m.holds in
    record { progress = n.progress; tally = n.tally; holds = n.holds; same_lines = n.same_lines ∙ m.same_lines }

-- an exchange that is open has places for what its listeners leave
pub open_places : (tree : List Statement) (told : Option Files) (b : Base) (e : ExchangeData) → IsOpen tree told b e
    → HasPlacesFor b.room (calls_of b) (reverse e.stand.state.listeners)
open_places tree told b e is =
    (calls_have_places tree b.room (calls_of b)).completes e is.asks e.stand.state.listeners is.places (adds_none e.stand.state.listeners)

-- a step comes to a want of memory by itself
pub own_end : (n n' : ℕ) (kept : Option End) (end : End) → IfSome kept (λ (x : End). x ≡ NoMemory) → kept ≡ Some end → IsOwnEnd n n' end
own_end n n' None end only is = absurd (cc)
own_end n n' (Some x) end only is =
    let same : end ≡ NoMemory = cc in
    subst (λ (y : End). IsOwnEnd n n' y) (sym same) tt

-- A step to a nearer stage, which leaves the link as it was, takes nothing but of the input, and ends by itself if at all.
pub on_fits : (role : Role) (tree : List Statement) (told : Option Files) (n n' : ℕ) (b new : Base) (before after : Stage)
    → IsSafe tree told new after → length new.port.input.items ≤ length b.port.input.items → rank after < rank before → KeepsLink b new
    → IsLive before → (IsOver before → ⊥) → ((end : End) → end_in after ≡ Some end → IsOwnEnd n n' end)
    → StepFits role tree told n n' b new before after thens.On
on_fits role tree told n n' b new before after safe less near keeps live open_so ends = record {
  safe = safe;
  next = tt;
  nearer = λ on. omega (arith, less, near);
  keeps = keeps;
  waits = λ read. cc;
  links = λ which. live;
  stays_over = λ over. absurd (open_so over);
  ends_so = λ end at. inr (ends end at);
}

-- its listeners are to run, and then the connection ends so
pub closes_fits : (role : Role) (tree : List Statement) (told : Option Files) (n n' : ℕ) (b new : Base) (before after : Stage)
    (e : ExchangeData) (d : ClosingData) (end : End) → after ≡ closing d None (Some end) → d.completed ≡ completion e
    → HasPlacesFor new.room (calls_of new) (reverse e.stand.state.listeners) → IsOwnEnd n n' end
    → length new.port.input.items ≤ length b.port.input.items → 3 < rank before → KeepsLink b new → IsLive before
    → (IsOver before → ⊥) → StepFits role tree told n n' b new before after thens.On
closes_fits role tree told n n' b new before after e d end is completed places own less near keeps live open_so =
    subst (λ (x : Stage). StepFits role tree told n n' b new before x thens.On) (sym is)
    (on_fits role tree told n n' b new before (closing d None (Some end))
    (subst (λ (l : List Listener). HasPlacesFor new.room (calls_of new) l) (sym (ap (λ (x : CompletedData). x.left) completed)) places, tt)
    less near keeps live open_so
    (λ other at. let same : end ≡ other = cc in subst (λ (x : End). IsOwnEnd n n' x) same own))
