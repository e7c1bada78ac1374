use Rattle.std.proofs.Common.{refl, sym, subst}
use Rattle.tow_turns.specs.Data.{base_of, stage_of}
use Rattle.tow_turns.specs.Nexts.{OwesLimit}
use Rattle.tow_turns.specs.Safe.{IsSafe}
use Rattle.tow_turns.specs.Steps.{Leads}
use Rattle.tow_turns.specs.declared.stage.Stage.{Stage}
use Rattle.tow_by_turns.proofs.conn.Conn.released.Goals as goal

pub returns-clause-steps : goal.returns-clause-steps
returns-clause-steps g c =
    let shows = g.L.Link.shows in
    λ s. subst (λ (x : Stage). Leads s (base_of shows c.args.self.now.base) (base_of shows c.leave.new.base) (stage_of x) (stage_of c.leave.result))
    c.in-Closing.ensures.value (c.leave.ensures.steps s)

pub returns-clause-safe : goal.returns-clause-safe
returns-clause-safe g c =
    λ tree told is. c.leave.ensures.safe tree told
    (subst (λ (x : Stage). IsSafe tree told (base_of g.L.Link.shows c.args.self.now.base) (stage_of x)) (sym c.in-Closing.ensures.value) is)

pub returns-clause-calls : goal.returns-clause-calls
returns-clause-calls g c = λ limit asks. record {
  notes = c.leave.ensures.notes limit (subst (λ (x : Stage). OwesLimit limit (stage_of x)) (sym c.in-Closing.ensures.value) asks);
  hops = refl;
}
