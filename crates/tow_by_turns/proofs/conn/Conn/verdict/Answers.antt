use Rattle.std.proofs.Common.{refl, sym, subst}
use Rattle.tow_turns.specs.Data.{base_of, stage_of}
use Rattle.tow_turns.specs.Nexts.{AsksLimit}
use Rattle.tow_turns.specs.Safe.{IsSafe}
use Rattle.tow_turns.specs.Steps.{Leads}
use Rattle.tow_turns.specs.declared.stage.Stage.{Stage}
use Rattle.tow_by_turns.proofs.conn.Conn.verdict.Goals as goal

pub returns-clause-steps : goal.returns-clause-steps
returns-clause-steps g c =
    let shows = g.L.Link.shows in
    λ s. subst (λ (x : Stage). Leads s (base_of shows c.args.self.now.base) (base_of shows c.hear.new.base) (stage_of x) (stage_of c.hear.result))
    c.in-Walking.ensures.value (c.hear.ensures.steps s)

pub returns-clause-safe : goal.returns-clause-safe
returns-clause-safe g c =
    λ tree told is. c.hear.ensures.safe tree told
    (subst (λ (x : Stage). IsSafe tree told (base_of g.L.Link.shows c.args.self.now.base) (stage_of x)) (sym c.in-Walking.ensures.value) is)

pub returns-clause-calls : goal.returns-clause-calls
returns-clause-calls g c = λ limit asks. record {
  notes = c.hear.ensures.notes limit (subst (λ (x : Stage). AsksLimit limit (stage_of x)) (sym c.in-Walking.ensures.value) asks);
  hops = refl;
}
