use Rattle.std.proofs.Common.{◌∙◌, ℕ, false, Option, refl, ap, subst, arith}
use Rattle.tow_model.specs.declared.account.End.{End}
use Rattle.tow_conn.specs.declared.progress.Turn.TheVariants.{Ended}
use Rattle.tow_conn.specs.Turns.{GoesOn, WritesRest, WritesFront}
use Rattle.tow_conn.proofs.Turning.{goes_further, rest_after, front_after, wire_of_rest, part_of_front}
use Rattle.tow_conn.proofs.ask.ask_whole.Goals as goal

pub turns-preserved : goal.turns-preserved
turns-preserved g c =
    let before = c.turns.invariant in
    let turn = c.in-Goes.ensures in
    record {
      table = turn.table ∙ before.table;
      scratch = turn.scratch ∙ before.scratch;
      so_far = goes_further c.args.site.now.tree (g.C.Clock.table c.args.clock.now) _ c.turns.progress c.take_turn.new.progress _ _ _ _ _ _ before.so_far
          (subst (λ (table : Option (ℕ → ℕ → ℕ)). GoesOn c.args.site.now.tree table c.turns.progress c.take_turn.new.progress (g.I.Source.shows c.turns.link.input).told (g.I.Source.shows c.take_turn.new.link.input).told (g.O.Sink.shows c.turns.link.output).written (g.O.Sink.shows c.take_turn.new.link.output).written) before.table (turn.goes refl));
      number = (turn.on refl).0;
      told = turn.told;
      later_input = omega (arith, before.later_input, turn.later_input);
      later_output = omega (arith, before.later_output, turn.later_output);
    }

pub returns-in-Ended-clause-done : goal.returns-in-Ended-clause-done
returns-in-Ended-clause-done g c = λ is.
    let tree = c.args.site.now.tree in
    let table = g.C.Clock.table c.args.clock.now in
    let rest = subst (λ (t : Option (ℕ → ℕ → ℕ)). WritesRest tree t c.turns.progress (g.I.Source.shows c.turns.link.input).told (g.O.Sink.shows c.turns.link.output).written (g.O.Sink.shows c.take_turn.new.link.output).written)
    c.turns.invariant.table (c.in-Ended.ensures.done (ap (λ (end : End). Ended end) is)) in
    wire_of_rest tree table (record { inbox = c.in-Ok.inbox; number = 1; ended = false }) _ _ _ c.in-Ok.ensures refl (rest_after tree table _ c.turns.progress _ _ _ _ _ c.turns.invariant.so_far rest)

pub returns-in-Ended-clause-part : goal.returns-in-Ended-clause-part
returns-in-Ended-clause-part g c =
    let tree = c.args.site.now.tree in
    let table = g.C.Clock.table c.args.clock.now in
    let front = subst (λ (t : Option (ℕ → ℕ → ℕ)). WritesFront tree t c.turns.progress (g.I.Source.shows c.turns.link.input).told (g.O.Sink.shows c.turns.link.output).written (g.O.Sink.shows c.take_turn.new.link.output).written)
    c.turns.invariant.table c.in-Ended.ensures.front in
    part_of_front tree table (record { inbox = c.in-Ok.inbox; number = 1; ended = false }) _ _ _ c.in-Ok.ensures refl (front_after tree table _ c.turns.progress _ _ _ _ _ c.turns.invariant.so_far front)
