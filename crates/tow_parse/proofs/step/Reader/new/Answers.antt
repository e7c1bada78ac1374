use Rattle.std.proofs.Common.{refl}
use Rattle.tow_parse.proofs.Reading.{start_agrees}
use Rattle.tow_parse.proofs.step.Reader.new.Goals as goal

pub returns-clause-ok : goal.returns-clause-ok
returns-clause-ok c =
    start_agrees (record { state = c.in_ok-state.state; depth = 0 }) c.in_ok-state.ensures.goals c.in_ok-state.ensures.free c.in_ok-state.ensures.parts refl
