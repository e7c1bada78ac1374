use Rattle.tow_turns.proofs.Cuts.{is_work}
use Rattle.tow_turns.proofs.deciding.work_of.Goals as goal

pub returns-clause-work : goal.returns-clause-work
returns-clause-work c =
    is_work c.args.program.now c.args.exchange c.new.result c.new.ensures.completed c.new.ensures.lines c.new.ensures.none
