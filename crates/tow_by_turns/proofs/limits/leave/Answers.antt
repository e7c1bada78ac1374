use Rattle.tow_by_turns.proofs.Verdicts.{leaves_on, leaves_safe}
use Rattle.tow_by_turns.proofs.limits.leave.Goals as goal

pub returns-clause-steps : goal.returns-clause-steps
returns-clause-steps g c =
    λ s. leaves_on g.L.Link.shows s c.args.base.now c.note.new.base c.args.completing.closing c.args.completing.owed c.args.completing.end
    c.in-Some.limit c.in-Some.is c.note.ensures

pub returns-clause-safe : goal.returns-clause-safe
returns-clause-safe g c =
    λ tree told is. leaves_safe g.L.Link.shows tree told c.args.base.now c.note.new.base c.args.completing.closing c.args.completing.owed
    c.args.completing.end c.in-Some.limit c.in-Some.is c.note.ensures is
