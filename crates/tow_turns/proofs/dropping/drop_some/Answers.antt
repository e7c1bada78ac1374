use Rattle.tow_turns.proofs.Drops.{drop_all, drop_capacity}
use Rattle.tow_turns.proofs.dropping.drop_some.Goals as goal

pub returns-clause-capacity : goal.returns-clause-capacity
returns-clause-capacity c =
    drop_capacity c.args.drain.now.source c.run.new.self.source c.run.result c.args.pipe.now c.run.new.from c.requires.reads c.run.ensures

pub returns-clause-all : goal.returns-clause-all
returns-clause-all c =
    drop_all c.args.drain.now.source c.run.new.self.source c.run.result c.args.pipe.now c.run.new.from c.requires.reads c.run.ensures
