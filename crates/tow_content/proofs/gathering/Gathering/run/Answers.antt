use Rattle.tow_content.specs.Gatherings.{Gathers}
use Rattle.tow_content.proofs.Collecting.{nothing_took, says_whole}
use Rattle.tow_content.proofs.gathering.Gathering.run.Goals as goal

pub loop-count-init : goal.loop-count-init
loop-count-init c = nothing_took _ _

pub returns-in-End : goal.returns-in-End
returns-in-End c =
    says_whole c.args.from.now c.loop-count.from c.read.new.from c.read.new.to c.take_bytes.result (Gathers c.args.self.now)
    c.loop-count.self c.take_bytes.new.self c.read.new.self c.loop-count.invariant c.in-End.ensures.law c.take_bytes.ensures
