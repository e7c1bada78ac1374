use Rattle.std.proofs.Common.{length}
use Rattle.tow_parse.specs.Moves.{Passes}
use Rattle.tow_parse.proofs.state.State.next_goal.Given as goal

abbrev pub invariant-passing : goal.invariant-passing
invariant-passing l = Passes l.initial.self.goals l.initial.self l.look l.self.goals l.self

abbrev pub decreases-passing : goal.decreases-passing
decreases-passing l = length l.self.goals
