use Rattle.tow_board.specs.Rule.{kind_of}
use Rattle.tow_board.proofs.Pointing.{points}
use Rattle.tow_board.proofs.laws.rule_gives_points.Goals as goal

pub returns : goal.returns
returns g c = λ loops s rule. points (kind_of g.T.Held.fits g.T.Held.origin g.T.Held.number g.T.Held.loop_of g.T.Held.mark g.T.Held.fresh g.T.Held.follows g.T.Held.tells) loops s rule
