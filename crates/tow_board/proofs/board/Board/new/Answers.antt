use Rattle.tow_board.specs.Rule.{kind_of}
use Rattle.tow_board.proofs.Opening.{starts}
use Rattle.tow_board.proofs.board.Board.new.Goals as goal

pub vacant-requires : goal.vacant-requires
vacant-requires g c = rw (c.deref.ensures.value, c.in_ok-words.ensures) (starts (kind_of g.T.Held.fits g.T.Held.origin g.T.Held.number g.T.Held.loop_of g.T.Held.mark g.T.Held.fresh g.T.Held.follows g.T.Held.tells) c.args.loops c.args.slots)
