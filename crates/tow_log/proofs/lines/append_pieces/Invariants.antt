use Rattle.std.proofs.Common.{◌≡◌, ◌++◌, drop, flat_map}
use Rattle.tow_semantics.specs.Values.{logged_piece}
use Rattle.tow_log.proofs.lines.append_pieces.Given as goal

-- what was written, and then what a line has for the pieces that are left, is the whole
abbrev pub invariant-loop-piece : goal.invariant-loop-piece
invariant-loop-piece l =
    l.out.items ++ flat_map (λ p. logged_piece p l.request l.exchange l.moment) (drop l.piece-index l.pieces)
    ≡ l.fn.out.items ++ flat_map (λ p. logged_piece p l.request l.exchange l.moment) l.pieces
