use Rattle.std.proofs.Common.{◌≡◌, ◌++◌, drop, flat_map}
use Rattle.tow_semantics.specs.Values.{piece_of}
use Rattle.tow_attr.proofs.values.append_pieces.Given as goal

-- what was written, and then what the pieces that are left stand for, is the whole
abbrev pub invariant-loop-piece : goal.invariant-loop-piece
invariant-loop-piece l =
    l.out.items ++ flat_map (λ p. piece_of p l.request l.exchange l.moment) (drop l.piece-index l.pieces)
    ≡ l.fn.out.items ++ flat_map (λ p. piece_of p l.request l.exchange l.moment) l.pieces
