use Rattle.std.proofs.Common.{◌≡◌, flat_map, take}
use Rattle.tow_link.proofs.memory_source.MemorySource.of_pieces.Given as goal

abbrev pub invariant-pieces : goal.invariant-pieces
invariant-pieces l = l.bytes.items ≡ flat_map (λ piece. piece.items) (take l.piece-index l.piece-items)
