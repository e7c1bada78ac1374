-- How many bytes a cell takes.
use Rattle.std.proofs.Common.{ℕ, ◌<◌, ◌≤◌, List, length, arith}
use Rattle.bstr.specs.Utf8.{decoded}
use Rattle.bstr.proofs.lemmas.PieceLemmas.{piece-bounds}

-- a piece of a text takes a byte at least, and no more than there are
pub sized : (text : List ℕ) → 0 < length text → (0 < (decoded text).size) × ((decoded text).size ≤ length text)
sized text some = (omega (arith, (piece-bounds text some).0), (piece-bounds text some).2)
