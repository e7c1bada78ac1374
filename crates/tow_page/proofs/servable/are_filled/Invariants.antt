use Rattle.std.proofs.Common.{◌≡◌, drop, true}
use Rattle.tow_page.specs.Segments.{are_filled}
use Rattle.tow_page.proofs.servable.are_filled.Given as goal

-- what is said of the bytes that are left is said of the whole
abbrev pub invariant-loop-byte : goal.invariant-loop-byte
invariant-loop-byte l = are_filled l.empty (drop l.byte-index l.segments) ≡ are_filled true l.segments
