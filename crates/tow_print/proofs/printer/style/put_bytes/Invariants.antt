use Rattle.std.proofs.Common.{◌≡◌, ◌++◌, take, flat_map}
use Rattle.tow_print.specs.Words.{quoted_byte}
use Rattle.tow_print.proofs.printer.style.put_bytes.Given as goal

abbrev pub invariant-loop-byte : goal.invariant-loop-byte
invariant-loop-byte l = l.text.items ≡ l.initial.text.items ++ flat_map quoted_byte (take l.byte-index l.bytes)
