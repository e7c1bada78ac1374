use Rattle.std.proofs.Common.{◌≡◌, ℕ, List, ◌++◌, drop}
use Rattle.tow_print.specs.Words.{ahead}
use Rattle.tow_print.proofs.printer.spelling.Spelling.with_bytes.Given as goal

-- what is left makes the word that all makes
abbrev pub invariant-loop-byte : goal.invariant-loop-byte
invariant-loop-byte l = (more : List ℕ) → ahead l.seen (drop l.byte-index l.bytes ++ more) ≡ ahead l.fn.self (l.bytes ++ more)
