use Rattle.std.proofs.Common.{◌≤◌, map, take}
use Rattle.tow_language.specs.Symbols.{symbol_of}
use Rattle.tow_parse.specs.Readers.{Agrees}
use Rattle.tow_parse.proofs.reader.read.Given as goal

abbrev pub invariant-loop-i : goal.invariant-loop-i
invariant-loop-i l = Agrees (map (symbol_of l.text) (take l.i l.tokens)) l.reader × (l.reader.depth ≤ l.i)
