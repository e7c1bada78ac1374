use Rattle.std.proofs.Common.{◌≡◌, ◌++◌, replicate}
use Rattle.tow_explain.proofs.drawing.put_spaces.Given as goal

abbrev pub invariant-spaces : goal.invariant-spaces
invariant-spaces l = l.out.items ≡ l.initial.out.items ++ replicate l._space 32
