use Rattle.std.proofs.Common.{◌≡◌, vec_len}
use Rattle.tow_wire.specs.Answers.{sorted}
use Rattle.tow_answer.proofs.Placing.{placed_all}
use Rattle.tow_answer.proofs.sorting.sorted.Given as goal

abbrev pub invariant-loop-field : goal.invariant-loop-field
invariant-loop-field l = placed_all l.fields.items l.placed.items ≡ sorted l.fn.fields.items

abbrev pub decreases-loop-field : goal.decreases-loop-field
decreases-loop-field l = vec_len l.fields
