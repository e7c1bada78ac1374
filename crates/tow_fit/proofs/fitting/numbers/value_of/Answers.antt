use Rattle.std.proofs.Common.{arith}
use Rattle.tow_fit.proofs.Digits.{room}
use Rattle.tow_fit.proofs.fitting.numbers.value_of.Goals as goal

pub overflow_mul-number : goal.overflow_mul-number
overflow_mul-number c = omega (arith, room c.loop-digit.number c.loop-digit.digit-index c.loop-digit.invariant.1 (omega arith))
