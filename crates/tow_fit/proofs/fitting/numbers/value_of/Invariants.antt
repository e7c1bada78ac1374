use Rattle.std.proofs.Common.{◌≡◌, ◌<◌, ◌^◌, take}
use Rattle.std.specs.Prelude.{fold}
use Rattle.tow_fit.proofs.Digits.{with_digit}
use Rattle.tow_fit.proofs.fitting.numbers.value_of.Given as goal

abbrev pub invariant-loop-digit : goal.invariant-loop-digit
invariant-loop-digit l = (l.number ≡ fold with_digit 0 (take l.digit-index l.digits)) × (l.number < 10 ^ l.digit-index)
