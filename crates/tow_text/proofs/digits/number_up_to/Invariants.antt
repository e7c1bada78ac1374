use Rattle.std.proofs.Common.{◌≡◌, min, fold, take}
use Rattle.std.specs.Str.Parse.{digits_value}
use Rattle.tow_text.proofs.Numbers.{with_digit}
use Rattle.tow_text.proofs.digits.number_up_to.Given as goal

abbrev pub invariant-loop-digit : goal.invariant-loop-digit
invariant-loop-digit l = record {
  value : l.number ≡ min (digits_value 10 (take l.digit-index l.digits)) l.most;
  folded : l.number ≡ min (fold with_digit 0 (take l.digit-index l.digits)) l.most;
}
