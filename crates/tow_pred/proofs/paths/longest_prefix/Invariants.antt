use Rattle.std.proofs.Common.{◌≡◌, ◌≤◌, IfSome, filter, length, take}
use Rattle.tow_model.specs.Paths.{is_prefix}
use Rattle.tow_pred.proofs.Longest.{most}
use Rattle.tow_pred.proofs.paths.longest_prefix.Given as goal

abbrev pub invariant-loop-prefix : goal.invariant-loop-prefix
invariant-loop-prefix l = record {
  most : l.best ≡ most (filter (λ p. is_prefix p l.path) (take l.prefix-index l.prefixes));
  within : IfSome l.best (λ len. len ≤ length l.path);
}
