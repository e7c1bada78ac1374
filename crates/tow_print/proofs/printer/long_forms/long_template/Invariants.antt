use Rattle.std.proofs.Common.{◌≡◌, ◌≤◌, length, drop, None}
use Rattle.tow_language.specs.Templates.{spelled_long}
use Rattle.tow_print.proofs.printer.long_forms.long_template.Given as goal

abbrev pub invariant-loop-at : goal.invariant-loop-at
invariant-loop-at l = record {
  within : l.at ≤ length l.template;
  none_behind : spelled_long (drop l.at l.template) ≡ None;
}

abbrev pub decreases-loop-at : goal.decreases-loop-at
decreases-loop-at l = l.at
