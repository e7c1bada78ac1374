use Rattle.std.proofs.Common.{◌≡◌, ◌<◌, sym, rules, length}
use Rattle.tow_fit.proofs.Segments.{none_before, brace_before, other_before}
use Rattle.tow_fit.proofs.fitting.segments.before_brace.Goals as goal
use Rattle.tow_fit.proofs.fitting.segments.before_brace.Goals.{then-is_empty-via-then-is_empty, then-is_empty-via-else-is_empty+then-text-ne125}

pub returns-then-is_empty : goal.returns-then-is_empty
returns-then-is_empty c =
    let text = c.args.text.now in
    elim c.then-is_empty.branch [
      | then-is_empty-via-then-is_empty w ↦ let none : length text ≡ 0 = search rules in sym (none_before text none)
      | then-is_empty-via-else-is_empty+then-text-ne125 w ↦ let some : 0 < length text = search rules in sym (other_before text some w.if-text-ne125.true)
    ]

pub returns : goal.returns
returns c = let some : 0 < length c.args.text.now = search rules in sym (brace_before c.args.text.now some c.if-text-ne125.false)
