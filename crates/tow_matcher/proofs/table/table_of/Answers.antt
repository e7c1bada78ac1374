use Rattle.std.proofs.Common.{rules}
use Rattle.tow_matcher.specs.Keys.{rank_at}
use Rattle.tow_matcher.proofs.Ranks.{rank_total}
use Rattle.tow_matcher.proofs.Tables.{AreNumbers-permutation, IsSortedBy-from_sort}
use Rattle.tow_matcher.proofs.table.table_of.Goals as goal

pub returns : goal.returns
returns c = record {
  numbers = AreNumbers-permutation _ _ _ c.sort_unstable_by.ensures.permutation c.in_ok-order.ensures;
  sorted = IsSortedBy-from_sort rank_total (rank_at c.args.rows.now) _ c.sort_unstable_by.ensures.sorted (λ a r f k. search rules);
}
