use Rattle.std.proofs.Common.{rules}
use Rattle.std.proofs.lemmas.List.Sorted.{IsPartitionPoint-from_clause}
use Rattle.tow_matcher.specs.Keys.{shown, stands_before}
use Rattle.tow_matcher.proofs.Tables.{parted}
use Rattle.tow_matcher.proofs.table.place_of.Goals as goal

pub returns : goal.returns
returns c =
    IsPartitionPoint-from_clause (stands_before c.args.rows.now (shown c.args.key.now)) _ _ c.partition_point.ensures.partitioned
    (parted c.args.rows.now c.args.order.now c.requires (shown c.args.key.now)) (λ a r q k. search rules)
