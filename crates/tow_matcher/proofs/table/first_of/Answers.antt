use Rattle.std.proofs.Common.{true≢false, refl, sym}
use Rattle.tow_matcher.proofs.Tables.{ended, found_row, missed, got, got_none}
use Rattle.tow_matcher.proofs.table.first_of.Goals as goal

pub returns-then-is_row_of : goal.returns-then-is_row_of
returns-then-is_row_of c =
    let found = c.in-Some.ensures.lookup.3 in
    found_row c.args.rows.now c.args.order.now c.requires c.args.prefix c.args.path.now c.args.from c.place_of.result c.place_of.ensures
    c.in-Some.number.now (got c.args.order.now c.place_of.result c.in-Some.number.now found.0 found.1) (c.if-is_row_of.ensures.0 refl)

pub returns-else-is_row_of : goal.returns-else-is_row_of
returns-else-is_row_of c =
    let found = c.in-Some.ensures.lookup.3 in
    missed c.args.rows.now c.args.order.now c.requires c.args.prefix c.args.path.now c.args.from c.place_of.result c.place_of.ensures
    c.in-Some.number.now (got c.args.order.now c.place_of.result c.in-Some.number.now found.0 found.1)
    (λ h. true≢false (sym (c.if-is_row_of.ensures.1 h)))

pub returns-in-None : goal.returns-in-None
returns-in-None c =
    ended c.args.rows.now c.args.order.now c.requires c.args.prefix c.args.path.now c.args.from c.place_of.result c.place_of.ensures
    (got_none c.args.order.now c.place_of.result c.in-None.ensures.lookup.3)
