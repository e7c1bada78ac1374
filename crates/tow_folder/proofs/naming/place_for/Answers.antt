use Rattle.std.proofs.Common.{Less, Equal, Greater, sym, ◌∙◌}
use Rattle.tow_folder.proofs.Placing.{place_step}
use Rattle.tow_folder.proofs.naming.place_for.Goals as goal

pub returns-in-Less-clause-place : goal.returns-in-Less-clause-place
returns-in-Less-clause-place c =
    place_step c.args.text.now c.args.names.now c.names.place c.index-names-place.result c.as_slice.result.now Less
    c.names-test.true c.index-names-place.is c.as_slice.ensures (sym c.in-Less.is ∙ c.cmp.ensures) c.names.invariant

pub returns-in-Equal-clause-place : goal.returns-in-Equal-clause-place
returns-in-Equal-clause-place c =
    place_step c.args.text.now c.args.names.now c.names.place c.index-names-place.result c.as_slice.result.now Equal
    c.names-test.true c.index-names-place.is c.as_slice.ensures (sym c.in-Equal.is ∙ c.cmp.ensures) c.names.invariant

pub names-preserved : goal.names-preserved
names-preserved c =
    place_step c.args.text.now c.args.names.now c.names.place c.index-names-place.result c.as_slice.result.now Greater
    c.names-test.true c.index-names-place.is c.as_slice.ensures (sym c.in-Greater.is ∙ c.cmp.ensures) c.names.invariant
