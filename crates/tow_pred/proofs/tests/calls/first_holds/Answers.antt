use Rattle.std.proofs.Common.{sym, subst}
use Rattle.tow_semantics.specs.Predicates.{AreAmong}
use Rattle.tow_pred.specs.Numbering.{statement_patterns}
use Rattle.tow_pred.proofs.Trees.{among_at_first}
use Rattle.tow_pred.proofs.tests.calls.first_holds.Goals as goal

pub asked-requires : goal.asked-requires
asked-requires c =
    let first = c.in-Some.first.now in
    subst (AreAmong (statement_patterns first)) (sym c.in_ok-scratch.ensures)
    (among_at_first c.in_ok-tests.tests c.args.tree.now first (sym c.in-Some.ensures.value) c.in_ok-tests.ensures.among)
