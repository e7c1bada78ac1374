use Rattle.std.proofs.Common.{sym, subst}
use Rattle.tow_model.specs.declared.record.Record.{Record}
use Rattle.tow_site.specs.Decided.{Decides}
use Rattle.tow_pred.specs.Numbering.{tree_patterns}
use Rattle.tow_pred.proofs.Trees.{numbered_among}
use Rattle.tow_site.proofs.Deciding.{decides_text, decides_default}
use Rattle.tow_site.proofs.outcomes.outcome.Goals as goal
use Rattle.tow_site.proofs.outcomes.outcome.Goals.{in-Text, in-DefaultHandler+in_ok-answer_by_default-in-DefaultHandler}

pub returns-clause-decides : goal.returns-clause-decides
returns-clause-decides c =
    let led = rw (c.as_slice-tree.ensures, c.tree.ensures.tree, c.in_ok-record.ensures) at c.in_ok-walk_again.ensures.leads in
    elim c.match-branch-3.branch [
      | in-Text w ↦
          subst (λ (z : Record). Decides c.args.site.now.tree c.args.request.now c.args.moment z) (sym w.record-is)
          (decides_text _ _ _ _ (rw w.in-Text.is at led))
      | in-DefaultHandler+in_ok-answer_by_default-in-DefaultHandler w ↦
          subst (λ (z : Record). Decides c.args.site.now.tree c.args.request.now c.args.moment z) (sym w.record-is)
          (decides_default _ _ _ _ _ (rw w.in-DefaultHandler.is at led) w.in_ok-answer_by_default-in-DefaultHandler.ensures.defaults)
    ]

pub walk_again-requires-clause-among : goal.walk_again-requires-clause-among
walk_again-requires-clause-among c =
    rw (c.as_slice-tree.ensures, c.tree.ensures.tree, c.requires.scratch) (numbered_among (tree_patterns c.args.site.now.tree) c.tree.ensures.numbered)
