use Rattle.std.proofs.Common.{rules, ◌≡◌, All, map, sym, subst}
use Rattle.tow_pattern.specs.Patterns.{IsGoodPattern}
use Rattle.tow_semantics.specs.Predicates.{AreAmong}
use Rattle.tow_pred.specs.Numbering.{tree_patterns}
use Rattle.tow_pred.proofs.Trees.{numbered_among}
use Rattle.tow_pred.proofs.building.build.Goals as goal

pub returns-clause-among : goal.returns-clause-among
returns-clause-among g c =
    let tests = tree_patterns c.args.tree.now in
    let same : c.of_list.result ≡ map (λ t. t.1) tests = search rules in
    subst (λ ps. AreAmong tests ps) (sym same) (numbered_among tests c.requires.numbered)

pub returns-clause-good : goal.returns-clause-good
returns-clause-good g c = subst (All IsGoodPattern) (sym c.of_list.ensures) c.in_ok-patterns.ensures.good
