use Rattle.std.proofs.Common.{rules}
use Rattle.tow_model.specs.declared.predicate.Predicate.{the_lemmas}
use Rattle.tow_pred.proofs.Among.{among_negated, among_both_left, among_both_right, among_either_left, among_either_right}
use Rattle.tow_pred.proofs.Memories.{plain_both_right, plain_either_right}
use Rattle.tow_pred.proofs.predicates.+holds.Goals as goal

pub holds-requires : goal.holds-requires
holds-requires t c =
    (search (rules, the_lemmas), (c.requires.dated, rw c.get.ensures (among_negated _ _ (rw c.in-Not.is at c.requires.among))))

pub holds-requires-in-And : goal.holds-requires-in-And
holds-requires-in-And t c =
    (search (rules, the_lemmas), (c.requires.dated, rw c.get-in-And.ensures (among_both_left _ _ _ (rw c.in-And.is at c.requires.among))))

pub holds-requires-then-branch : goal.holds-requires-then-branch
holds-requires-then-branch t c = (
  search (rules, the_lemmas),
  (
    c.requires.dated,
    rw (c.get-then-branch.ensures, c.in_ok-holds-in-And.ensures.scratch) (among_both_right _ _ _ (rw c.in-And.is at c.requires.among)),
  ),
)

pub holds-requires-in-Or : goal.holds-requires-in-Or
holds-requires-in-Or t c =
    (search (rules, the_lemmas), (c.requires.dated, rw c.get-in-Or.ensures (among_either_left _ _ _ (rw c.in-Or.is at c.requires.among))))

pub holds-requires-else-branch-2 : goal.holds-requires-else-branch-2
holds-requires-else-branch-2 t c = (
  search (rules, the_lemmas),
  (
    c.requires.dated,
    rw (c.get-else-branch-2.ensures, c.in_ok-holds-in-Or.ensures.scratch) (among_either_right _ _ _ (rw c.in-Or.is at c.requires.among)),
  ),
)

pub returns-then-branch-clause-plain : goal.returns-then-branch-clause-plain
returns-then-branch-clause-plain t c is =
    c.holds-then-branch.ensures.plain (rw c.get-then-branch.ensures (plain_both_right _ _ (rw c.in-And.is at is)))

pub returns-else-branch-2-clause-plain : goal.returns-else-branch-2-clause-plain
returns-else-branch-2-clause-plain t c is =
    c.holds-else-branch-2.ensures.plain (rw c.get-else-branch-2.ensures (plain_either_right _ _ (rw c.in-Or.is at is)))
