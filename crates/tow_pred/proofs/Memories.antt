-- Where a predicate is asked without memory, so are its parts.
use Rattle.std.proofs.Common.{Bool, IsTrue, sym, ap, ◌∙◌}
use Rattle.std.proofs.lemmas.Bool.{and_parts}
use Rattle.tow_model.specs.declared.predicate.Predicate.{Predicate, fold-Predicate, fold-roll-Predicate}
use Rattle.tow_model.specs.declared.predicate.Predicate.TheVariants as p
use Rattle.tow_model.specs.declared.predicate.Predicate.TheOpen as pf
use Rattle.tow_pred.specs.Memory.{is_plain, plain_by}

pub plain_both_right : (a b : Predicate) → IsTrue (is_plain (p.And a b)) → IsTrue (is_plain b)
plain_both_right a b is =
    (and_parts (is_plain a) (is_plain b)
    (sym (ap (fold-Predicate Bool plain_by) (sym (p.rolls-And a b)) ∙ fold-roll-Predicate Bool plain_by (pf.And a b)) ∙ is)).1

pub plain_either_right : (a b : Predicate) → IsTrue (is_plain (p.Or a b)) → IsTrue (is_plain b)
plain_either_right a b is =
    (and_parts (is_plain a) (is_plain b)
    (sym (ap (fold-Predicate Bool plain_by) (sym (p.rolls-Or a b)) ∙ fold-roll-Predicate Bool plain_by (pf.Or a b)) ∙ is)).1
