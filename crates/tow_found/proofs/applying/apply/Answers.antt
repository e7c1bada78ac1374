use Rattle.std.proofs.Common.{codes, sym, ap, ◌∙◌}
use Rattle.tow_model.specs.Fields.{set_to}
use Rattle.tow_semantics.specs.Steps.{Stop, answered}
use Rattle.tow_found.specs.Applied.{with_fields}
use Rattle.tow_found.proofs.Methods.{bad_method}
use Rattle.tow_found.proofs.applying.apply.Goals as goal

pub returns-in_ok-set_field-in-BadMethod-clause-ok : goal.returns-in_ok-set_field-in-BadMethod-clause-ok
returns-in_ok-set_field-in-BadMethod-clause-ok c found is =
    bad_method found c.args.record.now (sym c.in-BadMethod.is ∙ is)
    ∙ ap (λ fields. Stop (answered 405 (with_fields fields c.args.record.now)))
    (sym (c.in_ok-set_field-in-BadMethod.ensures.ok ∙ ap (λ value. set_to (codes "allow") value c.args.record.now.fields) c.in_ok-methods-in-BadMethod.ensures))
