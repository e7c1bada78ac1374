use Rattle.std.proofs.Common.{codes, sym, ap, ◌∙◌}
use Rattle.std.proofs.lemmas.Result.{on_ok_weaker}
use Rattle.tow_model.specs.Fields.{has, set_to}
use Rattle.tow_found.proofs.Typing.{typed_sets}
use Rattle.tow_found.proofs.applying.give_type.Goals as goal

pub returns-clause-ok : goal.returns-clause-ok
returns-clause-ok c =
    let lacks = ap (has (codes "content-type")) (sym c.as_slice.ensures) ∙ sym c.has_field.ensures ∙ c.if-has_field.false in
    on_ok_weaker c.set_field.result
    (λ is. is ∙ ap (λ value. set_to (codes "content-type") value c.args.fields.now) c.in_ok-value.ensures
    ∙ sym (typed_sets c.args.value.now c.args.fields.now lacks)) c.set_field.ensures.ok
