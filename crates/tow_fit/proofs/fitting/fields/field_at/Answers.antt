use Rattle.std.proofs.Common.{◌≡◌, ◌∙◌, sym, ap, subst, Err}
use Rattle.tow_language.specs.Fit.{field_at}
use Rattle.tow_attr.proofs.Names.{is_named, is_not_named}
use Rattle.tow_fit.specs.Fitting.{Meets, writable_field}
use Rattle.tow_fit.proofs.Fields.{from_named, field_is}
use Rattle.tow_fit.proofs.fitting.fields.field_at.Goals as goal

pub returns-in-Ok : goal.returns-in-Ok
returns-in-Ok c =
    let place = c.args.place in let text = c.args.text.now in
    let named = is_named text (λ bad. let e = c.in-Ok.ensures.invalid.1 bad in cc) in
    let same : writable_field place c.as_bytes.result.now ≡ field_at place text =
    ap (writable_field place) (c.as_bytes.ensures.value ∙ c.in-Ok.ensures.ok) ∙ sym (field_is place text ∙ ap (from_named place) named) in
    subst (λ k. Meets c.writable_field.result k) same c.writable_field.ensures

pub returns-in-Err-Invalid : goal.returns-in-Err-Invalid
returns-in-Err-Invalid c =
    let place = c.args.place in let text = c.args.text.now in
    field_is place text ∙ ap (from_named place) (is_not_named text (c.in-Err-Invalid.ensures.invalid.0 (ap (λ k. Err k) c.in-Err-Invalid.field-0-is)))
