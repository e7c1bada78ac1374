use Rattle.std.proofs.Common.{◌∙◌, sym, ap, Some, Err}
use Rattle.tow_attr.proofs.Names.{is_named, is_not_named}
use Rattle.tow_attr.proofs.attribute.field_named.Goals as goal

pub returns-in_ok-from_slice-in-Ok : goal.returns-in_ok-from_slice-in-Ok
returns-in_ok-from_slice-in-Ok c =
    let lower = c.in_ok-from_slice-in-Ok.ensures ∙ c.as_bytes.ensures.value ∙ c.in-Ok.ensures.ok in
    ap (λ k. Some k) lower ∙ sym (is_named c.args.name.now (λ bad. let e = c.in-Ok.ensures.invalid.1 bad in cc))

pub returns-in-Err-Invalid : goal.returns-in-Err-Invalid
returns-in-Err-Invalid c = sym (is_not_named c.args.name.now (c.in-Err-Invalid.ensures.invalid.0 (ap (λ k. Err k) c.in-Err-Invalid.field-0-is)))
