use Rattle.std.proofs.Common.{◌≡◌, [], ◌∷◌, codes, false, refl, sym, ap, ◌∙◌}
use Rattle.tow_model.specs.Texts.{is_among}
use Rattle.tow_site.proofs.default.answer_by_default.Goals as goal

pub returns-in_ok-set_field-clause-defaults : goal.returns-in_ok-set_field-clause-defaults
returns-in_ok-set_field-clause-defaults c =
    let other : is_among c.args.request.now.method (codes "GET" ∷ codes "HEAD" ∷ []) ≡ false =
    sym (ap (λ method. is_among method (codes "GET" ∷ codes "HEAD" ∷ [])) c.as_slice.ensures) ∙ sym c.is_served.ensures ∙ c.if-is_served.false in
    record { is = λ b. rw (c.answer-else-is_served.ensures, c.in_ok-set_field.ensures.ok, c.in_ok-methods.ensures) (rw other refl) }
