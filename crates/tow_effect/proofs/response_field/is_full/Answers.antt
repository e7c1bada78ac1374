use Rattle.std.proofs.Common.{◌∷◌, [], arith, not, refl, length-append}
use Rattle.std.proofs.lemmas.Bool.Decides.{nat_tests}
use Rattle.std.proofs.lemmas.List.Filters.{length-filter_both}
use Rattle.tow_model.specs.Fields.{field, is_named, without}
use Rattle.tow_effect.proofs.response_field.is_full.Goals as goal

pub returns-then-fields-ge-MAX_RESPONSE_FIELDS : goal.returns-then-fields-ge-MAX_RESPONSE_FIELDS
returns-then-fields-ge-MAX_RESPONSE_FIELDS c value =
    let both = length-filter_both (is_named c.args.name.now) (λ f. not (is_named c.args.name.now f)) (λ f. refl) c.args.fields.now in
    let one = length-append (without c.args.name.now c.args.fields.now) (field c.args.name.now value ∷ []) in
    let others = c.others_count.ensures in
    let many = c.if-fields-ge-MAX_RESPONSE_FIELDS.true in
    grind (arith, nat_tests, both, one, others, many)

pub returns-else-fields-ge-MAX_RESPONSE_FIELDS : goal.returns-else-fields-ge-MAX_RESPONSE_FIELDS
returns-else-fields-ge-MAX_RESPONSE_FIELDS c value =
    let both = length-filter_both (is_named c.args.name.now) (λ f. not (is_named c.args.name.now f)) (λ f. refl) c.args.fields.now in
    let one = length-append (without c.args.name.now c.args.fields.now) (field c.args.name.now value ∷ []) in
    let few = c.if-fields-ge-MAX_RESPONSE_FIELDS.false in
    grind (arith, nat_tests, both, one, few)
