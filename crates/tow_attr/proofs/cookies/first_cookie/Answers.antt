use Rattle.std.proofs.Common.{◌≡◌, ◌∙◌, ◌+◌, None, sym, ap, arith, drop, find, flat_map}
use Rattle.std.specs.Option.{option_copied, option_or}
use Rattle.tow_attr.specs.Finding.{cookie_pieces, is_cookie}
use Rattle.tow_attr.proofs.Found.{find_on}
use Rattle.tow_attr.proofs.cookies.first_cookie.Goals as goal

pub returns-in-Some : goal.returns-in-Some
returns-in-Some c =
    let behind = find (is_cookie c.args.name.now) (flat_map cookie_pieces (drop (c.loop-field.field-index + 1) c.args.fields.now)) in
    sym (
    c.loop-field.invariant
    ∙ find_on (is_cookie c.args.name.now) cookie_pieces c.args.fields.now c.loop-field.field-index c.field-item.result (omega arith) c.field-item.is
    ∙ ap (λ o. option_or o behind) (sym c.in-Some.ensures)
    )

pub loop-field-preserved : goal.loop-field-preserved
loop-field-preserved c =
    let behind = find (is_cookie c.args.name.now) (flat_map cookie_pieces (drop (c.loop-field.field-index + 1) c.args.fields.now)) in
    let none : None ≡ find (is_cookie c.args.name.now) (cookie_pieces c.field-item.result) = ap option_copied (sym c.in_default.is) ∙ c.cookie_in.ensures in
    c.loop-field.invariant
    ∙ find_on (is_cookie c.args.name.now) cookie_pieces c.args.fields.now c.loop-field.field-index c.field-item.result (omega arith) c.field-item.is
    ∙ ap (λ o. option_or o behind) (sym none)
