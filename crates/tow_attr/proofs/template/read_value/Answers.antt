use Rattle.std.proofs.Common.{◌≡◌, ◌≢◌, ◌+◌, ◌<◌, ◌∙◌, sym, ap, ap₂, arith, length, get_or, slice_range, Some, option_map}
use Rattle.tow_model.specs.declared.attribute.Piece.TheVariants.{Value}
use Rattle.tow_language.specs.Templates.{piece_of}
use Rattle.tow_attr.specs.Reading.{ahead, rest_from}
use Rattle.tow_attr.proofs.Places.{percent_read, value_read}
use Rattle.tow_attr.proofs.template.read_value.Goals as goal

pub returns-then-text-from-eq37-clause-ok : goal.returns-then-text-from-eq37-clause-ok
returns-then-text-from-eq37-clause-ok c =
    let text = c.args.text.now in let from = c.args.from in let to = c.in-Some.to in let draft = c.args.draft.now in
    let forward = c.in-Some.ensures.forward in let within = c.in-Some.ensures.within in
    let short : from + 1 < length text = omega (arith, forward, within) in
    let percent : get_or text (from + 1) 0 ≡ 37 = c.if-text-from-eq37.true in
    let other : get_or text (from + 1) 0 ≢ 123 = λ e. omega (arith, e, percent) in
    percent_read text from to draft.pieces draft.literal.items short (c.in-Some.ensures.letter other) percent c.in-Some.ensures.whole
    ∙ ap₂ (λ p b. ahead p b (rest_from text to)) (sym c.in_ok-put_bytes.ensures.pieces) (sym c.in_ok-put_bytes.ensures.literal)

pub returns-clause-ok : goal.returns-clause-ok
returns-clause-ok c =
    let text = c.args.text.now in let from = c.args.from in let to = c.in-Some.to in let draft = c.args.draft.now in
    let piece : piece_of (slice_range text from to) ≡ Some (Value c.in-Some-2.attribute) = c.in_ok-attribute.ensures ∙ ap (λ k. option_map Value k) c.in-Some-2.is in
    value_read text from to draft.pieces draft.literal.items c.in-Some-2.attribute piece c.in-Some.ensures.whole
    ∙ ap₂ (λ p b. ahead p b (rest_from text to)) (sym c.in_ok-put_value-in-Some-2.ensures.pieces) (sym c.in_ok-put_value-in-Some-2.ensures.literal)
