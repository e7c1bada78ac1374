use Rattle.std.proofs.Common.{◌≡◌, ◌==◌, ◌∙◌, ◌-◌, sym, ap, arith, rules, false, length, slice_index, slice_range, if◌then◌else◌, option_map}
use Rattle.std.proofs.lemmas.Result.{MatchResult-weaker}
use Rattle.tow_model.specs.declared.attribute.Piece.TheVariants.{Value}
use Rattle.tow_model.specs.declared.attribute.Attribute.TheVariants.{Context}
use Rattle.tow_language.specs.Templates.{any_named, in_percent_brace}
use Rattle.tow_attr.proofs.Braced.{meaning, longer_spelled}
use Rattle.tow_attr.proofs.attribute.read_attribute.Goals as goal

pub returns-then-spelled-eq36 : goal.returns-then-spelled-eq36
returns-then-spelled-eq36 c =
    let spelled = c.args.spelled.now in let inside = slice_range spelled 2 (length spelled - 1) in
    MatchResult-weaker c.context.result c.context.ensures
    (λ found e. longer_spelled spelled (omega arith) ∙ ap (λ k. option_map Value k) (ap (λ k. meaning k inside) c.if-spelled-eq36.true ∙ sym e)) (λ x t. t)

pub returns-else-spelled-eq36 : goal.returns-else-spelled-eq36
returns-else-spelled-eq36 c =
    let spelled = c.args.spelled.now in let inside = slice_range spelled 2 (length spelled - 1) in
    let percent : (slice_index spelled 0 == 36) ≡ false = search rules in
    MatchResult-weaker c.in_percent_brace.result c.in_percent_brace.ensures
    (λ found e.
    longer_spelled spelled (omega arith)
    ∙ ap (λ k. option_map Value k) (ap (λ t. if t then option_map Context (any_named inside) else in_percent_brace inside) percent ∙ sym e)) (λ x t. t)
