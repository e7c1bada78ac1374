use Rattle.std.proofs.Common.{rules, tests, ◌∙◌, ◌==◌, [], sym, ap, find, if◌then◌else◌}
use Rattle.std.proofs.lemmas.Iterator.Search.{find_from_yields_List}
use Rattle.std.proofs.lemmas.Iterator.Splits.{YieldsList-from_slice_split}
use Rattle.tow_model.specs.Texts.{cut_at}
use Rattle.tow_attr.specs.Finding.{is_cookie}
use Rattle.tow_attr.proofs.cookies.cookie_in.Goals as goal

pub returns : goal.returns
returns c =
    find_from_yields_List (is_cookie c.args.name.now) _ _ c.find.result c.find.ensures.ran
    (YieldsList-from_slice_split _ (λ b. b == 59) c.args.field.now.value (c.split.ensures.rest ∙ c.as_slice.ensures) c.split.ensures.done c.split.ensures.closure (λ x r q k. search (rules, tests)))
    (λ x b q k. search (rules, tests))
    ∙ ap (λ t. find (is_cookie c.args.name.now) (if t then cut_at 59 c.args.field.now.value else [])) (sym (sym c.has_name.ensures ∙ c.if-not-has_name.false))
