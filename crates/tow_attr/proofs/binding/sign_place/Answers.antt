use Rattle.std.proofs.Common.{rules, tests, ◌∙◌, ◌==◌, ap, length}
use Rattle.std.specs.Option.{unwrap_or}
use Rattle.std.proofs.lemmas.Iterator.{YieldsList-from_slice}
use Rattle.std.proofs.lemmas.Iterator.Search.{position_from_yields_List}
use Rattle.tow_attr.proofs.Signs.{place_told}
use Rattle.tow_attr.proofs.binding.sign_place.Goals as goal

pub returns : goal.returns
returns c =
    c.unwrap_or.ensures
    ∙ ap (λ o. unwrap_or o (length c.args.text.now)) (position_from_yields_List (λ b. b == 61) _ _ c.position.result c.position.ensures.ran (YieldsList-from_slice c.args.text.now c.iter.ensures.rest) (λ x b q k. search (rules, tests)))
    ∙ place_told 61 c.args.text.now
