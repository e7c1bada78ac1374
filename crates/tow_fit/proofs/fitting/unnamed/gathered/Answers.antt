use Rattle.std.proofs.Common.{◌≡◌, ◌∙◌, ◌++◌, ◌∷◌, [], length, map, option_map, sym, ap, arith, Some}
use Rattle.std.proofs.lemmas.List.{append-nil, map-append}
use Rattle.std.specs.Vec.Iter.{into_iter_items}
use Rattle.tow_language.specs.declared.kind.Kind.TheVariants.{BadParameter}
use Rattle.tow_language.specs.Fit.{text_of, wanted}
use Rattle.tow_language.specs.Raw.{array}
use Rattle.tow_language.specs.Shapes.{all_some}
use Rattle.tow_fit.specs.Calls.{value_of, written_of}
use Rattle.tow_fit.proofs.Parameters.{gathered_more, gathered_none, nothing_left}
use Rattle.tow_fit.proofs.fitting.unnamed.gathered.Goals as goal

pub loop-value-init : goal.loop-value-init
loop-value-init c =
    let all = into_iter_items c.into_iter-value-iterator.result in
    let begun : all ≡ c.args.values.items = c.into_iter-value-iterator.ensures.into_iter_gives.0 in (
      ap (λ vs. all_some (map text_of (map value_of vs))) (sym begun) ∙ gathered_none (all_some (map text_of (map value_of all)))
          ∙ ap (λ t. option_map (λ more. map written_of t ++ more) (all_some (map text_of (map value_of all)))) (sym c.new-texts.ensures),
      c.into_iter-value-iterator.ensures.into_iter_gives.1 ∙ c.args.values.ok.0 ∙ sym (ap length begun),
    )

pub returns-in-Array : goal.returns-in-Array
returns-in-Array c =
    let at = c.loop-value in
    let next : into_iter_items at.value-iterator ≡ c.in-Some.value ∷ into_iter_items c.next.new.self = c.in-Some.ensures.steps.0 in
    ap (λ o. wanted (option_map (array c.args.place) o) BadParameter c.args.place)
    (at.invariant.0
    ∙ ap (λ vs. option_map (λ more. map written_of at.texts ++ more) (all_some (map text_of (map value_of vs)))) next
    ∙ ap (λ v. option_map (λ more. map written_of at.texts ++ more) (all_some (text_of (value_of v) ∷ map text_of (map value_of (into_iter_items c.next.new.self))))) c.in-Array.is)

pub loop-value-preserved : goal.loop-value-preserved
loop-value-preserved c =
    let at = c.loop-value in
    let rest = all_some (map text_of (map value_of (into_iter_items c.next.new.self))) in
    let next : into_iter_items at.value-iterator ≡ c.in-Some.value ∷ into_iter_items c.next.new.self = c.in-Some.ensures.steps.0 in (
      at.invariant.0
          ∙ ap (λ vs. option_map (λ more. map written_of at.texts ++ more) (all_some (map text_of (map value_of vs)))) next
          ∙ ap (λ v. option_map (λ more. map written_of at.texts ++ more) (all_some (text_of (value_of v) ∷ map text_of (map value_of (into_iter_items c.next.new.self))))) c.in-One.is
          ∙ gathered_more (map written_of at.texts) (written_of c.in-One.text) rest
          ∙ ap (λ t. option_map (λ more. t ++ more) rest) (sym (map-append written_of at.texts (c.in-One.text ∷ [])))
          ∙ ap (λ t. option_map (λ more. map written_of t ++ more) rest) (sym c.in_ok-push-in-One.ensures.ok),
      let was = at.invariant.1 in
          let gone = c.in-Some.ensures.steps.1 in
          let short = ap length next in
          omega arith,
    )

pub returns : goal.returns
returns c =
    let at = c.loop-value in
    let empty : into_iter_items at.value-iterator ≡ [] = nothing_left (into_iter_items at.value-iterator) (sym at.invariant.1 ∙ c.in-None.ensures.steps.0) in
    ap (λ o. wanted (option_map (array c.args.place) o) BadParameter c.args.place)
    (at.invariant.0 ∙ ap (λ vs. option_map (λ more. map written_of at.texts ++ more) (all_some (map text_of (map value_of vs)))) empty
    ∙ ap (λ t. Some t) (append-nil (map written_of at.texts)))
