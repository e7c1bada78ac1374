use Rattle.std.proofs.Common.{◌≡◌, ◌∙◌, [], ◌∷◌, ◌++◌, ap, ap₂, sym, decimal, arith}
use Rattle.std.proofs.lemmas.List.FromFn.{map-range_with_len_more}
use Rattle.regex.specs.Locations.{location}
use Rattle.regex.specs.Replace.{bytes_of}
use Rattle.tow_model.specs.Fields.{field}
use Rattle.tow_pred.proofs.search.groups.Goals as goal

pub loop-number-preserved : goal.loop-number-preserved
loop-number-preserved c =
    let value = c.args.value.now in let number = c.loop-number.number in
    let text : c.located-text.result.now ≡ bytes_of value (location c.args.locations.now number) = c.located-text.ensures ∙ ap (bytes_of value) c.get.ensures in
    c.in_ok-push.ensures.ok
    ∙ ap₂ (λ front last. front ++ last ∷ []) c.loop-number.invariant (c.in_ok-group.ensures ∙ ap (field (decimal number)) text)
    ∙ sym (map-range_with_len_more (λ n. field (decimal n) (bytes_of value (location c.args.locations.now n))) 0 number number (omega arith))
