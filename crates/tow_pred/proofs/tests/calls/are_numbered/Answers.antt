use Rattle.std.proofs.Common.{◌≡◌, ℕ, ◌+◌, [], ◌∷◌, ◌++◌, ap₂, sym, ◌∙◌, arith}
use Rattle.std.proofs.lemmas.List.{map-id}
use Rattle.std.proofs.lemmas.List.FromFn.{map-range_with_len_more}
use Rattle.std.specs.List.{range_with_len}
use Rattle.tow_model.specs.Texts.{Text}
use Rattle.tow_pred.proofs.Faulting.{told_more}
use Rattle.tow_pred.proofs.tests.calls.are_numbered.Goals as goal

pub loop-number-preserved : goal.loop-number-preserved
loop-number-preserved c =
    let number = c.loop-number.number in
    let more : range_with_len 0 (number + 1) ≡ range_with_len 0 number ++ number ∷ [] =
    sym (map-id _) ∙ map-range_with_len_more (λ n. n) 0 number number (omega arith) ∙ ap₂ (λ front last. front ++ last ∷ []) (map-id _) (omega arith) in
    told_more (λ (t : ℕ × Text). t.0) c.args.found.now number _ c.loop-number-test.true
    ∙ ap₂ (λ front last. front ++ last ∷ []) c.loop-number.invariant c.if-found-number.false ∙ sym more
