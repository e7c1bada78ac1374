use Rattle.std.proofs.Common.{rules, tests, List, ◌++◌, ◌==◌, ap, sym, subst, ◌∙◌, map}
use Rattle.tow_model.specs.Texts.{Text}
use Rattle.tow_path.proofs.Pieces.{all_came}
use Rattle.tow_request.specs.Refusals.{Sums}
use Rattle.tow_request.proofs.Listing.{listed, of_value, one_grown}
use Rattle.tow_request.proofs.codings.with_value.Goals as goal

pub loop-piece-preserved : goal.loop-piece-preserved
loop-piece-preserved c = record {
  can_next = search rules;
  is_finite = tt;
  sums = λ before sums.
      subst (λ (l : List Text). Sums l c.with_element-longer.result) (one_grown before c.loop-piece.yielded c.in-Some.piece c.trimmed.result.now c.trimmed.ensures)
      (c.with_element-longer.ensures (before ++ listed (map (λ x. x.now) c.loop-piece.yielded)) (c.loop-piece.invariant.sums before sums));
}

pub returns : goal.returns
returns c = λ before sums.
    let value = c.args.value.now in
    let all = all_came (λ b. b == 44) value c.split-piece-items.result c.into_iter-piece-iterator.result c.split-piece-items.ensures.rest c.split-piece-items.ensures.done c.split-piece-items.ensures.closure
    c.into_iter-piece-iterator.ensures.into_iter_gives c.loop-piece.yielded c.loop-piece.piece-iterator c.loop-piece.yielded_by c.next.result c.next.new.self c.in-None.is c.next.ensures.steps (λ x r q k. search (rules, tests)) in
    subst (λ (l : List Text). Sums l c.loop-piece.longer) (ap (λ k. before ++ k) (ap listed all ∙ sym (of_value value))) (c.loop-piece.invariant.sums before sums)
