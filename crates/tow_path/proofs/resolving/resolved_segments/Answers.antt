use Rattle.std.proofs.Common.{rules, tests, ap, ◌∙◌, ◌==◌, map}
use Rattle.tow_model.specs.Paths.{slash}
use Rattle.tow_path.proofs.Outputs.{PutOut, dots_last, name_last, output_grows, left_grows}
use Rattle.tow_path.proofs.Pieces.{all_came}
use Rattle.tow_path.proofs.resolving.resolved_segments.Goals as goal
use Rattle.tow_path.proofs.resolving.resolved_segments.Goals.{then-ends_in_dots+in_ok-push, else-ends_in_dots}

pub loop-segment-preserved : goal.loop-segment-preserved
loop-segment-preserved c = record {
  can_next = search rules;
  is_finite = tt;
  output = output_grows c.loop-segment.yielded c.in-Some.segment c.loop-segment.output.items c.put_segment.new.output.items c.loop-segment.invariant.output c.in_ok-put_segment.ensures;
  left = left_grows c.loop-segment.yielded c.in-Some.segment c.is_dot_segment-ends_in_dots.result c.is_dot_segment-ends_in_dots.ensures;
}

pub returns : goal.returns
returns c =
    let path = c.args.path.now in let kept = c.loop-segment.output.items in
    let all = all_came (λ b. b == slash) path c.split-segment-items.result c.into_iter-segment-iterator.result c.split-segment-items.ensures.rest c.split-segment-items.ensures.done c.split-segment-items.ensures.closure
    c.into_iter-segment-iterator.ensures.into_iter_gives c.loop-segment.yielded c.loop-segment.segment-iterator c.loop-segment.yielded_by c.next.result c.next.new.self c.in-None.is c.next.ensures.steps (λ x r q k. search (rules, tests)) in
    let put : PutOut path kept c.loop-segment.ends_in_dots (map (λ x. x.now) c.loop-segment.yielded) = record { output = c.loop-segment.invariant.output; left = c.loop-segment.invariant.left; all = all } in
    elim c.if-ends_in_dots.branch [
      | then-ends_in_dots+in_ok-push w ↦ dots_last path kept _ c.loop-segment.ends_in_dots _ put w.if-ends_in_dots.true (ap (λ k. k.items) w.output-is ∙ w.in_ok-push.ensures.items)
      | else-ends_in_dots w ↦ name_last path kept _ c.loop-segment.ends_in_dots _ put w.if-ends_in_dots.false (ap (λ k. k.items) w.output-is)
    ]
