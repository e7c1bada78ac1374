use Rattle.std.proofs.Common.{◌∙◌, ap, sym, rules, tests, map}
use Rattle.tow_fit.proofs.Cutting.{piece_comes, all_came}
use Rattle.tow_fit.proofs.Segments.{all_some_all, all_some_none, each_segment}
use Rattle.tow_language.specs.Shapes.{all_some, segment_of}
use Rattle.tow_model.specs.Texts.{cut_at}
use Rattle.tow_fit.proofs.fitting.segments.all_segments.Goals as goal

pub returns-in-None-2 : goal.returns-in-None-2
returns-in-None-2 c =
    let next = piece_comes c.args.path.now c.split-text-items.result c.into_iter-text-iterator.result c.split-text-items.ensures.rest c.split-text-items.ensures.done c.split-text-items.ensures.closure
    c.into_iter-text-iterator.ensures.into_iter_gives c.loop-text.yielded c.loop-text.text-iterator c.loop-text.yielded_by c.next.result c.next.new.self c.in-Some.text c.in-Some.is c.next.ensures.steps (λ x r q k. search (rules, tests)) in
    sym (all_some_none segment_of (cut_at 47 c.args.path.now) _ c.in-Some.text.now next.0 (ap segment_of (sym next.1) ∙ sym c.in_ok-part.ensures ∙ c.in-None-2.is))

pub returns : goal.returns
returns c =
    let all = all_came c.args.path.now c.split-text-items.result c.into_iter-text-iterator.result c.split-text-items.ensures.rest c.split-text-items.ensures.done c.split-text-items.ensures.closure
    c.into_iter-text-iterator.ensures.into_iter_gives c.loop-text.yielded c.loop-text.text-iterator c.loop-text.yielded_by c.next.result c.next.new.self c.in-None.is c.next.ensures.steps (λ x r q k. search (rules, tests)) in
    sym (ap (λ pieces. all_some (map segment_of pieces)) (sym all) ∙ ap all_some (each_segment c.loop-text.yielded ∙ c.loop-text.invariant) ∙ all_some_all c.loop-text.parts)
