use Rattle.std.proofs.Common.{rules, tests, sym, ◌∙◌, ◌==◌, drop, length, suc}
use Rattle.std.proofs.lemmas.List.{nil_from_length}
use Rattle.tow_model.specs.Texts.{cut_at}
use Rattle.tow_model.specs.Paths.{slash}
use Rattle.tow_path.proofs.Empty.{is_nothing, is_something}
use Rattle.tow_path.proofs.Pieces.{all_came, segment_comes}
use Rattle.tow_path.proofs.Templates.{too_long, not_met, all_met, too_short}
use Rattle.tow_path.proofs.template.bindings.Goals as goal

pub returns-in_default : goal.returns-in_default
returns-in_default c =
    let value = c.args.value.now in
    let comes = segment_comes value c.split-segment-items.result c.into_iter-segment-iterator.result c.split-segment-items.ensures.rest c.split-segment-items.ensures.done c.split-segment-items.ensures.closure
    c.into_iter-segment-iterator.ensures.into_iter_gives c.loop-segment.yielded c.loop-segment.segment-iterator c.loop-segment.yielded_by c.next.result c.next.new.self c.in-Some.segment c.in-Some.is c.next.ensures.steps (λ x r q k. search (rules, tests)) in
    too_long c.args.parts.now c.loop-segment.yielded c.loop-segment.left.now c.loop-segment.fields c.in-Some.segment.now (drop (suc (length c.loop-segment.yielded)) (cut_at slash value)) (cut_at slash value) c.loop-segment.invariant.goes (nil_from_length c.loop-segment.left.now c.in_default.ensures.cases) comes

pub returns-then-not-meets : goal.returns-then-not-meets
returns-then-not-meets c =
    let value = c.args.value.now in
    let comes = segment_comes value c.split-segment-items.result c.into_iter-segment-iterator.result c.split-segment-items.ensures.rest c.split-segment-items.ensures.done c.split-segment-items.ensures.closure
    c.into_iter-segment-iterator.ensures.into_iter_gives c.loop-segment.yielded c.loop-segment.segment-iterator c.loop-segment.yielded_by c.next.result c.next.new.self c.in-Some.segment c.in-Some.is c.next.ensures.steps (λ x r q k. search (rules, tests)) in
    not_met c.args.parts.now c.loop-segment.yielded c.loop-segment.left.now c.loop-segment.fields c.in-Some-split_first.part.now c.in-Some-split_first.more.now c.in-Some.segment.now
    (drop (suc (length c.loop-segment.yielded)) (cut_at slash value)) (cut_at slash value) c.loop-segment.invariant.goes (search rules) (sym c.meets.ensures ∙ c.if-not-meets.true) comes

pub returns-then-is_empty : goal.returns-then-is_empty
returns-then-is_empty c =
    let value = c.args.value.now in
    let all = all_came (λ b. b == slash) value c.split-segment-items.result c.into_iter-segment-iterator.result c.split-segment-items.ensures.rest c.split-segment-items.ensures.done c.split-segment-items.ensures.closure
    c.into_iter-segment-iterator.ensures.into_iter_gives c.loop-segment.yielded c.loop-segment.segment-iterator c.loop-segment.yielded_by c.next.result c.next.new.self c.in-None.is c.next.ensures.steps (λ x r q k. search (rules, tests)) in
    all_met c.args.parts.now c.loop-segment.yielded c.loop-segment.left.now c.loop-segment.fields (cut_at slash value) c.loop-segment.invariant.goes all
    (is_nothing c.loop-segment.left.now c.is_empty.result c.is_empty.ensures c.if-is_empty.true)

pub returns-else-is_empty : goal.returns-else-is_empty
returns-else-is_empty c =
    let value = c.args.value.now in
    let all = all_came (λ b. b == slash) value c.split-segment-items.result c.into_iter-segment-iterator.result c.split-segment-items.ensures.rest c.split-segment-items.ensures.done c.split-segment-items.ensures.closure
    c.into_iter-segment-iterator.ensures.into_iter_gives c.loop-segment.yielded c.loop-segment.segment-iterator c.loop-segment.yielded_by c.next.result c.next.new.self c.in-None.is c.next.ensures.steps (λ x r q k. search (rules, tests)) in
    too_short c.args.parts.now c.loop-segment.yielded c.loop-segment.left.now c.loop-segment.fields (cut_at slash value) c.loop-segment.invariant.goes all
    (is_something c.loop-segment.left.now c.is_empty.result c.is_empty.ensures c.if-is_empty.false)
