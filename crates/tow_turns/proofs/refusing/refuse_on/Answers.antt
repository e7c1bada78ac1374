use Rattle.std.proofs.Common.{◌≡◌, ◌∙◌, ℕ, ◌+◌, ◌<◌, List, ◌++◌, take, drop, length, sym, subst, eqb-true, arith}
use Rattle.std.proofs.lemmas.List.{drop-drop, nil_from_length}
use Rattle.circular_buffer.specs.Buffer.{buffer}
use Rattle.tow_turns.specs.Data.{base_of}
use Rattle.tow_turns.proofs.Refusals.{refusal_ends, refusal_is_done, refusal_put, refusal_waits, some_to_write}
use Rattle.tow_turns.proofs.refusing.refuse_on.Goals as goal
use Rattle.tow_turns.proofs.refusing.refuse_on.Goals.{else-is_empty-via-then-is_empty+else-len-eq0, else-is_empty-via-else-is_empty}

pub returns-then-len-eq0 : goal.returns-then-len-eq0
returns-then-len-eq0 g c =
    let b = base_of g.L.Link.shows c.args.base.now in
    let none : length c.left_of-left.result.now ≡ 0 = eqb-true _ _ (sym c.is_empty.ensures ∙ c.if-is_empty.true) in
    record {
      steps = λ s. refusal_is_done s b (drop c.args.refusal.put c.args.refusal.text)
          (sym c.left_of-left.ensures.left ∙ nil_from_length _ none) (nil_from_length _ (sym c.len.ensures ∙ c.if-len-eq0.true));
      fits = λ role tree told n n'. refusal_ends role tree told n n' b (drop c.args.refusal.put c.args.refusal.text);
    }

pub returns : goal.returns
returns g c =
    let b = base_of g.L.Link.shows c.args.base.now in
    let output = c.args.base.now.port.output in
    let left = drop c.args.refusal.put c.args.refusal.text in
    let rest = drop (c.args.refusal.put + c.put-count.result) c.args.refusal.text in
    let some : 0 < length c.left_of-left.result.now + length output.items =
    elim c.else-is_empty.branch [
      | else-is_empty-via-then-is_empty+else-len-eq0 w ↦ grind (arith, w.len.ensures, w.if-len-eq0.false)
      | else-is_empty-via-else-is_empty w ↦ grind (arith, c.is_empty.ensures, w.if-is_empty.false)
    ] in
    record {
      steps = λ s. refusal_put s b left rest c.put-count.result c.put-count.new.self
          (subst (λ (l : List ℕ). c.put-count.new.self ≡ buffer (output.items ++ take c.put-count.result l) output.capacity)
          c.left_of-left.ensures.left c.put-count.ensures.after)
          (sym (drop-drop c.put-count.result c.args.refusal.put c.args.refusal.text));
      fits = λ role tree told n n'. refusal_waits role tree told n n' b left rest c.put-count.new.self
          (some_to_write c.left_of-left.result.now output.items c.put-count.result output.capacity c.put-count.new.self
          c.put-count.ensures.after c.put-count.ensures.count c.args.base.now.port.output_len some);
    }
