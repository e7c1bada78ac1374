use Rattle.std.proofs.Common.{◌∙◌, ◌+◌, sym, ap, drop, arith}
use Rattle.tow_model.proofs.Spans.{none_then, span_end}
use Rattle.tow_attr.proofs.Signs.{after_place}
use Rattle.tow_attr.proofs.binding.value_of.Goals as goal

pub returns-then-sign-text : goal.returns-then-sign-text
returns-then-sign-text c =
    span_end c.args.text.now (c.sign_place-sign.result + 1) ∙ ap (λ n. drop (n + 1) c.args.text.now) c.sign_place-sign.ensures ∙ after_place 61 c.args.text.now

pub returns-else-sign-text : goal.returns-else-sign-text
returns-else-sign-text c =
    sym (none_then c.args.text.now (c.sign_place-sign.result + 1) (omega arith)) ∙ ap (λ n. drop (n + 1) c.args.text.now) c.sign_place-sign.ensures
    ∙ after_place 61 c.args.text.now
