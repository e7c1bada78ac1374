use Rattle.std.proofs.Common.{◌≡◌, ◌∙◌, rules, arith, false, sym, ap, drop}
use Rattle.tow_model.proofs.Spans.{span_end}
use Rattle.tow_log.proofs.Plain.{has_controls, plain_from}
use Rattle.tow_log.proofs.shown.show_from.Goals as goal

pub returns-then-not-has_controls : goal.returns-then-not-has_controls
returns-then-not-has_controls c =
    let none : c.has_controls.result ≡ false = search rules in
    let value = ap has_controls (span_end c.deref.result.now c.args.start ∙ ap (drop c.args.start) c.deref.ensures.value) in
    plain_from c.args.out.now.items c.args.start (omega (arith, c.requires.within, c.len.ensures, c.if-len-start.false))
    (sym (c.has_controls.ensures ∙ value) ∙ none)
