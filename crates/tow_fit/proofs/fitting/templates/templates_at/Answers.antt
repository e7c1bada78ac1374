use Rattle.std.proofs.Common.{◌∙◌, ◌+◌, sym, ap, subst, rules, drop, Ok}
use Rattle.std.proofs.Math.ListN.{drop_of_length-le}
use Rattle.tow_language.specs.Fit.{template_at, templates_at}
use Rattle.tow_fit.specs.Faults.{Fails}
use Rattle.tow_fit.specs.Fitting.{joined}
use Rattle.tow_fit.proofs.Templates.{nothing_done, all_done, one_more, one_fails}
use Rattle.tow_fit.proofs.fitting.templates.templates_at.Goals as goal

pub returns-in_err-template : goal.returns-in_err-template
returns-in_err-template c =
    let place = c.args.place in let texts = c.args.texts.now in let i = c.loop-text.text-index in
    let e = c.in_err-template.field-0.0 in
    let fails : Fails e (templates_at place texts) =
    subst (λ k. Fails e k) (sym c.loop-text.invariant)
    (one_fails place texts i c.text-item.result c.loop-text.templates e c.loop-text-test.true
    (subst (λ k. Fails e (template_at place k)) (c.as_slice.ensures ∙ c.text-item.is) c.in_err-template.ensures)) in
    search rules

pub loop-text-init : goal.loop-text-init
loop-text-init c =
    let rest = templates_at c.args.place c.args.texts.now in nothing_done rest ∙ ap (λ k. joined k rest) (sym c.new-templates.ensures)

pub loop-text-preserved : goal.loop-text-preserved
loop-text-preserved c =
    let place = c.args.place in let texts = c.args.texts.now in let i = c.loop-text.text-index in
    c.loop-text.invariant
    ∙ one_more place texts i c.text-item.result c.loop-text.templates c.in_ok-template.template c.loop-text-test.true
    (sym (ap (template_at place) (c.as_slice.ensures ∙ c.text-item.is)) ∙ c.in_ok-template.ensures)
    ∙ ap (λ k. joined k (templates_at place (drop (i + 1) texts))) (sym c.in_ok-push.ensures.ok)

pub returns : goal.returns
returns c =
    let place = c.args.place in let texts = c.args.texts.now in
    c.loop-text.invariant ∙ ap (λ k. joined c.loop-text.templates (templates_at place k)) (drop_of_length-le texts c.loop-text-test.false)
    ∙ ap (λ k. Ok k) (sym (all_done c.loop-text.templates))
