use Rattle.std.proofs.Common.{◌∙◌, ◌≤◌, ap, length, sym, subst, rules}
use Rattle.std.proofs.lemmas.List.{length-map}
use Rattle.std.proofs.lemmas.Result.{IfOk-weaker}
use Rattle.tow_language.specs.Table.{handler_parameters}
use Rattle.tow_language.specs.Signatures.{Row, parameter_as}
use Rattle.tow_fit.specs.Calls.{counts_of, parameters_of}
use Rattle.tow_fit.specs.Faults.{Fails}
use Rattle.tow_fit.specs.Making.{are_apart, givens_in, givens_list, action_in}
use Rattle.tow_fit.proofs.Fits.{few_for_handler, handlers_apart, action_made, action_full, action_fails}
use Rattle.tow_fit.proofs.Taking.{givens_length}
use Rattle.tow_fit.proofs.fitting.action_of.Goals as goal

pub givens_of-requires : goal.givens_of-requires
givens_of-requires c = ap are_apart (c.rows_in-rows.ensures ∙ ap (λ (r : Row). r.parameters) c.signature.ensures) ∙ handlers_apart c.args.handler

pub returns-in_err-givens-clause-err : goal.returns-in_err-givens-clause-err
returns-in_err-givens-clause-err c =
    let e = c.in_err-givens.field-0.0 in let ps = parameters_of c.args.parameters in
    let fails : Fails e (action_in c.args.handler c.args.place ps (counts_of c.args.counts.now)) =
    action_fails c.args.handler c.args.place ps (counts_of c.args.counts.now) e
    (subst (λ qs. Fails e (givens_in qs c.args.place ps)) (c.rows_in-rows.ensures ∙ ap (λ (r : Row). r.parameters) c.signature.ensures) c.in_err-givens.ensures) in
    search rules

pub returns-then-is_full-clause-err : goal.returns-then-is_full-clause-err
returns-then-is_full-clause-err c =
    let ps = parameters_of c.args.parameters in
    action_full c.args.handler c.args.place ps (counts_of c.args.counts.now) (givens_list c.in_ok-givens.givens)
    (ap (λ qs. givens_in qs c.args.place ps) (sym (c.rows_in-rows.ensures ∙ ap (λ (r : Row). r.parameters) c.signature.ensures)) ∙ c.in_ok-givens.ensures) c.if-is_full.ensures

pub made_action-requires : goal.made_action-requires
made_action-requires c =
    let ps = parameters_of c.args.parameters in
    givens_length (handler_parameters c.args.handler) c.args.place ps (givens_list c.in_ok-givens.givens)
    (ap (λ qs. givens_in qs c.args.place ps) (sym (c.rows_in-rows.ensures ∙ ap (λ (r : Row). r.parameters) c.signature.ensures)) ∙ c.in_ok-givens.ensures)

pub returns-clause-ok : goal.returns-clause-ok
returns-clause-ok c =
    let ps = parameters_of c.args.parameters in
    IfOk-weaker c.made_action.result _ _
    (λ a e. action_made c.args.handler c.args.place ps (counts_of c.args.counts.now) (givens_list c.in_ok-givens.givens) (a, counts_of c.made_action.new.counts)
    (ap (λ qs. givens_in qs c.args.place ps) (sym (c.rows_in-rows.ensures ∙ ap (λ (r : Row). r.parameters) c.signature.ensures)) ∙ c.in_ok-givens.ensures) c.if-is_full.ensures e) c.made_action.ensures.ok

pub rows_in-rows-requires : goal.rows_in-rows-requires
rows_in-rows-requires c =
    subst (λ n. n ≤ 3)
    (sym (sym (length-map c.signature.result.parameters.now parameter_as) ∙ ap (λ (r : Row). length r.parameters) c.signature.ensures))
    (few_for_handler c.args.handler)
