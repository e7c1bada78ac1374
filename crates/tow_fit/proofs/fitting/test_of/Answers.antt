use Rattle.std.proofs.Common.{◌∙◌, ◌≤◌, ap, length, sym, subst, rules}
use Rattle.std.proofs.lemmas.List.{length-map}
use Rattle.std.proofs.lemmas.Result.{IfOk-weaker}
use Rattle.tow_language.specs.Table.{test_parameters}
use Rattle.tow_language.specs.Signatures.{Row, parameter_as}
use Rattle.tow_fit.specs.Calls.{counts_of, parameters_of}
use Rattle.tow_fit.specs.Faults.{Fails}
use Rattle.tow_fit.specs.Making.{are_apart, givens_in, givens_list, test_in}
use Rattle.tow_fit.proofs.Fits.{few_for_predicate, tests_apart, test_made, test_fails}
use Rattle.tow_fit.proofs.Taking.{givens_length}
use Rattle.tow_fit.proofs.fitting.test_of.Goals as goal

pub givens_of-requires : goal.givens_of-requires
givens_of-requires c = ap are_apart (c.rows_in-rows.ensures ∙ ap (λ (r : Row). r.parameters) c.signature.ensures) ∙ tests_apart c.args.test

pub returns-in_err-givens-clause-err : goal.returns-in_err-givens-clause-err
returns-in_err-givens-clause-err c =
    let e = c.in_err-givens.field-0.0 in let ps = parameters_of c.args.parameters in
    let fails : Fails e (test_in c.args.test c.args.place ps (counts_of c.args.counts.now)) =
    test_fails c.args.test c.args.place ps (counts_of c.args.counts.now) e
    (subst (λ qs. Fails e (givens_in qs c.args.place ps)) (c.rows_in-rows.ensures ∙ ap (λ (r : Row). r.parameters) c.signature.ensures) c.in_err-givens.ensures) in
    search rules

pub made_test-requires : goal.made_test-requires
made_test-requires c =
    let ps = parameters_of c.args.parameters in
    givens_length (test_parameters c.args.test) c.args.place ps (givens_list c.in_ok-givens.givens)
    (ap (λ qs. givens_in qs c.args.place ps) (sym (c.rows_in-rows.ensures ∙ ap (λ (r : Row). r.parameters) c.signature.ensures)) ∙ c.in_ok-givens.ensures)

pub returns-clause-ok : goal.returns-clause-ok
returns-clause-ok c =
    let ps = parameters_of c.args.parameters in
    IfOk-weaker c.made_test.result _ _
    (λ t e. test_made c.args.test c.args.place ps (counts_of c.args.counts.now) (givens_list c.in_ok-givens.givens) (t, counts_of c.made_test.new.counts)
    (ap (λ qs. givens_in qs c.args.place ps) (sym (c.rows_in-rows.ensures ∙ ap (λ (r : Row). r.parameters) c.signature.ensures)) ∙ c.in_ok-givens.ensures) e) c.made_test.ensures.ok

pub rows_in-rows-requires : goal.rows_in-rows-requires
rows_in-rows-requires c =
    subst (λ n. n ≤ 3)
    (sym (sym (length-map c.signature.result.parameters.now parameter_as) ∙ ap (λ (r : Row). length r.parameters) c.signature.ensures))
    (few_for_predicate c.args.test)
