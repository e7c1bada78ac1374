use Rattle.std.proofs.Common.{◌≡◌, ◌∙◌, ap, sym, subst, IfOk, Ok}
use Rattle.std.specs.Prelude.{IfErr}
use Rattle.tow_language.specs.Table.{handler_named}
use Rattle.tow_fit.specs.Calls.{call_of, counts_of}
use Rattle.tow_fit.specs.Faults.{Fails}
use Rattle.tow_fit.proofs.Fits.{action_is}
use Rattle.tow_fit.proofs.fitting.fitted_action.Goals as goal

pub returns-in-Some-clause-ok : goal.returns-in-Some-clause-ok
returns-in-Some-clause-ok c =
    let whole = action_is (call_of c.args.call) (counts_of c.args.counts.now) c.in-Some.handler (ap handler_named (sym c.as_slice.ensures) ∙ sym c.in-Some.ensures) in
    subst (λ k. IfOk c.action_of.result (λ a. k ≡ Ok (a, counts_of c.action_of.new.counts))) (sym whole) c.action_of.ensures.ok

pub returns-in-Some-clause-err : goal.returns-in-Some-clause-err
returns-in-Some-clause-err c =
    let whole = action_is (call_of c.args.call) (counts_of c.args.counts.now) c.in-Some.handler (ap handler_named (sym c.as_slice.ensures) ∙ sym c.in-Some.ensures) in
    subst (λ k. IfErr c.action_of.result (λ e. Fails e k)) (sym whole) c.action_of.ensures.err
