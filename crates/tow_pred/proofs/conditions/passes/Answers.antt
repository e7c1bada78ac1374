use Rattle.std.proofs.Common.{◌≡◌, ◌∙◌, IfOk, ap, sym, subst}
use Rattle.std.proofs.lemmas.Option.{slice_get_within}
use Rattle.std.proofs.lemmas.Result.{IfOk-weaker}
use Rattle.tow_pattern.specs.Patterns.{pattern_bindings}
use Rattle.tow_semantics.specs.Predicates.{AreAmong, held, pattern_of, test_of}
use Rattle.tow_semantics.specs.Values.{value_of}
use Rattle.tow_pred.proofs.Among.{numbered}
use Rattle.tow_pred.proofs.Plain.{answer, holds_plain}
use Rattle.tow_pred.proofs.conditions.passes.Goals as goal

pub groups-requires-clause-there : goal.groups-requires-clause-there
groups-requires-clause-there c =
    let a = c.in-Regex in let patterns = c.args.scratch.now in
    slice_get_within patterns a.number a.pattern (numbered a.number a.pattern a.value patterns (subst (λ t. AreAmong (pattern_of t) patterns) a.is c.requires.among))

pub returns-in_ok-bindings-in-Regex-clause-holds : goal.returns-in_ok-bindings-in-Regex-clause-holds
returns-in_ok-bindings-in-Regex-clause-holds c =
    let a = c.in-Regex in let q = c.args.request.now in let x = c.args.state.now in let m = c.args.moment in let patterns = c.args.scratch.now in
    let there = numbered a.number a.pattern a.value patterns (subst (λ t. AreAmong (pattern_of t) patterns) a.is c.requires.among) in
    let found : c.in_ok-bindings-in-Regex.bindings ≡ pattern_bindings a.pattern (value_of a.value q x m) = rw there at c.in_ok-bindings-in-Regex.ensures.bindings in
    subst (λ o. IfOk c.bind_found-in-Regex.result (λ b. held o x ≡ answer b c.bind_found-in-Regex.new.state))
    (found ∙ sym (ap (λ t. test_of t q x m) a.is)) c.bind_found-in-Regex.ensures.holds

pub returns-in-Exists-clause-holds : goal.returns-in-Exists-clause-holds
returns-in-Exists-clause-holds c =
    let q = c.args.request.now in let x = c.args.state.now in let m = c.args.moment in
    IfOk-weaker c.exists.result _ _ (λ b e. ap (λ t. held (test_of t q x m) x) c.in-Exists.is ∙ holds_plain b _ x e) c.exists.ensures
