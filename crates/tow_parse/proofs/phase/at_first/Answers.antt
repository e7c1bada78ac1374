use Rattle.std.proofs.Common.{sym, subst, ◌≡◌, [], IfSome, IfNone, IfOk, IfErr, ℕ, List}
use Rattle.tow_language.specs.Symbols.{symbol_of, word}
use Rattle.tow_fit.specs.declared.call.WrittenParameters.TheVariants as written
use Rattle.tow_parse.specs.declared.goal.Phase.TheVariants as phases
use Rattle.tow_parse.specs.declared.goal.Slot.TheVariants as slots
use Rattle.tow_parse.specs.declared.phase.Place.TheVariants as places
use Rattle.tow_parse.specs.Phased.{PhaseTakes, PhaseStops}
use Rattle.tow_parse.proofs.PhaseMoves.{first_word, first_value, first_shut, at, over, place_then, stop_then, result_then, fault_then, shuts_sign, shuts_no}
use Rattle.tow_parse.proofs.phase.at_first.Goals as goal

pub returns-then-shuts-clause-ok : goal.returns-then-shuts-clause-ok
returns-then-shuts-clause-ok c =
    subst (λ k. PhaseTakes c.args.square phases.First (symbol_of c.args.text.now c.args.token) (places.Over (written.Unnamed k))) (sym c.new.ensures)
    (over c.args.square phases.First (symbol_of c.args.text.now c.args.token) (written.Unnamed []) (λ xs M. first_shut (symbol_of c.args.text.now c.args.token) xs c.args.square M (shuts_sign c.args.look c.args.square (symbol_of c.args.text.now c.args.token).sign (sym c.if-shuts.ensures) c.requires.shows)))

pub returns-in-Some-clause-ok : goal.returns-in-Some-clause-ok
returns-in-Some-clause-ok c =
    let sign = subst (λ o. IfSome o (λ w. (symbol_of c.args.text.now c.args.token).sign ≡ word w.bytes)) c.in-Some.is c.in_ok-word.ensures.sign in
    let place = subst (λ o. IfSome o (λ w. (symbol_of c.args.text.now c.args.token).place ≡ w.place)) c.in-Some.is c.in_ok-word.ensures.place in
    at c.args.square phases.First (symbol_of c.args.text.now c.args.token) (phases.Word c.in-Some.word) (λ xs M. first_word (symbol_of c.args.text.now c.args.token) xs c.args.square M c.in-Some.word sign place)

pub returns-in-None-clause-ok : goal.returns-in-None-clause-ok
returns-in-None-clause-ok c =
    let no_word = subst (λ o. IfNone o ((bytes : List ℕ) → (symbol_of c.args.text.now c.args.token).sign ≡ word bytes → ⊥)) c.in-None.is c.in_ok-word.ensures.none in
    let ok = subst (λ k. IfOk c.at_value.result (λ p. PhaseTakes c.args.square (phases.Value (slots.Unnamed k)) (symbol_of c.args.text.now c.args.token) p)) c.new-values.ensures c.at_value.ensures.ok in
    result_then c.at_value.result _ _ (place_then c.args.square phases.First (symbol_of c.args.text.now c.args.token) (phases.Value (slots.Unnamed [])) (λ xs M. first_value (symbol_of c.args.text.now c.args.token) xs c.args.square M no_word (shuts_no c.args.look c.args.square (symbol_of c.args.text.now c.args.token).sign (sym c.if-shuts.ensures) c.requires.shows))) ok

pub returns-in-None-clause-err : goal.returns-in-None-clause-err
returns-in-None-clause-err c =
    let no_word = subst (λ o. IfNone o ((bytes : List ℕ) → (symbol_of c.args.text.now c.args.token).sign ≡ word bytes → ⊥)) c.in-None.is c.in_ok-word.ensures.none in
    let err = subst (λ k. IfErr c.at_value.result (λ e. PhaseStops c.args.square (phases.Value (slots.Unnamed k)) (symbol_of c.args.text.now c.args.token) e)) c.new-values.ensures c.at_value.ensures.err in
    fault_then c.at_value.result _ _ (stop_then c.args.square phases.First (symbol_of c.args.text.now c.args.token) (phases.Value (slots.Unnamed [])) (λ xs M. first_value (symbol_of c.args.text.now c.args.token) xs c.args.square M no_word (shuts_no c.args.look c.args.square (symbol_of c.args.text.now c.args.token).sign (sym c.if-shuts.ensures) c.requires.shows))) err
