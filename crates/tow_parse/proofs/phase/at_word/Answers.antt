use Rattle.std.proofs.Common.{sym, subst, ap, ◌∙◌, ◌≡◌, [], ◌∷◌, ◌++◌, IfOk, IfErr}
use Rattle.tow_language.specs.Symbols.{symbol_of}
use Rattle.tow_fit.specs.declared.call.WrittenParameters.TheVariants as written
use Rattle.tow_fit.specs.declared.call.WrittenValue.TheVariants as values
use Rattle.tow_parse.specs.declared.goal.Phase.TheVariants as phases
use Rattle.tow_parse.specs.declared.goal.Slot.TheVariants as slots
use Rattle.tow_parse.specs.declared.look.Look.TheVariants as looks
use Rattle.tow_parse.specs.declared.phase.Place.TheVariants as places
use Rattle.tow_parse.specs.Looks.{Shows}
use Rattle.tow_parse.specs.Phased.{PhaseTakes, PhaseStops}
use Rattle.tow_parse.proofs.PhaseMoves.{at, place_then, stop_then, result_then, fault_then, word_equals, word_after}
use Rattle.tow_parse.proofs.Shown.{same_look}
use Rattle.tow_parse.proofs.phase.at_word.Goals as goal

pub returns-in-Equals-clause-ok : goal.returns-in-Equals-clause-ok
returns-in-Equals-clause-ok c =
    let s = subst (λ k. Shows k (symbol_of c.args.text.now c.args.token).sign) c.in-Equals.is c.requires.shows in
    subst (λ k. PhaseTakes c.args.square (phases.Word c.args.word) (symbol_of c.args.text.now c.args.token) (places.At (phases.Value (slots.Named k c.args.word)))) (sym c.new.ensures)
    (at c.args.square (phases.Word c.args.word) (symbol_of c.args.text.now c.args.token) (phases.Value (slots.Named [] c.args.word)) (λ xs M. word_equals (symbol_of c.args.text.now c.args.token) xs c.args.square M c.args.word s))

pub returns-in_ok-push-in_default : goal.returns-in_ok-push-in_default
returns-in_ok-push-in_default c =
    let eq : c.push.new.self ≡ values.One c.args.word ∷ [] = c.in_ok-push-in_default.ensures.ok ∙ ap (λ k. k ++ values.One c.args.word ∷ []) c.new-values.ensures in
    let ok = subst (λ k. IfOk c.at_after.result (λ p. PhaseTakes c.args.square (phases.After (written.Unnamed k)) (symbol_of c.args.text.now c.args.token) p)) eq c.at_after.ensures.ok in
    let err = subst (λ k. IfErr c.at_after.result (λ e. PhaseStops c.args.square (phases.After (written.Unnamed k)) (symbol_of c.args.text.now c.args.token) e)) eq c.at_after.ensures.err in
    record {
      ok = result_then c.at_after.result _ _ (place_then c.args.square (phases.Word c.args.word) (symbol_of c.args.text.now c.args.token) (phases.After (written.Unnamed (values.One c.args.word ∷ []))) (λ xs M. word_after (symbol_of c.args.text.now c.args.token) xs c.args.square M c.args.word (λ e. c.in_default.not-Equals (same_look c.args.look looks.Equals (symbol_of c.args.text.now c.args.token).sign c.requires.shows e)))) ok;
      err = fault_then c.at_after.result _ _ (stop_then c.args.square (phases.Word c.args.word) (symbol_of c.args.text.now c.args.token) (phases.After (written.Unnamed (values.One c.args.word ∷ []))) (λ xs M. word_after (symbol_of c.args.text.now c.args.token) xs c.args.square M c.args.word (λ e. c.in_default.not-Equals (same_look c.args.look looks.Equals (symbol_of c.args.text.now c.args.token).sign c.requires.shows e)))) err;
    }
