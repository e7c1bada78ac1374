use Rattle.std.proofs.Common.{sym, subst}
use Rattle.tow_language.specs.Symbols.{symbol_of}
use Rattle.tow_fit.specs.declared.call.WrittenValue.TheVariants as values
use Rattle.tow_parse.specs.declared.goal.Phase.TheVariants as phases
use Rattle.tow_parse.specs.declared.look.Look.TheVariants as looks
use Rattle.tow_parse.specs.declared.phase.Place.TheVariants as places
use Rattle.tow_parse.specs.Looks.{Shows}
use Rattle.tow_parse.specs.Phased.{PhaseTakes, filled}
use Rattle.tow_parse.proofs.PhaseMoves.{texts_brace, texts_as_text, at, place_then, stop_then, result_then, fault_then}
use Rattle.tow_parse.proofs.Shown.{same_look}
use Rattle.tow_parse.proofs.phase.at_texts.Goals as goal

pub returns-in_ok-array_filled-in-CloseBrace-clause-ok : goal.returns-in_ok-array_filled-in-CloseBrace-clause-ok
returns-in_ok-array_filled-in-CloseBrace-clause-ok c =
    let s = subst (λ k. Shows k (symbol_of c.args.text.now c.args.token).sign) c.in-CloseBrace.is c.requires.shows in
    subst (λ k. PhaseTakes c.args.square (phases.Texts c.args.array) (symbol_of c.args.text.now c.args.token) (places.At (phases.After k))) (sym c.in_ok-array_filled-in-CloseBrace.ensures)
    (at c.args.square (phases.Texts c.args.array) (symbol_of c.args.text.now c.args.token) (phases.After (filled c.args.array.slot (values.Array c.args.array.place c.args.array.texts))) (λ xs M. texts_brace (symbol_of c.args.text.now c.args.token) xs c.args.square M c.args.array s))

pub returns-in_default : goal.returns-in_default
returns-in_default c =
    record {
      ok = result_then c.at_text.result _ _ (place_then c.args.square (phases.Texts c.args.array) (symbol_of c.args.text.now c.args.token) (phases.Text c.args.array) (λ xs M. texts_as_text (symbol_of c.args.text.now c.args.token) xs c.args.square M c.args.array (λ e. c.in_default.not-CloseBrace (same_look c.args.look looks.CloseBrace (symbol_of c.args.text.now c.args.token).sign c.requires.shows e)))) c.at_text.ensures.ok;
      err = fault_then c.at_text.result _ _ (stop_then c.args.square (phases.Texts c.args.array) (symbol_of c.args.text.now c.args.token) (phases.Text c.args.array) (λ xs M. texts_as_text (symbol_of c.args.text.now c.args.token) xs c.args.square M c.args.array (λ e. c.in_default.not-CloseBrace (same_look c.args.look looks.CloseBrace (symbol_of c.args.text.now c.args.token).sign c.requires.shows e)))) c.at_text.ensures.err;
    }
