use Rattle.std.proofs.Common.{sym, subst}
use Rattle.tow_language.specs.Symbols.{symbol_of}
use Rattle.tow_fit.specs.declared.call.WrittenParameters.TheVariants as written
use Rattle.tow_parse.specs.declared.goal.Phase.TheVariants as phases
use Rattle.tow_parse.specs.declared.goal.Slot.TheVariants as slots
use Rattle.tow_parse.specs.declared.look.Look.TheVariants as looks
use Rattle.tow_parse.specs.declared.phase.Place.TheVariants as places
use Rattle.tow_parse.specs.Looks.{Shows}
use Rattle.tow_parse.specs.Phased.{PhaseTakes}
use Rattle.tow_parse.proofs.PhaseMoves.{at, over, stop, shuts_sign, shuts_no, bracket_comma, after_values, after_pairs, after_shut, after_no}
use Rattle.tow_parse.proofs.Shown.{same_look}
use Rattle.tow_parse.proofs.phase.at_after.Goals as goal

pub returns-then-shuts-clause-ok : goal.returns-then-shuts-clause-ok
returns-then-shuts-clause-ok c =
    over c.args.square (phases.After c.args.parameters) (symbol_of c.args.text.now c.args.token) c.args.parameters (λ xs M. after_shut (symbol_of c.args.text.now c.args.token) xs c.args.square M c.args.parameters (shuts_sign c.args.look c.args.square (symbol_of c.args.text.now c.args.token).sign (sym c.if-shuts.ensures) c.requires.shows))

pub returns-in-Unnamed-clause-ok : goal.returns-in-Unnamed-clause-ok
returns-in-Unnamed-clause-ok c =
    let s = subst (λ k. Shows k (symbol_of c.args.text.now c.args.token).sign) c.in-Comma.is c.requires.shows in
    subst (λ k. PhaseTakes c.args.square (phases.After k) (symbol_of c.args.text.now c.args.token) (places.At (phases.Value (slots.Unnamed c.in-Unnamed.values)))) (sym c.in-Unnamed.is)
    (at c.args.square (phases.After (written.Unnamed c.in-Unnamed.values)) (symbol_of c.args.text.now c.args.token) (phases.Value (slots.Unnamed c.in-Unnamed.values)) (λ xs M. after_values (symbol_of c.args.text.now c.args.token) xs c.args.square M c.in-Unnamed.values s (bracket_comma (symbol_of c.args.text.now c.args.token) xs c.args.square M c.args.square)))

pub returns-in-Named-clause-ok : goal.returns-in-Named-clause-ok
returns-in-Named-clause-ok c =
    let s = subst (λ k. Shows k (symbol_of c.args.text.now c.args.token).sign) c.in-Comma.is c.requires.shows in
    subst (λ k. PhaseTakes c.args.square (phases.After k) (symbol_of c.args.text.now c.args.token) (places.At (phases.Name c.in-Named.pairs))) (sym c.in-Named.is)
    (at c.args.square (phases.After (written.Named c.in-Named.pairs)) (symbol_of c.args.text.now c.args.token) (phases.Name c.in-Named.pairs) (λ xs M. after_pairs (symbol_of c.args.text.now c.args.token) xs c.args.square M c.in-Named.pairs s (bracket_comma (symbol_of c.args.text.now c.args.token) xs c.args.square M c.args.square)))

pub returns-in_default : goal.returns-in_default
returns-in_default c =
    record {
      ok = tt;
      err = stop c.args.square (phases.After c.args.parameters) (symbol_of c.args.text.now c.args.token) (λ xs M f a. after_no (symbol_of c.args.text.now c.args.token) xs c.args.square M c.args.parameters (λ e. c.in_default.not-Comma (same_look c.args.look looks.Comma (symbol_of c.args.text.now c.args.token).sign c.requires.shows e)) (shuts_no c.args.look c.args.square (symbol_of c.args.text.now c.args.token).sign (sym c.if-shuts.ensures) c.requires.shows) f a);
    }
