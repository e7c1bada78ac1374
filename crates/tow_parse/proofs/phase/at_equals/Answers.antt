use Rattle.std.proofs.Common.{subst}
use Rattle.tow_language.specs.Symbols.{symbol_of}
use Rattle.tow_parse.specs.declared.goal.Phase.TheVariants as phases
use Rattle.tow_parse.specs.declared.goal.Slot.TheVariants as slots
use Rattle.tow_parse.specs.Looks.{Shows}
use Rattle.tow_parse.proofs.PhaseMoves.{at, equals_phase}
use Rattle.tow_parse.proofs.phase.at_equals.Goals as goal

pub returns-in-Equals-clause-ok : goal.returns-in-Equals-clause-ok
returns-in-Equals-clause-ok c =
    let s = subst (λ k. Shows k (symbol_of c.args.text.now c.args.token).sign) c.in-Equals.is c.requires.shows in
    at c.args.square (phases.Equals c.args.pairs c.args.name) (symbol_of c.args.text.now c.args.token) (phases.Value (slots.Named c.args.pairs c.args.name)) (λ xs M. equals_phase (symbol_of c.args.text.now c.args.token) xs c.args.square M c.args.pairs c.args.name s)
