use Rattle.std.proofs.Common.{subst, ◌≡◌, IfSome}
use Rattle.tow_language.specs.Symbols.{symbol_of, word}
use Rattle.tow_parse.specs.declared.goal.Phase.TheVariants as phases
use Rattle.tow_parse.proofs.PhaseMoves.{at, name_phase}
use Rattle.tow_parse.proofs.phase.at_name.Goals as goal

pub returns-in-Some-clause-ok : goal.returns-in-Some-clause-ok
returns-in-Some-clause-ok c =
    let sign = subst (λ o. IfSome o (λ w. (symbol_of c.args.text.now c.args.token).sign ≡ word w.bytes)) c.in-Some.is c.in_ok-name.ensures.sign in
    let place = subst (λ o. IfSome o (λ w. (symbol_of c.args.text.now c.args.token).place ≡ w.place)) c.in-Some.is c.in_ok-name.ensures.place in
    at c.args.square (phases.Name c.args.pairs) (symbol_of c.args.text.now c.args.token) (phases.Equals c.args.pairs c.in-Some.name) (λ xs M. name_phase (symbol_of c.args.text.now c.args.token) xs c.args.square M c.args.pairs c.in-Some.name sign place)
