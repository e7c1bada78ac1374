use Rattle.std.proofs.Common.{[], ◌∷◌}
use Rattle.tow_language.specs.Symbols.{symbol_of}
use Rattle.tow_parse.specs.declared.goal.Goal.TheVariants.{Named, Parameters}
use Rattle.tow_parse.specs.declared.goal.Phase.TheVariants as phases
use Rattle.tow_parse.proofs.CallMoves.{named_taken}
use Rattle.tow_parse.proofs.Transport.{taken, told_none}
use Rattle.tow_parse.proofs.state.State.take_named.Goals as goal

pub returns-clause-ok : goal.returns-clause-ok
returns-clause-ok c =
    taken (Named c.args.role c.args.name ∷ c.args.self.now.goals) (Parameters (record { role = c.args.role; name = c.args.name; square = c.is_square-square.result }) phases.First ∷ c.args.self.now.goals) c.args.self.now.free [] c.args.self.now c.want.new.self
    c.in_ok-want.ensures.free (told_none c.args.self.now c.want.new.self c.in_ok-want.ensures.parts) c.in_ok-want.ensures.goals (symbol_of c.args.text.now c.args.token)
    (named_taken c.args.role c.args.name c.args.self.now.goals c.args.self.now.free (symbol_of c.args.text.now c.args.token) c.requires.shaped c.args.look c.requires.shows c.requires.waits c.is_square-square.result c.is_square-square.ensures.yes c.is_square-square.ensures.no)
