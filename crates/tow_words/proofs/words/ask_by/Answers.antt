use Rattle.tow_words.proofs.Answering.{ask_moment, moment_within}
use Rattle.tow_words.proofs.words.ask_by.Goals as goal

pub second_given-requires : goal.second_given-requires
second_given-requires c = ask_moment c.args.matches.now c.requires

pub returns-clause-within : goal.returns-clause-within
returns-clause-within c = moment_within c.args.matches.now c.second_given.result c.requires c.second_given.ensures
