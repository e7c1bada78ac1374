use Rattle.std.proofs.Common.{rules}
use Rattle.tow_words.proofs.Answering.{connections_word, loops_word, options_within, slots_word, workers_word}
use Rattle.tow_words.proofs.words.options_by.Goals as goal

pub number_given-requires : goal.number_given-requires
number_given-requires c = loops_word c.args.matches.now c.requires

pub number_given-requires-2 : goal.number_given-requires-2
number_given-requires-2 c = workers_word c.args.matches.now c.requires

pub number_given-requires-3 : goal.number_given-requires-3
number_given-requires-3 c = slots_word c.args.matches.now c.requires

pub number_given-requires-4 : goal.number_given-requires-4
number_given-requires-4 c = connections_word c.args.matches.now c.requires

pub returns-clause-within : goal.returns-clause-within
returns-clause-within c = options_within c.args.matches.now _ c.requires (search rules)
