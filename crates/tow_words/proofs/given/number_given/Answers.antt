use Rattle.tow_words.proofs.Reading.{word_in}
use Rattle.tow_words.proofs.given.number_given.Goals as goal

pub number_in-requires : goal.number_in-requires
number_in-requires c = word_in 0 4294967295 c.args.matches.now c.args.id.now c.in-Some.word c.in-Some.ensures c.requires
