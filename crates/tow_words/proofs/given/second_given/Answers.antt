use Rattle.tow_words.specs.declared.bounds.TheConstants.{LAST_MOMENT}
use Rattle.tow_words.proofs.Reading.{word_in}
use Rattle.tow_words.proofs.given.second_given.Goals as goal

pub second_in-requires : goal.second_in-requires
second_in-requires c = word_in 0 LAST_MOMENT c.args.matches.now c.args.id.now c.in-Some.word c.in-Some.ensures c.requires
