use Rattle.tow_board.proofs.Words.{at_word, word_at, at_code, code_at, two_or_more}
use Rattle.tow_board.proofs.laws.words_name_owners.Goals as goal

pub returns-clause-owner : goal.returns-clause-owner
returns-clause-owner c = at_word

pub returns-clause-word : goal.returns-clause-word
returns-clause-word c = word_at

pub returns-clause-to : goal.returns-clause-to
returns-clause-to c = λ to. (at_code to, two_or_more to)

pub returns-clause-code : goal.returns-clause-code
returns-clause-code c = code_at
