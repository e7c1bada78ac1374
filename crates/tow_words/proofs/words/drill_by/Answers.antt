use Rattle.std.proofs.Common.{codes}
use Rattle.clap.specs.Matches.{found_of}
use Rattle.clap.specs.Walk.{rows_of}
use Rattle.tow_words.specs.declared.bounds.TheConstants.{MAX_DRILL}
use Rattle.tow_words.proofs.Answering.{drill_given, drill_number, drill_word}
use Rattle.tow_words.proofs.Reading.{number_missing, number_within}
use Rattle.tow_words.proofs.words.drill_by.Goals as goal

pub number_given-requires : goal.number_given-requires
number_given-requires c = drill_word c.args.matches.now c.requires

pub unreachable-requires : goal.unreachable-requires
unreachable-requires c = number_missing (codes "number") (rows_of (found_of c.args.matches.now)) c.in-None.ensures (drill_given c.args.matches.now c.requires)

pub returns-clause-within : goal.returns-clause-within
returns-clause-within c =
    number_within 0 MAX_DRILL (codes "number") (rows_of (found_of c.args.matches.now)) c.in-Some.number (drill_number c.args.matches.now c.requires) c.in-Some.ensures
