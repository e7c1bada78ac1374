-- The printed form of a tree that some text has is a text with that tree.
use Rattle.tow_language.specs.Laws.{PrintReadsBack}
use Rattle.tow_language.specs.Fit.{no_counts}
use Rattle.tow_print.proofs.Whole.{print_reads}
use Rattle.tow_print.proofs.Textual.{TextualCall, values_are_textual}
use Rattle.tow_print.proofs.TestCalls.{tests_read, test_utf8}
use Rattle.tow_print.proofs.ActionCalls.{actions_read, action_utf8}
use Rattle.tow_print.proofs.Utf8Trees.{statements_are_text}

pub print_is_read_back : PrintReadsBack
print_is_read_back text tree (raw, reads, (n, fits)) short =
    let textual = values_are_textual text raw reads in
    print_reads TextualCall tests_read actions_read raw n tree textual reads.2.0 fits short
    (statements_are_text TextualCall test_utf8 action_utf8 raw no_counts n tree textual fits)
