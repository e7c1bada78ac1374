use Rattle.tow_words.proofs.Answering.{serve_address}
use Rattle.tow_words.proofs.words.serve_by.Goals as goal

pub text_given-requires-3 : goal.text_given-requires-3
text_given-requires-3 c = serve_address c.args.matches.now c.requires
