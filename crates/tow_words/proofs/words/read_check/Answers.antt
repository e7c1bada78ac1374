use Rattle.std.specs.Prelude.{map, string_bytes}
use Rattle.clap.specs.Simple.{app_of}
use Rattle.tow_words.specs.Forms as shape
use Rattle.tow_words.specs.Words.{command_seen, check_by}
use Rattle.tow_words.proofs.Reading.{matched_ok}
use Rattle.tow_words.proofs.words.read_check.Goals as goal

pub returns-in-Ok-matched-clause-words : goal.returns-in-Ok-matched-clause-words
returns-in-Ok-matched-clause-words c =
    matched_ok (app_of c.in-Ok.form) shape.check check_by (map string_bytes c.args.rest.now) c.in-Ok-matched.matches (command_seen c.check_by.result) c.in-Ok.ensures c.in-Ok-matched.ensures.matches
    c.check_by.ensures.is
