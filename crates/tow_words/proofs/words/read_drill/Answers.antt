use Rattle.std.specs.Prelude.{map, string_bytes}
use Rattle.clap.specs.Simple.{app_of}
use Rattle.tow_words.specs.Forms as shape
use Rattle.tow_words.specs.Words.{command_seen, drill_by}
use Rattle.tow_words.proofs.Reading.{matched_ok}
use Rattle.tow_words.proofs.words.read_drill.Goals as goal

pub returns-in-Ok-matched-clause-words : goal.returns-in-Ok-matched-clause-words
returns-in-Ok-matched-clause-words c =
    matched_ok (app_of c.in-Ok.form) shape.drill drill_by (map string_bytes c.args.rest.now) c.in-Ok-matched.matches (command_seen c.drill_by.result) c.in-Ok.ensures c.in-Ok-matched.ensures.matches
    c.drill_by.ensures.is
