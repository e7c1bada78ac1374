use Rattle.std.proofs.Common.{rules, string_bytes, ◌∙◌}
use Rattle.tow_visit.specs.Lines.{name_part}
use Rattle.tow_visit.proofs.Writing.{one_more}
use Rattle.tow_visit.proofs.answering.append_names.Goals as goal

pub loop-name-preserved : goal.loop-name-preserved
loop-name-preserved c =
    c.in_ok-append_name.ensures
    ∙ one_more name_part (string_bytes c.args.line.now) (string_bytes c.loop-name.line) c.args.names.now c.loop-name.name-index c.name-item.result c.loop-name-test.true
    (search rules) c.loop-name.invariant
