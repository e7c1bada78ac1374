use Rattle.tow_request.specs.Lines.{fields_at}
use Rattle.tow_request.proofs.Lengths.{right_length}
use Rattle.tow_request.proofs.framing.framing_of.Goals as goal

pub number_up_to-requires : goal.number_up_to-requires
number_up_to-requires c =
    right_length (fields_at c.args.bytes.now c.args.lines.now) c.in-Some.value.now c.in-Some.ensures c.requires.right
