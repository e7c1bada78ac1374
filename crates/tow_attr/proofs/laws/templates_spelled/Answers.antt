use Rattle.tow_attr.proofs.Spelled.{templates_are_spelled}
use Rattle.tow_attr.proofs.laws.templates_spelled.Goals as goal

pub returns : goal.returns
returns c = templates_are_spelled
