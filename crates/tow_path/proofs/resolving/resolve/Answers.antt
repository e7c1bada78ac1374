use Rattle.tow_path.proofs.Outputs.{plain_copy, same_copy}
use Rattle.tow_path.proofs.resolving.resolve.Goals as goal

pub returns-clause-plain : goal.returns-clause-plain
returns-clause-plain c = plain_copy c.args.path.now c.in_ok-bytes.bytes c.in_ok-bytes.ensures

pub returns-clause-again : goal.returns-clause-again
returns-clause-again c = same_copy c.args.path.now c.in_ok-bytes.bytes c.in_ok-bytes.ensures
