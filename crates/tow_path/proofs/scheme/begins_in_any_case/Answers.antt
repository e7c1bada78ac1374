use Rattle.tow_path.proofs.Absolute.{front_is}
use Rattle.tow_path.proofs.scheme.begins_in_any_case.Goals as goal

pub returns-clause-value : goal.returns-clause-value
returns-clause-value c = front_is c.args.text.now c.args.part.now c.eq_ignore_ascii_case.result c.eq_ignore_ascii_case.ensures.test
