use Rattle.tow_notes.proofs.Methods.{method_is}
use Rattle.tow_notes.proofs.value.is_method.Goals as goal

pub returns : goal.returns
returns c = method_is c.args.value.now c.is_token.result c.is_token.ensures
