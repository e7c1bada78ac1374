use Rattle.tow_language.proofs.Names.{handlers_named}
use Rattle.tow_language.proofs.laws.handlers_are_named.Goals as goal

pub returns : goal.returns
returns c = handlers_named
