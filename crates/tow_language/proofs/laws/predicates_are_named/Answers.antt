use Rattle.tow_language.proofs.Names.{predicates_named}
use Rattle.tow_language.proofs.laws.predicates_are_named.Goals as goal

pub returns : goal.returns
returns c = predicates_named
