use Rattle.tow_semantics.proofs.Children.{listings_are_names}
use Rattle.tow_semantics.proofs.laws.listings_are_names.Goals as goal

pub returns : goal.returns
returns c = listings_are_names
