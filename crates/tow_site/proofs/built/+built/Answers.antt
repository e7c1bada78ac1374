use Rattle.std.proofs.Common.{sym, ap, ◌∙◌}
use Rattle.std.specs.List.{list_all}
use Rattle.tow_site.specs.Built.{is_built_statement}
use Rattle.tow_site.proofs.Building.{block_is}
use Rattle.tow_site.proofs.built.+built.Goals as goal

pub is_built_statement-returns-in-Block : goal.is_built_statement-returns-in-Block
is_built_statement-returns-in-Block t c = c.are_built.ensures ∙ ap (list_all is_built_statement) c.as_slice.ensures ∙ sym (block_is c.in-Block.parts) ∙ ap is_built_statement (sym c.in-Block.is)
