use Rattle.std.proofs.Common.{◌∙◌, sym, true, false}
use Rattle.tow_fit.specs.Fitting.{rows_of}
use Rattle.tow_fit.proofs.Parameters.{unused_is}
use Rattle.tow_fit.proofs.fitting.parameters.unused.Goals as goal

pub returns-then-is_found : goal.returns-then-is_found
returns-then-is_found c = sym (unused_is (rows_of c.args.rows) c.args.found.now c.args.name.now true c.if-is_found.ensures)

pub returns-else-is_found : goal.returns-else-is_found
returns-else-is_found c =
    c.row_named.ensures ∙ sym (unused_is (rows_of c.args.rows) c.args.found.now c.args.name.now false c.if-is_found.ensures)
