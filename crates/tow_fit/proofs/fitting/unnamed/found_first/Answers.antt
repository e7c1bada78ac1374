use Rattle.std.proofs.Common.{map, sym, subst}
use Rattle.tow_fit.specs.Calls.{value_of}
use Rattle.tow_fit.specs.Fitting.{MeetsBy, found_as, rows_of}
use Rattle.tow_language.specs.Signatures.{parameter_as}
use Rattle.tow_fit.proofs.Parameters.{first_is}
use Rattle.tow_fit.proofs.fitting.unnamed.found_first.Goals as goal

pub returns-in-Some : goal.returns-in-Some
returns-in-Some c =
    subst (λ k. MeetsBy (map found_as) c.found_at.result k)
    (sym (first_is (rows_of c.args.rows) (parameter_as c.in-Some.row) (map value_of c.args.values) c.in-Some.ensures)) c.found_at.ensures
