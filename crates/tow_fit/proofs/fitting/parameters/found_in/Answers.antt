use Rattle.std.proofs.Common.{map, sym, subst}
use Rattle.tow_fit.specs.Calls.{parameters_of}
use Rattle.tow_fit.specs.Fitting.{MeetsBy, found_as, found_in, rows_of}
use Rattle.tow_fit.proofs.fitting.parameters.found_in.Goals as goal

pub returns-in-Unnamed : goal.returns-in-Unnamed
returns-in-Unnamed c =
    subst (λ p. MeetsBy (map found_as) c.found_first.result (found_in (rows_of c.args.rows) (parameters_of p))) (sym c.in-Unnamed.is) c.found_first.ensures
