-- What a call makes of what its parameters stand for.
use Rattle.std.specs.Prelude.{ℕ, Bool, true, not, ◌&&◌, nat_le, List, [], ◌∷◌, bytes_eq, Result, Ok, if◌then◌else◌}
use Rattle.std.specs.List.{list_any}
use Rattle.std.specs.Map.{lookup}
use Rattle.std.specs.Option.{option_or}
use Rattle.tow_language.specs.declared.kind.Kind.TheVariants.{BadParameter, TooManyLimits}
use Rattle.tow_model.specs.declared.action.Action.{Action}
use Rattle.tow_model.specs.declared.predicate.Test.{Test}
use Rattle.tow_language.specs.declared.table.Given.{Given}
use Rattle.tow_language.specs.declared.table.Handler.{Handler}
use Rattle.tow_language.specs.declared.table.TestName.{TestName}
use Rattle.tow_language.specs.Fit as fits
use Rattle.tow_language.specs.Fit.{TextFault, Fitted, ◌>>=◌, fault, wanted, filled, is_limit, made_action, made_test}
use Rattle.tow_language.specs.Raw.{RawParameters}
use Rattle.tow_language.specs.Table.{Parameter, handler_parameters, test_parameters}
use Rattle.tow_fit.specs.declared.fitting.givens.Givens.{Givens}
use Rattle.tow_fit.specs.declared.fitting.givens.Givens.TheVariants as all
use Rattle.tow_fit.specs.Fitting.{found_in}

abbrev pub givens_list : Givens → List Given
givens_list all.None = []
givens_list (all.One a) = a ∷ []
givens_list (all.Two a b) = a ∷ b ∷ []
givens_list (all.Three a b c) = a ∷ b ∷ c ∷ []

-- no two parameters have one name
abbrev pub are_apart : List Parameter → Bool
are_apart [] = true
are_apart (q ∷ qs) = not (list_any (λ (p : Parameter). bytes_eq p.name q.name) qs) && are_apart qs

-- what a parameter stands for, where it was found or may be left out
abbrev pub filled_one : Parameter → fits.Found → ℕ → Result Given TextFault
filled_one q found place = wanted (option_or (lookup (bytes_eq q.name) found) q.default) BadParameter place

-- what the parameters stand for, in the table's order
abbrev pub givens_in : List Parameter → ℕ → RawParameters → Result (List Given) TextFault
givens_in qs place ps = found_in qs ps >>= λ found. filled qs found place

-- the test of this name, with these parameters
abbrev pub test_in : TestName → ℕ → RawParameters → fits.Counts → Fitted Test
test_in test place ps n = givens_in (test_parameters test) place ps >>= λ gs. Ok (made_test test gs n)

-- the action, unless it is a limit behind the last one that may be
abbrev pub limited : Handler → ℕ → fits.Counts → List Given → Fitted Action
limited handler place n gs = if is_limit handler && nat_le 16 n.limits then fault TooManyLimits place else Ok (made_action handler gs n)

-- the action of this name, with these parameters
abbrev pub action_in : Handler → ℕ → RawParameters → fits.Counts → Fitted Action
action_in handler place ps n = givens_in (handler_parameters handler) place ps >>= limited handler place n
