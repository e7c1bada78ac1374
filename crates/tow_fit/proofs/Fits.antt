-- The fit of a call, by its name and its parameters.
use Rattle.std.specs.Prelude.{◌≡◌, ℕ, true, false, ◌&&◌, nat_le, List, [], length, ◌≤◌, Some, Result, Ok, Err, if◌then◌else◌}
use Rattle.std.proofs.Common.{refl, sym, ◌∙◌, ap, arith}
use Rattle.tow_language.specs.declared.kind.Kind.TheVariants.{TooManyLimits, UnknownName}
use Rattle.tow_model.specs.declared.action.Action.{Action}
use Rattle.tow_model.specs.declared.predicate.Test.{Test}
use Rattle.tow_language.specs.declared.table.Given.{Given}
use Rattle.tow_language.specs.declared.table.Handler.{Handler}
use Rattle.tow_language.specs.declared.table.Handler.TheVariants as handlers
use Rattle.tow_language.specs.declared.table.TestName.{TestName}
use Rattle.tow_language.specs.declared.table.TestName.TheVariants as tests
use Rattle.tow_language.specs.Fit as fits
use Rattle.tow_language.specs.Fit.{TextFault, ◌>>=◌, wanted, paired, found_of, filled, fault, fit_action, fit_test, is_limit, made_action, made_test}
use Rattle.tow_language.specs.Raw.{Written, RawValue, RawParameters, RawCall}
use Rattle.tow_language.specs.Table.{Parameter, handler_named, handler_parameters, test_named, test_parameters}
use Rattle.tow_fit.specs.declared.fault.ParseFault.{ParseFault}
use Rattle.tow_fit.specs.Faults.{Fails}
use Rattle.tow_fit.proofs.Parameters.{fails_then}
use Rattle.tow_fit.specs.Making.{action_in, are_apart, givens_in, limited, test_in}

pub tests_apart : (t : TestName) → are_apart (test_parameters t) ≡ true
tests_apart tests.True = refl
tests_apart tests.False = refl
tests_apart tests.Path = refl
tests_apart tests.PathPrefix = refl
tests_apart tests.PathSuffix = refl
tests_apart tests.PathTemplate = refl
tests_apart tests.Regex = refl
tests_apart tests.Method = refl
tests_apart tests.Equals = refl
tests_apart tests.Contains = refl
tests_apart tests.Exists = refl

pub handlers_apart : (h : Handler) → are_apart (handler_parameters h) ≡ true
handlers_apart handlers.Set = refl
handlers_apart handlers.Clear = refl
handlers_apart handlers.Rewrite = refl
handlers_apart handlers.Redirect = refl
handlers_apart handlers.ResponseCode = refl
handlers_apart handlers.Header = refl
handlers_apart handlers.AllowedMethods = refl
handlers_apart handlers.RequestLimit = refl
handlers_apart handlers.Resource = refl
handlers_apart handlers.Blocking = refl
handlers_apart handlers.AccessLog = refl
handlers_apart handlers.Echo = refl

givens_are : (qs : List Parameter) (c : RawCall) → fits.givens_of qs c ≡ givens_in qs c.name.place c.parameters
givens_are qs c = by_pairs (paired qs c.parameters)
  where
    by_pairs : (r : Result (List (Written × RawValue)) TextFault) →
        (r >>= λ ps. found_of qs [] ps >>= λ found. filled qs found c.name.place) ≡ ((r >>= λ ps. found_of qs [] ps) >>= λ found. filled qs found c.name.place)
    by_pairs (Ok ps) = refl
    by_pairs (Err e) = refl

pub test_is : (c : RawCall) (n : fits.Counts) (t : TestName) → test_named c.name.bytes ≡ Some t → fit_test c n ≡ test_in t c.name.place c.parameters n
test_is c n t e =
    ap (λ o. wanted o UnknownName c.name.place >>= λ name. fits.givens_of (test_parameters name) c >>= λ gs. Ok (made_test name gs n)) e
    ∙ ap (λ r. r >>= λ gs. Ok (made_test t gs n)) (givens_are (test_parameters t) c)

pub action_is : (c : RawCall) (n : fits.Counts) (h : Handler) → handler_named c.name.bytes ≡ Some h → fit_action c n ≡ action_in h c.name.place c.parameters n
action_is c n h e =
    ap (λ o. wanted o UnknownName c.name.place >>= λ name. fits.givens_of (handler_parameters name) c >>= limited name c.name.place n) e
    ∙ ap (λ r. r >>= limited h c.name.place n) (givens_are (handler_parameters h) c)

-- WITH A NAME THAT IS KNOWN

pub test_made : (t : TestName) (place : ℕ) (ps : RawParameters) (n : fits.Counts) (gs : List Given) (x : Test × fits.Counts) →
    givens_in (test_parameters t) place ps ≡ Ok gs → made_test t gs n ≡ x → test_in t place ps n ≡ Ok x
test_made t place ps n gs x e made = ap (λ r. r >>= λ gs. Ok (made_test t gs n)) e ∙ ap (λ k. Ok k) made

pub test_fails : (t : TestName) (place : ℕ) (ps : RawParameters) (n : fits.Counts) (e : ParseFault) →
    Fails e (givens_in (test_parameters t) place ps) → Fails e (test_in t place ps n)
test_fails t place ps n e fails = fails_then e (givens_in (test_parameters t) place ps) (λ gs. Ok (made_test t gs n)) fails

pub action_made : (h : Handler) (place : ℕ) (ps : RawParameters) (n : fits.Counts) (gs : List Given) (x : Action × fits.Counts) →
    givens_in (handler_parameters h) place ps ≡ Ok gs → false ≡ (is_limit h && nat_le 16 n.limits) → made_action h gs n ≡ x → action_in h place ps n ≡ Ok x
action_made h place ps n gs x e free made =
    ap (λ r. r >>= limited h place n) e ∙ ap (λ t. if t then fault TooManyLimits place else Ok (made_action h gs n)) (sym free) ∙ ap (λ k. Ok k) made

pub action_full : (h : Handler) (place : ℕ) (ps : RawParameters) (n : fits.Counts) (gs : List Given) →
    givens_in (handler_parameters h) place ps ≡ Ok gs → true ≡ (is_limit h && nat_le 16 n.limits) →
    action_in h place ps n ≡ Err (record { kind = TooManyLimits; place = place })
action_full h place ps n gs e full =
    ap (λ r. r >>= limited h place n) e ∙ ap (λ t. if t then fault TooManyLimits place else Ok (made_action h gs n)) (sym full)

pub action_fails : (h : Handler) (place : ℕ) (ps : RawParameters) (n : fits.Counts) (e : ParseFault) →
    Fails e (givens_in (handler_parameters h) place ps) → Fails e (action_in h place ps n)
action_fails h place ps n e fails = fails_then e (givens_in (handler_parameters h) place ps) (limited h place n) fails

-- no row has more than three parameters
pub few_for_handler : (h : Handler) → length (handler_parameters h) ≤ 3
few_for_handler handlers.Set = omega arith
few_for_handler handlers.Clear = omega arith
few_for_handler handlers.Rewrite = omega arith
few_for_handler handlers.Redirect = omega arith
few_for_handler handlers.ResponseCode = omega arith
few_for_handler handlers.Header = omega arith
few_for_handler handlers.AllowedMethods = omega arith
few_for_handler handlers.RequestLimit = omega arith
few_for_handler handlers.Resource = omega arith
few_for_handler handlers.Blocking = omega arith
few_for_handler handlers.AccessLog = omega arith
few_for_handler handlers.Echo = omega arith

pub few_for_predicate : (t : TestName) → length (test_parameters t) ≤ 3
few_for_predicate tests.True = omega arith
few_for_predicate tests.False = omega arith
few_for_predicate tests.Path = omega arith
few_for_predicate tests.PathPrefix = omega arith
few_for_predicate tests.PathSuffix = omega arith
few_for_predicate tests.PathTemplate = omega arith
few_for_predicate tests.Regex = omega arith
few_for_predicate tests.Method = omega arith
few_for_predicate tests.Equals = omega arith
few_for_predicate tests.Contains = omega arith
few_for_predicate tests.Exists = omega arith
