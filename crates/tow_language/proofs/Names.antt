-- Each name of the tables is found.
use Rattle.std.proofs.Common.{refl}
use Rattle.tow_language.specs.declared.table.Handler.TheVariants as handlers
use Rattle.tow_language.specs.declared.table.TestName.TheVariants as tests
use Rattle.tow_language.specs.Laws.{HandlersAreNamed, PredicatesAreNamed}

pub handlers_named : HandlersAreNamed
handlers_named handlers.Set = refl
handlers_named handlers.Clear = refl
handlers_named handlers.Rewrite = refl
handlers_named handlers.Redirect = refl
handlers_named handlers.ResponseCode = refl
handlers_named handlers.Header = refl
handlers_named handlers.AllowedMethods = refl
handlers_named handlers.RequestLimit = refl
handlers_named handlers.Resource = refl
handlers_named handlers.Blocking = refl
handlers_named handlers.AccessLog = refl
handlers_named handlers.Echo = refl

pub predicates_named : PredicatesAreNamed
predicates_named tests.True = refl
predicates_named tests.False = refl
predicates_named tests.Path = refl
predicates_named tests.PathPrefix = refl
predicates_named tests.PathSuffix = refl
predicates_named tests.PathTemplate = refl
predicates_named tests.Regex = refl
predicates_named tests.Method = refl
predicates_named tests.Equals = refl
predicates_named tests.Contains = refl
predicates_named tests.Exists = refl
