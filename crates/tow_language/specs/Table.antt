-- The predicates and handlers, each with its parameters, and the shapes of these.
use Rattle.std.specs.Prelude.{ℕ, Bool, true, false, List, [], ◌∷◌, codes, bytes_eq, find, Option, None, Some}
use Rattle.tow_model.specs.declared.attribute.Attribute.TheVariants as attributes
use Rattle.tow_model.specs.declared.attribute.Piece.TheVariants.{Value}
use Rattle.tow_language.specs.declared.table.TestName.{TestName}
use Rattle.tow_language.specs.declared.table.TestName.TheVariants as tests
use Rattle.tow_language.specs.declared.table.Handler.{Handler}
use Rattle.tow_language.specs.declared.table.Handler.TheVariants as handlers
use Rattle.tow_language.specs.declared.table.Shape.{Shape}
use Rattle.tow_language.specs.declared.table.Shape.TheVariants as shapes
use Rattle.tow_language.specs.declared.table.Given.{Given}
use Rattle.tow_language.specs.declared.table.Given.TheVariants as givens
use Rattle.tow_language.specs.Templates.{common}

-- a parameter, and what it stands for where it is not written; without that it has to be written
pub record Parameter : Type 0 where
  pub name : List ℕ
  pub shape : Shape
  pub default : Option Given

abbrev pub needs : List ℕ → Shape → Parameter
needs name shape = record { name = name; shape = shape; default = None }

abbrev pub may : List ℕ → Shape → Given → Parameter
may name shape default = record { name = name; shape = shape; default = Some default }

-- `%R`
abbrev pub the_path : Given
the_path = givens.Template (Value attributes.RelativePath ∷ [])

abbrev pub test_name : TestName → List ℕ
test_name tests.True = codes "true"
test_name tests.False = codes "false"
test_name tests.Path = codes "path"
test_name tests.PathPrefix = codes "path-prefix"
test_name tests.PathSuffix = codes "path-suffix"
test_name tests.PathTemplate = codes "path-template"
test_name tests.Regex = codes "regex"
test_name tests.Method = codes "method"
test_name tests.Equals = codes "equals"
test_name tests.Contains = codes "contains"
test_name tests.Exists = codes "exists"

abbrev pub test_parameters : TestName → List Parameter
test_parameters tests.True = []
test_parameters tests.False = []
test_parameters tests.Path = needs (codes "path") shapes.Paths ∷ []
test_parameters tests.PathPrefix = needs (codes "path") shapes.Prefixes ∷ []
test_parameters tests.PathSuffix = needs (codes "path") shapes.Texts ∷ []
test_parameters tests.PathTemplate = needs (codes "match") shapes.Match ∷ may (codes "value") shapes.OneTemplate the_path ∷ []
test_parameters tests.Regex = needs (codes "pattern") shapes.Pattern ∷ may (codes "value") shapes.OneTemplate the_path ∷ []
test_parameters tests.Method = needs (codes "value") shapes.Texts ∷ []
test_parameters tests.Equals = needs (codes "value") shapes.Templates ∷ []
test_parameters tests.Contains = needs (codes "value") shapes.OneTemplate ∷ needs (codes "search") shapes.Texts ∷ []
test_parameters tests.Exists = needs (codes "value") shapes.OneTemplate ∷ []

abbrev pub handler_name : Handler → List ℕ
handler_name handlers.Set = codes "set"
handler_name handlers.Clear = codes "clear"
handler_name handlers.Rewrite = codes "rewrite"
handler_name handlers.Redirect = codes "redirect"
handler_name handlers.ResponseCode = codes "response-code"
handler_name handlers.Header = codes "header"
handler_name handlers.AllowedMethods = codes "allowed-methods"
handler_name handlers.RequestLimit = codes "request-limit"
handler_name handlers.Resource = codes "resource"
handler_name handlers.Blocking = codes "blocking"
handler_name handlers.AccessLog = codes "access-log"
handler_name handlers.Echo = codes "echo"

abbrev pub handler_parameters : Handler → List Parameter
handler_parameters handlers.Set = needs (codes "attribute") shapes.Writable ∷ needs (codes "value") shapes.OneTemplate ∷ []
handler_parameters handlers.Clear = needs (codes "attribute") shapes.Writable ∷ []
handler_parameters handlers.Rewrite = needs (codes "value") shapes.OneTemplate ∷ []
handler_parameters handlers.Redirect = needs (codes "value") shapes.OneTemplate ∷ []
handler_parameters handlers.ResponseCode = needs (codes "value") shapes.Status ∷ []
handler_parameters handlers.Header =
    needs (codes "header") shapes.FieldName ∷ needs (codes "value") shapes.OneTemplate ∷ may (codes "override") shapes.Truth (givens.Truth true) ∷ []
handler_parameters handlers.AllowedMethods = needs (codes "methods") shapes.Tokens ∷ []
handler_parameters handlers.RequestLimit = needs (codes "requests") (shapes.Number 1 65535) ∷ []
handler_parameters handlers.Resource = needs (codes "location") shapes.Location ∷ may (codes "allow-listing") shapes.Truth (givens.Truth false) ∷ []
handler_parameters handlers.Blocking = []
handler_parameters handlers.AccessLog = may (codes "format") shapes.Format (givens.Template common) ∷ []
handler_parameters handlers.Echo = []

abbrev pub all_tests : List TestName
all_tests = tests.True ∷ tests.False ∷ tests.Path ∷ tests.PathPrefix ∷ tests.PathSuffix ∷ tests.PathTemplate ∷ tests.Regex ∷ tests.Method ∷ tests.Equals
    ∷ tests.Contains ∷ tests.Exists ∷ []

abbrev pub all_handlers : List Handler
all_handlers = handlers.Set ∷ handlers.Clear ∷ handlers.Rewrite ∷ handlers.Redirect ∷ handlers.ResponseCode ∷ handlers.Header ∷ handlers.AllowedMethods
    ∷ handlers.RequestLimit ∷ handlers.Resource ∷ handlers.Blocking ∷ handlers.AccessLog ∷ handlers.Echo ∷ []

-- the test or the handler of this name
abbrev pub test_named : List ℕ → Option TestName
test_named name = find (λ t. bytes_eq (test_name t) name) all_tests

abbrev pub handler_named : List ℕ → Option Handler
handler_named name = find (λ h. bytes_eq (handler_name h) name) all_handlers

-- whether a parameter of this shape takes an array
abbrev pub takes_array : Shape → Bool
takes_array shapes.Texts = true
takes_array shapes.Paths = true
takes_array shapes.Prefixes = true
takes_array shapes.Tokens = true
takes_array shapes.Templates = true
takes_array other = false
