-- The table in code, as the definitions have it.
use Rattle.std.specs.Prelude.{ℕ, List, map, option_map}
use Rattle.tow_language.specs.declared.signatures.Parameter.{Parameter}
use Rattle.tow_language.specs.declared.signatures.Signature.{Signature}
use Rattle.tow_language.specs.declared.signatures.Standard.{Standard}
use Rattle.tow_language.specs.declared.signatures.Standard.TheVariants as standards
use Rattle.tow_language.specs.declared.table.Given.{Given}
use Rattle.tow_language.specs.declared.table.Given.TheVariants as givens
use Rattle.tow_language.specs.declared.table.Handler.{Handler}
use Rattle.tow_language.specs.declared.table.TestName.{TestName}
use Rattle.tow_language.specs.Table as table
use Rattle.tow_language.specs.Templates.{common}

-- what stands for a parameter that is not written
abbrev pub standard_of : Standard → Given
standard_of standards.ThePath = table.the_path
standard_of (standards.Truth truth) = givens.Truth truth
standard_of standards.Common = givens.Template common

abbrev pub parameter_as : Parameter → table.Parameter
parameter_as p =
    record { name = p.name.now; shape = p.shape; default = option_map standard_of p.standard }

-- the name of a call, and its parameters in their order
pub record Row : Type 0 where
  pub name : List ℕ
  pub parameters : List table.Parameter

abbrev pub signature_as : Signature → Row
signature_as s = record { name = s.name.now; parameters = map parameter_as s.parameters.now }

abbrev pub test_signature : TestName → Row
test_signature t = record { name = table.test_name t; parameters = table.test_parameters t }

abbrev pub handler_signature : Handler → Row
handler_signature h = record { name = table.handler_name h; parameters = table.handler_parameters h }
