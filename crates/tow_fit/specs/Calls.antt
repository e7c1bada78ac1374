-- What the written parts of a call stand for.
use Rattle.std.specs.Prelude.{map}
use Rattle.tow_language.specs.Raw.{Written, RawValue, one, array, RawParameters, unnamed, named, RawCall}
use Rattle.tow_language.specs.Fit as fits
use Rattle.tow_fit.specs.declared.call.WrittenText.{WrittenText}
use Rattle.tow_fit.specs.declared.call.WrittenValue.{WrittenValue}
use Rattle.tow_fit.specs.declared.call.WrittenValue.TheVariants as values
use Rattle.tow_fit.specs.declared.call.WrittenPair.{WrittenPair}
use Rattle.tow_fit.specs.declared.call.WrittenParameters.{WrittenParameters}
use Rattle.tow_fit.specs.declared.call.WrittenParameters.TheVariants as parameters
use Rattle.tow_fit.specs.declared.call.Call.{Call}
use Rattle.tow_fit.specs.declared.counts.Counts.{Counts}

abbrev pub written_of : WrittenText → Written
written_of text = record { bytes = text.bytes; place = text.place }

abbrev pub value_of : WrittenValue → RawValue
value_of (values.One text) = one (written_of text)
value_of (values.Array place texts) = array place (map written_of texts)

abbrev pub pair_of : WrittenPair → Written × RawValue
pair_of pair = (written_of pair.name, value_of pair.value)

abbrev pub parameters_of : WrittenParameters → RawParameters
parameters_of (parameters.Unnamed values) = unnamed (map value_of values)
parameters_of (parameters.Named pairs) = named (map pair_of pairs)

abbrev pub call_of : Call → RawCall
call_of call = record { name = written_of call.name; parameters = parameters_of call.parameters }

abbrev pub counts_of : Counts → fits.Counts
counts_of counts = record { limits = counts.limits; logs = counts.logs; patterns = counts.patterns }
