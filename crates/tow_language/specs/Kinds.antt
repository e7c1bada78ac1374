-- The names of the kinds of faults, as a person meets them.
use Rattle.std.specs.Prelude.{ℕ, List, codes}
use Rattle.tow_language.specs.declared.kind.Kind.{Kind}
use Rattle.tow_language.specs.declared.kind.Kind.TheVariants.{TooLong, UnclosedQuote, UnclosedBrace, StrayByte, Unexpected, TooDeep, UnknownName, BadParameter, BadAttribute, BadTarget, TooManyLimits, BadPattern, LargePattern}

abbrev pub kind_name : Kind → List ℕ
kind_name TooLong = codes "TooLong"
kind_name UnclosedQuote = codes "UnclosedQuote"
kind_name UnclosedBrace = codes "UnclosedBrace"
kind_name StrayByte = codes "StrayByte"
kind_name Unexpected = codes "Unexpected"
kind_name TooDeep = codes "TooDeep"
kind_name UnknownName = codes "UnknownName"
kind_name BadParameter = codes "BadParameter"
kind_name BadAttribute = codes "BadAttribute"
kind_name BadTarget = codes "BadTarget"
kind_name TooManyLimits = codes "TooManyLimits"
kind_name BadPattern = codes "BadPattern"
kind_name LargePattern = codes "LargePattern"
