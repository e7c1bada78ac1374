-- The kind and place that a refusal names; none for want of memory.
use Rattle.std.specs.Prelude.{ℕ, Bool, true, nat_lt, Option, Some, None}
use Rattle.tow_language.specs.declared.kind.Kind.{Kind}
use Rattle.tow_language.specs.declared.kind.Kind.TheVariants as kinds
use Rattle.tow_language.specs.Fit.{TextFault}
use Rattle.tow_lex.specs.declared.fault.LexFault.{LexFault}
use Rattle.tow_lex.specs.declared.fault.LexFault.TheVariants.{UnclosedQuote, UnclosedBrace, StrayByte, TooLong, NoMemory}

abbrev pub named_at : Kind → ℕ → Option TextFault
named_at kind place = Some (record { kind = kind; place = place })

abbrev pub lex_fault : LexFault → Option TextFault
lex_fault (UnclosedQuote place) = named_at kinds.UnclosedQuote place
lex_fault (UnclosedBrace place) = named_at kinds.UnclosedBrace place
lex_fault (StrayByte place) = named_at kinds.StrayByte place
lex_fault TooLong = named_at kinds.TooLong 65536
lex_fault NoMemory = None

-- the fault is before the place; or it is none of a place
abbrev pub comes_before : LexFault → ℕ → Bool
comes_before (UnclosedQuote at) place = nat_lt at place
comes_before (UnclosedBrace at) place = nat_lt at place
comes_before (StrayByte at) place = nat_lt at place
comes_before TooLong place = true
comes_before NoMemory place = true
