use Rattle.std.proofs.Common.{subst, inl, IfSome}
use Rattle.tow_language.specs.declared.kind.Kind.TheVariants as kinds
use Rattle.tow_language.specs.Tokens.{IsTokenFault}
use Rattle.tow_lex.specs.Faults.{lex_fault}
use Rattle.tow_site.proofs.Naming.{named}
use Rattle.tow_site.proofs.refusing.fault_of_tokens.Goals as goal

pub returns-in-StrayByte-clause-fault : goal.returns-in-StrayByte-clause-fault
returns-in-StrayByte-clause-fault c =
    named _ kinds.StrayByte c.in-StrayByte.place _ c.fault_at-in-StrayByte.ensures
    (inl (subst (λ f. IfSome (lex_fault f) (λ x. IsTokenFault c.args.text.now x.kind x.place)) c.in-StrayByte.is c.requires))

pub returns-in-TooLong-clause-fault : goal.returns-in-TooLong-clause-fault
returns-in-TooLong-clause-fault c =
    named _ kinds.TooLong 65536 _ c.fault_at-in-TooLong.ensures
    (inl (subst (λ f. IfSome (lex_fault f) (λ x. IsTokenFault c.args.text.now x.kind x.place)) c.in-TooLong.is c.requires))
