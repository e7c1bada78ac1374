use Rattle.std.proofs.Common.{subst, sym}
use Rattle.regex.specs.Failures.{IsRightKind}
use Rattle.tow_pattern.specs.Patterns.{over_bytes, IsGoodPattern}
use Rattle.tow_link.proofs.Refusing.{refused_is_bad}
use Rattle.tow_link.proofs.pack_maker.PackMakerMaker.make.Goals as goal

pub returns-in-Err-Syntax-clause-syntax : goal.returns-in-Err-Syntax-clause-syntax
returns-in-Err-Syntax-clause-syntax c is good =
    let fault = c.in-Err-Syntax in
    refused_is_bad _ _ (fault.ensures.refused fault.field-0-0 fault.field-0-is) (subst (IsRightKind over_bytes c.in-Ok.text.now) fault.field-0-is fault.ensures.kind) (subst IsGoodPattern (sym c.in-Ok.ensures.cases.0) good)
