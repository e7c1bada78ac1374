use Rattle.std.proofs.Common.{arith}
use Rattle.std.proofs.lemmas.Result.{MatchResult-weaker}
use Rattle.tow_lex.proofs.Stops.{valid_faults}
use Rattle.tow_lex.proofs.lexer.tokens.Goals as goal

pub returns-in-Ok-clause-err : goal.returns-in-Ok-clause-err
returns-in-Ok-clause-err c =
    MatchResult-weaker c.scan.result c.scan.ensures.err (λ x t. t) (λ fault s. valid_faults c.args.text.now fault (omega arith) c.in-Ok.ensures.cases.1 s)
