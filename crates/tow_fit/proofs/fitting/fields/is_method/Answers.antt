use Rattle.std.proofs.Common.{◌↔◌, subst}
use Rattle.std.specs.Prelude.{IsTrue}
use Rattle.http_header.specs.Token.{IsToken}
use Rattle.tow_fit.proofs.Fields.{method_is}
use Rattle.tow_fit.proofs.fitting.fields.is_method.Goals as goal

pub returns : goal.returns
returns c =
    method_is c.args.text.now c.is_token.result (subst (λ k. IsTrue c.is_token.result ↔ IsToken k) c.as_slice.ensures c.is_token.ensures)
