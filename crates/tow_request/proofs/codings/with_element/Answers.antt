use Rattle.std.proofs.Common.{◌∙◌, sym, codes}
use Rattle.http_header.specs.Token.{lowercase}
use Rattle.tow_request.proofs.Summing.{sums_read}
use Rattle.tow_request.proofs.Deciding.{equal_back}
use Rattle.tow_request.proofs.codings.with_element.Goals as goal

pub returns : goal.returns
returns c = λ before sums.
    sums_read before c.args.element.now c.args.codings c.eq_ignore_ascii_case.result sums (sym c.is_empty.ensures ∙ c.if-is_empty.false)
    (equal_back c.eq_ignore_ascii_case.result (codes "chunked") (lowercase c.args.element.now) c.eq_ignore_ascii_case.ensures.test)
