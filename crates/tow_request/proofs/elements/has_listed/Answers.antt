use Rattle.std.proofs.Common.{◌≡◌, take, take_all, ap, ◌∙◌, arith}
use Rattle.std.specs.List.{list_any}
use Rattle.std.specs.Str.{bytes_eq}
use Rattle.http_header.specs.Token.{lowercase}
use Rattle.tow_request.specs.Lines.{elements_in, fields_at}
use Rattle.tow_request.proofs.Listing.{any_line}
use Rattle.tow_request.proofs.elements.has_listed.Goals as goal

pub returns : goal.returns
returns c =
    let test = bytes_eq (lowercase c.args.word.now) in
    let all : take c.loop-line.line-index c.args.lines.now ≡ c.args.lines.now = take_all _ _ (omega arith) in
    c.loop-line.invariant
    ∙ ap (λ lines. list_any (λ f. list_any test (elements_in c.args.name.now f)) (fields_at c.args.bytes.now lines)) all
    ∙ any_line test c.args.name.now (fields_at c.args.bytes.now c.args.lines.now)
