use Rattle.std.proofs.Common.{◌≡◌, take}
use Rattle.std.specs.List.{list_any}
use Rattle.std.specs.Str.{bytes_eq}
use Rattle.http_header.specs.Token.{lowercase}
use Rattle.tow_request.specs.Lines.{elements_in, fields_at}
use Rattle.tow_request.proofs.elements.has_listed.Given as goal

abbrev pub invariant-loop-line : goal.invariant-loop-line
invariant-loop-line l =
    l.is_listed
    ≡ list_any (λ f. list_any (bytes_eq (lowercase l.word)) (elements_in l.name f)) (fields_at l.bytes (take l.line-index l.lines))
