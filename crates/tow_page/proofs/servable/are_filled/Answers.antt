use Rattle.std.proofs.Common.{◌∙◌, ◌≡◌, ap, drop, false, sym, true}
use Rattle.tow_page.specs.Segments.{are_filled}
use Rattle.tow_page.proofs.Segments.{ends_at, filled_is, stops_at}
use Rattle.tow_page.proofs.servable.are_filled.Goals as goal

pub returns-then-empty : goal.returns-then-empty
returns-then-empty c =
    let text = c.args.segments.now in
    let here : are_filled c.loop-byte.empty (drop c.loop-byte.byte-index text) ≡ false =
    ap (λ e. are_filled e (drop c.loop-byte.byte-index text)) c.if-empty.true ∙ stops_at text c.loop-byte.byte-index c.loop-byte-test.true c.if-byte-ne47.false in
    sym here ∙ c.loop-byte.invariant ∙ filled_is text

pub returns : goal.returns
returns c =
    let text = c.args.segments.now in
    sym (ends_at c.loop-byte.empty text c.loop-byte.byte-index c.loop-byte-test.false) ∙ c.loop-byte.invariant ∙ filled_is text
