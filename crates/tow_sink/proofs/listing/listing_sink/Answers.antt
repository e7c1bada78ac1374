use Rattle.std.proofs.lemmas.Result.{IfOk-weaker}
use Rattle.tow_sink.proofs.ListingCalls.{opens_listing}
use Rattle.tow_sink.proofs.listing.listing_sink.Goals as goal

pub returns : goal.returns
returns c =
    IfOk-weaker c.new-2.result _ _
    (λ sink third. opens_listing _ _ _ c.new.ensures c.new-inner.ensures third)
    c.new-2.ensures
