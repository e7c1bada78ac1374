use Rattle.std.proofs.Common.{◌≡◌, ◌≤◌, ℕ, min, take, length, refl, subst, arith, length-take}
use Rattle.tow_sink.specs.Calls.{OnWrite, Writes}
use Rattle.tow_sink.proofs.FixedCalls.{writes}
use Rattle.tow_sink.proofs.fixed.FixedStreamSink.write.Goals as goal

pub returns-clause-law : goal.returns-clause-law
returns-clause-law g c =
    let most : c.fitting-most.result ≡ min c.args.self.now.left (length c.args.from.now) = c.fitting-most.ensures in
    let fits : c.write-count.result ≤ min c.args.self.now.left (length c.args.from.now) =
    omega (arith, most, c.write-count.ensures.count, length-take c.fitting-most.result c.args.from.now) in
    writes _ _ c.args.self.now.left _ c.write-count.result c.args.from.now c.args.pipe.now c.write-count.new.pipe
    (subst
    (λ (k : ℕ). OnWrite (g.S.StreamSink.feeds c.args.self.now.inner) (g.S.StreamSink.feeds c.write-count.new.self) (Writes c.write-count.result (take k c.args.from.now) c.args.pipe.now c.write-count.new.pipe))
    most c.write-count.ensures.law)
    fits refl
