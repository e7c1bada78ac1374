use Rattle.std.proofs.Common.{◌-◌, ℕ, List, length, drop, subst, arith, length-take, length-drop}
use Rattle.std.proofs.lemmas.List.{take_rest}
use Rattle.tow_sink.specs.Calls.{OnWrite}
use Rattle.tow_sink.specs.Steps.{Holds}
use Rattle.tow_sink.specs.BufferedFeeding.{FeedsBuffered}
use Rattle.tow_sink.proofs.BufferedWrites.{starts, goes_on, ends_short, ends_whole}
use Rattle.tow_sink.proofs.buffered.BufferedStreamSink.write.Goals as goal

pub loop-count-init : goal.loop-count-init
loop-count-init g c = record {
  within = omega arith;
  law = starts (g.S.StreamSink.feeds c.args.self.now.inner) c.args.self.now.held c.args.self.now.is_handing c.args.from.now c.args.pipe.now;
}

pub loop-count-preserved : goal.loop-count-preserved
loop-count-preserved g c =
    let now = c.loop-count in
    let rest = take_rest c.args.from.now now.count in
    let law = subst
    (λ (l : List ℕ). OnWrite (FeedsBuffered (g.S.StreamSink.feeds now.self.inner) now.self.held now.self.is_handing)
    (FeedsBuffered (g.S.StreamSink.feeds c.hold-more.new.self.inner) c.hold-more.new.self.held c.hold-more.new.self.is_handing)
    (Holds c.hold-more.result l now.pipe c.hold-more.new.pipe))
    rest c.hold-more.ensures.law in
    record {
      within = omega (arith, c.hold-more.ensures.count, length-take (length c.args.from.now - now.count) (drop now.count c.args.from.now), length-drop now.count c.args.from.now, c.loop-count-test.true);
      law = goes_on _ _ _ c.args.self.now.is_handing now.self.is_handing c.hold-more.new.self.is_handing c.args.self.now.held now.self.held c.hold-more.new.self.held
          c.args.from.now now.count c.hold-more.result c.args.pipe.now now.pipe c.hold-more.new.pipe
          now.invariant.law law now.invariant.within (omega (arith, c.if-more-eq0.false));
    }

pub returns-then-more-eq0-clause-law : goal.returns-then-more-eq0-clause-law
returns-then-more-eq0-clause-law g c =
    let now = c.loop-count in
    let rest = take_rest c.args.from.now now.count in
    let law = subst
    (λ (l : List ℕ). OnWrite (FeedsBuffered (g.S.StreamSink.feeds now.self.inner) now.self.held now.self.is_handing)
    (FeedsBuffered (g.S.StreamSink.feeds c.hold-more.new.self.inner) c.hold-more.new.self.held c.hold-more.new.self.is_handing)
    (Holds c.hold-more.result l now.pipe c.hold-more.new.pipe))
    rest c.hold-more.ensures.law in
    ends_short _ _ _ c.args.self.now.is_handing now.self.is_handing c.hold-more.new.self.is_handing c.args.self.now.held now.self.held c.hold-more.new.self.held
    c.args.from.now now.count c.hold-more.result c.args.pipe.now now.pipe c.hold-more.new.pipe
    now.invariant.law law c.loop-count-test.true (omega (arith, length-drop now.count c.args.from.now, c.loop-count-test.true)) c.if-more-eq0.true

pub returns-clause-law : goal.returns-clause-law
returns-clause-law g c =
    let now = c.loop-count in
    let within = now.invariant.within in
    ends_whole _ _ _ c.args.self.now.is_handing now.self.is_handing c.hand_on.new.self.is_handing c.args.self.now.held now.self.held c.hand_on.new.self.held
    c.args.from.now now.count c.args.pipe.now now.pipe c.hand_on.new.pipe
    now.invariant.law c.hand_on.ensures.handed (omega (arith, within, c.loop-count-test.false))
