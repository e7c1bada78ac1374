use Rattle.std.proofs.Common.{◌≡◌, ◌<◌, true, length, sym, ◌∙◌, arith}
use Rattle.tow_source.specs.Places.{is_framing}
use Rattle.tow_source.proofs.ChunkedAnswers.{one_more_runs, one_more_gives}
use Rattle.tow_source.proofs.chunked.ChunkedSource.step_over.Goals as goal

pub loop-count-preserved : goal.loop-count-preserved
loop-count-preserved c =
    let less : c.loop-count.count < length c.args.bytes.now = omega (arith, c.loop-count-test.true) in
    let around : is_framing c.loop-count.self.place ≡ true = sym c.is_framing.ensures ∙ c.if-is_framing.true in
    record {
      within = omega (arith, less);
      runs = one_more_runs c.args.self.now c.loop-count.self c.step.new.self c.args.bytes.now c.loop-count.count less c.loop-count.invariant.runs around c.step.ensures;
      nothing = one_more_gives c.args.self.now c.loop-count.self c.args.bytes.now c.loop-count.count less c.loop-count.invariant.runs around c.loop-count.invariant.nothing;
    }
