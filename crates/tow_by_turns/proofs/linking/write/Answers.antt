use Rattle.std.proofs.Common.{◌<◌, ℕ, inl, refl, sym, subst, length, arith}
use Rattle.circular_buffer.specs.Buffer.{Buffer}
use Rattle.tow_model.specs.declared.account.End.TheVariants.{LinkFault}
use Rattle.tow_stages.specs.Moving.{over}
use Rattle.tow_turns.specs.Data.{base_of, port_of, stage_of}
use Rattle.tow_turns.proofs.Tellings.{then_on}
use Rattle.tow_by_turns.proofs.Links.{cut_fits, moves_fits, port_written, stalls_fits, write_leads}
use Rattle.tow_by_turns.proofs.Stages.{live_writing, safe_written}
use Rattle.tow_by_turns.proofs.linking.write.Goals as goal

pub cut-requires : goal.cut-requires
cut-requires g c = record { early = c.requires.early; fault = λ is. cc }

pub returns-in-Took : goal.returns-in-Took
returns-in-Took g c =
    let shows = g.L.Link.shows in
    let b = base_of shows c.args.base.now in
    let p = port_of shows c.write.new.self in
    let stage = stage_of c.args.stage in
    record {
      steps = λ s same. write_leads s b stage p (live_writing stage c.requires.live)
          (port_written shows c.args.base.now.port c.write.new.self c.write.result c.write.ensures.sends c.write.ensures.input c.write.ensures.ended);
      fits = λ role spent tree told safe needs below. moves_fits role tree told b p stage c.args.moved.now c.saturating_add.result
          (safe_written tree told b p stage c.requires.some c.requires.live safe) c.write.ensures.ended c.write.ensures.later below
          (omega (arith, below, c.saturating_add.ensures, c.in-Took.ensures.sends.some));
      idle = tt;
    }

pub returns-in-NotYet : goal.returns-in-NotYet
returns-in-NotYet g c =
    let shows = g.L.Link.shows in
    let b = base_of shows c.args.base.now in
    let p = port_of shows c.write.new.self in
    let stage = stage_of c.args.stage in
    record {
      steps = λ s same. write_leads s b stage p (live_writing stage c.requires.live)
          (port_written shows c.args.base.now.port c.write.new.self c.write.result c.write.ensures.sends c.write.ensures.input c.write.ensures.ended);
      fits = λ role spent tree told safe needs below. stalls_fits role tree told b p stage c.args.moved.now
          (safe_written tree told b p stage c.requires.some c.requires.live safe) (
            needs.0,
            inl (
              c.in-NotYet.ensures.stalled refl,
              subst (λ (x : Buffer ℕ). 0 < length x.items) (sym c.in-NotYet.ensures.sends.1) c.requires.some,
              c.requires.live,
            ),
          )
          c.write.ensures.later;
      idle = refl;
    }

pub returns-in-Failed : goal.returns-in-Failed
returns-in-Failed g c =
    let shows = g.L.Link.shows in
    let b = base_of shows c.args.base.now in
    let p = port_of shows c.write.new.self in
    let stage = stage_of c.args.stage in
    record {
      steps = λ s same. then_on s b (over p b) (over p b) stage stage (stage_of c.cut.result)
          (write_leads s b stage p (live_writing stage c.requires.live)
          (port_written shows c.args.base.now.port c.write.new.self c.write.result c.write.ensures.sends c.write.ensures.input c.write.ensures.ended))
          (c.cut.ensures.steps s (over p b) same);
      fits = λ role spent tree told safe needs below. cut_fits role tree told b p stage (stage_of c.cut.result) LinkFault c.args.moved.now
          c.requires.live (c.cut.ensures.safe tree told (over p b) (safe_written tree told b p stage c.requires.some c.requires.live safe))
          (c.cut.ensures.ends c.requires.live) c.write.ensures.ended c.write.ensures.later (c.in-Failed.ensures.failed refl);
      idle = tt;
    }
