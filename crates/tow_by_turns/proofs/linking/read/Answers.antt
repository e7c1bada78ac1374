use Rattle.std.proofs.Common.{◌<◌, ℕ, inr, refl, sym, ap, subst, ◌∙◌, arith}
use Rattle.circular_buffer.specs.Buffer.{Buffer}
use Rattle.tow_model.specs.declared.account.End.TheVariants.{LinkFault}
use Rattle.tow_stages.specs.Moving.{over}
use Rattle.tow_port.specs.Ports.{room_of}
use Rattle.tow_turns.specs.Data.{base_of, port_of, stage_of}
use Rattle.tow_turns.proofs.Tellings.{then_on}
use Rattle.tow_turns.proofs.PortSteps.{port_read}
use Rattle.tow_by_turns.proofs.Links.{cut_fits, ended_fits, moves_fits, read_leads, stalls_fits}
use Rattle.tow_by_turns.proofs.Stages.{reads_live, reads_over, reads_room, reads_taking, safe_over}
use Rattle.tow_by_turns.proofs.linking.read.Goals as goal

pub fill-requires : goal.fill-requires
fill-requires g c = (reads_room (base_of g.L.Link.shows c.args.base.now) (stage_of c.args.stage) c.requires.reads).0

pub cut-requires : goal.cut-requires
cut-requires g c = record { early = c.requires.early; fault = λ is. cc }

pub returns-in-Got : goal.returns-in-Got
returns-in-Got g c =
    let shows = g.L.Link.shows in
    let b = base_of shows c.args.base.now in
    let p = port_of shows c.fill.new.self in
    let stage = stage_of c.args.stage in
    record {
      steps = λ s same. read_leads s b stage p (reads_taking b stage c.requires.reads)
          (port_read shows c.args.base.now.port c.fill.new.self c.fill.result c.fill.ensures.fills c.fill.ensures.output);
      fits = λ role spent tree told safe needs below. moves_fits role tree told b p stage c.args.moved.now c.saturating_add.result
          (safe_over tree told b p stage c.fill.ensures.output safe) c.in-Got.ensures.fills.1 c.fill.ensures.later below
          (omega (arith, below, c.saturating_add.ensures, c.in-Got.ensures.fills.0.some));
      idle = tt;
    }

pub returns-in-End : goal.returns-in-End
returns-in-End g c =
    let shows = g.L.Link.shows in
    let b = base_of shows c.args.base.now in
    let p = port_of shows c.fill.new.self in
    let stage = stage_of c.args.stage in
    record {
      steps = λ s same. read_leads s b stage p (reads_taking b stage c.requires.reads)
          (port_read shows c.args.base.now.port c.fill.new.self c.fill.result c.fill.ensures.fills c.fill.ensures.output);
      fits = λ role spent tree told safe needs below. ended_fits role tree told b p stage c.args.moved.now
          (safe_over tree told b p stage c.fill.ensures.output safe) (reads_room b stage c.requires.reads).1 c.in-End.ensures.fills.3
          c.fill.ensures.later;
      idle = tt;
    }

pub returns-in-NotYet : goal.returns-in-NotYet
returns-in-NotYet g c =
    let shows = g.L.Link.shows in
    let b = base_of shows c.args.base.now in
    let p = port_of shows c.fill.new.self in
    let stage = stage_of c.args.stage in
    let can = reads_room b stage c.requires.reads in
    record {
      steps = λ s same. read_leads s b stage p (reads_taking b stage c.requires.reads)
          (port_read shows c.args.base.now.port c.fill.new.self c.fill.result c.fill.ensures.fills c.fill.ensures.output);
      fits = λ role spent tree told safe needs below. stalls_fits role tree told b p stage c.args.moved.now
          (safe_over tree told b p stage c.fill.ensures.output safe) (
            needs.0,
            inr (
              c.in-NotYet.ensures.stalled refl,
              ap (λ (x : Buffer ℕ). x.items) c.fill.ensures.output ∙ needs.3,
              reads_over b p stage
                  (subst (λ (x : Buffer ℕ). 0 < room_of x) (sym c.in-NotYet.ensures.fills.1) can.0, c.in-NotYet.ensures.fills.2 ∙ can.1) c.requires.reads,
            ),
          )
          c.fill.ensures.later;
      idle = refl;
    }

pub returns-in-Failed : goal.returns-in-Failed
returns-in-Failed g c =
    let shows = g.L.Link.shows in
    let b = base_of shows c.args.base.now in
    let p = port_of shows c.fill.new.self in
    let stage = stage_of c.args.stage in
    record {
      steps = λ s same. then_on s b (over p b) (over p b) stage stage (stage_of c.cut.result)
          (read_leads s b stage p (reads_taking b stage c.requires.reads)
          (port_read shows c.args.base.now.port c.fill.new.self c.fill.result c.fill.ensures.fills c.fill.ensures.output))
          (c.cut.ensures.steps s (over p b) same);
      fits = λ role spent tree told safe needs below. cut_fits role tree told b p stage (stage_of c.cut.result) LinkFault c.args.moved.now
          (reads_live b stage c.requires.reads)
          (c.cut.ensures.safe tree told (over p b) (safe_over tree told b p stage c.fill.ensures.output safe))
          (c.cut.ensures.ends (reads_live b stage c.requires.reads)) c.in-Failed.ensures.fills.2 c.fill.ensures.later
          (c.in-Failed.ensures.failed refl);
      idle = tt;
    }
