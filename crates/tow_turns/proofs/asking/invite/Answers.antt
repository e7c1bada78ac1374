use Rattle.std.proofs.Common.{ℕ, ◌++◌, sym, ◌∙◌, ap}
use Rattle.circular_buffer.specs.Buffer.{buffer}
use Rattle.tow_wire.specs.Answers.{continue_text}
use Rattle.tow_turns.specs.Data.{base_of, port_of, stage_of}
use Rattle.tow_turns.specs.declared.stage.Stage.TheVariants as stage
use Rattle.tow_turns.proofs.Asks.{holds_some, invited, invited_fits, port_with, waits_fits, waits_on}
use Rattle.tow_turns.proofs.asking.invite.Goals as goal

pub returns-then-put : goal.returns-then-put
returns-then-put g c =
    let old = c.args.base.now.port in
    let b = base_of g.L.Link.shows c.args.base.now in
    let a = c.args.asking in
    let is = port_with g.L.Link.shows old c.put.new.self (buffer (old.output.items ++ continue_text) old.output.capacity)
    c.put.ensures.link c.put.ensures.input c.put.ensures.ended
    (c.put.ensures.put c.if-put.true ∙ ap (λ (n : ℕ). buffer (old.output.items ++ continue_text) n) (sym old.output_len)) in
    record {
      steps = λ s. invited s b a.exchange a.gathering a.to_invite (port_of g.L.Link.shows c.put.new.self) c.requires.told is;
      fits = λ role tree told n n' safe. invited_fits role tree told n n' b a.exchange a.gathering a.to_invite
          (port_of g.L.Link.shows c.put.new.self) c.requires.told is safe;
    }

pub returns : goal.returns
returns g c =
    let old = c.args.base.now.port in
    let b = base_of g.L.Link.shows c.args.base.now in
    let a = c.args.asking in
    let is = port_with g.L.Link.shows old c.put.new.self old.output c.put.ensures.link c.put.ensures.input c.put.ensures.ended
    (c.put.ensures.none c.if-put.false) in
    record {
      steps = λ s. waits_on s b (stage_of (stage.Gathering a)) (port_of g.L.Link.shows c.put.new.self) is;
      fits = λ role tree told n n' safe. waits_fits role tree told n n' b a.exchange a.gathering a.to_invite
          (port_of g.L.Link.shows c.put.new.self) c.requires.told is (c.put.ensures.full c.if-put.false)
          (holds_some old.output old.output_len (c.put.ensures.full c.if-put.false)) safe;
    }
