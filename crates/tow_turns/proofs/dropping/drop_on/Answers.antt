use Rattle.std.proofs.Common.{List, Some, None, refl, sym, subst, ◌∙◌}
use Rattle.tow_model.specs.declared.account.End.TheVariants.{Done}
use Rattle.tow_sending.specs.Pieces.{Piece}
use Rattle.tow_stages.specs.Stages as model
use Rattle.tow_turns.specs.Data.{base_of, stage_of}
use Rattle.tow_turns.specs.Steps.{Leads}
use Rattle.tow_turns.proofs.Drops.{completes_fit, drop_goes_on, drops_more, taken_by}
use Rattle.tow_turns.proofs.dropping.drop_on.Goals as goal

pub returns-in-Whole : goal.returns-in-Whole
returns-in-Whole g c =
    let b = base_of g.L.Link.shows c.args.base.now in
    let pipe = c.drop_some.new.pipe in
    let after = model.closing c.args.closing None None in
    record {
      steps = λ s. subst (λ (x : List Piece). Leads s b (taken_by pipe b)
          (model.answering c.args.closing x c.args.closes (Some c.args.drain)) after) (sym c.requires.whole)
          ((drop_goes_on s b c.args.closing c.args.closes c.args.drain c.drop_some.new.drain c.drop_some.result pipe
          c.drop_some.ensures.drains).is_whole c.in-Whole.is);
      fits = λ role tree told n n' safe. completes_fit role tree told n n' b c.args.closing c.args.sending c.args.closes
          (Some c.args.drain) c.requires.whole safe pipe c.requires.written c.drop_some.ensures.nearer None tt after refl;
    }

pub returns-then-base : goal.returns-then-base
returns-then-base g c =
    let b = base_of g.L.Link.shows c.args.base.now in
    let pipe = c.drop_some.new.pipe in
    let after = stage_of c.ended_after-then-base.result in
    record {
      steps = λ s. subst (λ (x : model.Stage). Leads s b (taken_by pipe b)
          (model.answering c.args.closing c.args.sending c.args.closes (Some c.args.drain)) x) (sym c.ended_after-then-base.ensures.stage)
          (subst (λ (x : List Piece). Leads s b (taken_by pipe b)
          (model.answering c.args.closing x c.args.closes (Some c.args.drain)) (model.closing c.args.closing None (Some Done)))
          (sym c.requires.whole)
          ((drop_goes_on s b c.args.closing c.args.closes c.args.drain c.drop_some.new.drain c.drop_some.result pipe
          c.drop_some.ensures.drains).ends c.in-NotYet.is c.if-base.true c.requires.written));
      fits = λ role tree told n n' safe. completes_fit role tree told n n' b c.args.closing c.args.sending c.args.closes
          (Some c.args.drain) c.requires.whole safe pipe c.requires.written c.drop_some.ensures.nearer (Some Done) tt after
          c.ended_after-then-base.ensures.stage;
    }

pub returns-else-base : goal.returns-else-base
returns-else-base g c =
    let b = base_of g.L.Link.shows c.args.base.now in
    let pipe = c.drop_some.new.pipe in
    record {
      steps = λ s. subst (λ (x : List Piece). Leads s b (taken_by pipe b)
          (model.answering c.args.closing x c.args.closes (Some c.args.drain))
          (model.answering c.args.closing x c.args.closes (Some c.drop_some.new.drain))) (sym c.requires.whole)
          ((drop_goes_on s b c.args.closing c.args.closes c.args.drain c.drop_some.new.drain c.drop_some.result pipe
          c.drop_some.ensures.drains).waits c.in-NotYet.is);
      fits = λ role tree told n n' safe. drops_more role tree told n n' b c.args.closing c.args.sending c.args.closes
          (Some c.args.drain) c.requires.whole safe pipe c.requires.written c.drop_some.new.drain c.drop_some.ensures.reads
          (c.drop_some.ensures.all c.in-NotYet.is) (c.drop_some.ensures.capacity ∙ c.args.base.now.port.input_len) c.if-base.false;
    }

pub returns-in-Bad : goal.returns-in-Bad
returns-in-Bad g c =
    let b = base_of g.L.Link.shows c.args.base.now in
    let pipe = c.drop_some.new.pipe in
    let after = stage_of c.ended_after.result in
    record {
      steps = λ s. subst (λ (x : model.Stage). Leads s b (taken_by pipe b)
          (model.answering c.args.closing c.args.sending c.args.closes (Some c.args.drain)) x) (sym c.ended_after.ensures.stage)
          (subst (λ (x : List Piece). Leads s b (taken_by pipe b)
          (model.answering c.args.closing x c.args.closes (Some c.args.drain)) (model.closing c.args.closing None (Some Done)))
          (sym c.requires.whole)
          ((drop_goes_on s b c.args.closing c.args.closes c.args.drain c.drop_some.new.drain c.drop_some.result pipe
          c.drop_some.ensures.drains).is_refused c.in-Bad.is c.requires.written));
      fits = λ role tree told n n' safe. completes_fit role tree told n n' b c.args.closing c.args.sending c.args.closes
          (Some c.args.drain) c.requires.whole safe pipe c.requires.written c.drop_some.ensures.nearer (Some Done) tt after
          c.ended_after.ensures.stage;
    }
