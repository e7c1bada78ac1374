use Rattle.std.proofs.Common.{◌≡◌, List, [], Option, Some, None, if◌then◌else◌, sym, subst, arith}
use Rattle.std.proofs.lemmas.List.{nil_from_length}
use Rattle.tow_model.specs.declared.account.End.TheVariants.{Done}
use Rattle.tow_source.specs.declared.drain.Drain.{Drain}
use Rattle.tow_content.specs.declared.source.ContentSource.{ContentSource}
use Rattle.tow_sending.specs.Pieces.{Piece}
use Rattle.tow_stages.specs.Stages as model
use Rattle.tow_turns.specs.Contents.{DropsSome}
use Rattle.tow_turns.specs.Data.{base_of, stage_of}
use Rattle.tow_turns.specs.Nexts.{StepFits}
use Rattle.tow_turns.specs.Safe.{IsSafe}
use Rattle.tow_turns.specs.Steps.{Leads}
use Rattle.tow_turns.specs.declared.stage.Stage.TheVariants as stage
use Rattle.tow_turns.proofs.Cuts.{rests}
use Rattle.tow_turns.proofs.Drops.{closing_may_come, completes_fit, completes_on, leaves_to_loop, leaves_to_write}
use Rattle.tow_turns.proofs.Fits.{is_no_loop}
use Rattle.tow_turns.proofs.dropping.leave_on.Goals as goal

pub returns-then-not-is_loop : goal.returns-then-not-is_loop
returns-then-not-is_loop g c =
    let b = base_of g.L.Link.shows c.args.base.now in
    let a = c.args.answering in
    record {
      steps = λ s. rests s b (stage_of (stage.Answering a));
      fits = λ tree told n n' safe. leaves_to_loop c.args.role tree told n n' b a.closing a.sending a.closes a.drain c.requires.whole safe
          (is_no_loop c.args.role c.is_loop.result c.is_loop.ensures c.if-not-is_loop.true);
      written = λ is. absurd (cc);
    }

pub returns-then-len-gt0 : goal.returns-then-len-gt0
returns-then-len-gt0 g c =
    let b = base_of g.L.Link.shows c.args.base.now in
    let a = c.args.answering in
    record {
      steps = λ s. rests s b (stage_of (stage.Answering a));
      fits = λ tree told n n' safe. leaves_to_write c.args.role tree told n n' b a.closing a.sending a.closes a.drain c.requires.whole safe
          (omega arith);
      written = λ is. absurd (cc);
    }

pub drop_on-requires : goal.drop_on-requires
drop_on-requires g c = record {
  whole = c.requires.whole;
  written = nil_from_length _ (omega arith);
  reads = subst (λ (x : Option (Drain ContentSource)). DropsSome x) c.in-Some.is c.requires.reads;
}

pub returns-in-Some : goal.returns-in-Some
returns-in-Some g c =
    let b = base_of g.L.Link.shows c.args.base.now in
    let new = base_of g.L.Link.shows c.drop_on.new.base in
    let a = c.args.answering in
    let after = stage_of c.drop_on.result.0 in
    record {
      steps = λ s. subst (λ (x : Option (Drain ContentSource)). Leads s b new (model.answering a.closing a.sending a.closes x) after)
          (sym c.in-Some.is) (c.drop_on.ensures.steps s);
      fits = λ tree told n n' safe.
          subst (λ (x : Option (Drain ContentSource)). StepFits c.args.role tree told n n' b new
          (model.answering a.closing a.sending a.closes x) after c.drop_on.result.1) (sym c.in-Some.is)
          (c.drop_on.ensures.fits c.args.role tree told n n'
          (subst (λ (x : Option (Drain ContentSource)). IsSafe tree told b (model.answering a.closing a.sending a.closes x)) c.in-Some.is safe));
      written = λ is. nil_from_length _ (omega arith);
    }

pub returns-in-None : goal.returns-in-None
returns-in-None g c =
    let b = base_of g.L.Link.shows c.args.base.now in
    let a = c.args.answering in
    let d = c.args.answering.closing in
    let closes = c.args.answering.closes in
    let after = stage_of c.completes.result in
    let out : b.port.output.items ≡ [] = nil_from_length _ (omega arith) in
    record {
      steps = λ s. subst (λ (x : Option (Drain ContentSource)). Leads s b b (model.answering d a.sending closes x) after)
          (sym c.in-None.is)
          (subst (λ (x : List Piece). Leads s b b (model.answering d x closes None) after) (sym c.requires.whole)
          (subst (λ (x : model.Stage). Leads s b b (model.answering d [] closes None) x) (sym c.completes.ensures.stage)
          (completes_on s b d closes out)));
      fits = λ tree told n n' safe. completes_fit c.args.role tree told n n' b d a.sending closes a.drain c.requires.whole safe
          b.port.input out (omega arith) (if closes then Some Done else None) (closing_may_come n n' closes) after
          c.completes.ensures.stage;
      written = λ is. absurd (cc);
    }
