use Rattle.std.proofs.Common.{refl}
use Rattle.tow_model.specs.declared.account.End.TheVariants.{NoMemory}
use Rattle.tow_turns.specs.Data.{stage_of}
use Rattle.tow_turns.proofs.Cuts.{rests}
use Rattle.tow_by_turns.proofs.Links.{cut_fits, never_falls, pooled, stops_so}
use Rattle.tow_by_turns.proofs.Stages.{worker_live}
use Rattle.tow_by_turns.proofs.linking.stop.Goals as goal

pub cut-requires : goal.cut-requires
cut-requires c = record { early = c.requires.pool c.in-ToPool.is; fault = λ is. cc }

pub returns-in_default-clause-steps : goal.returns-in_default-clause-steps
returns-in_default-clause-steps c = λ s b same. rests s b (stage_of c.args.stage)

pub returns-in_default-clause-fits : goal.returns-in_default-clause-fits
returns-in_default-clause-fits c =
    λ role spent tree told b moved safe needs. stops_so role spent tree told b (stage_of c.args.stage) c.args.turn moved safe needs

pub returns-in-Ok-clause-steps : goal.returns-in-Ok-clause-steps
returns-in-Ok-clause-steps c = λ s b same. rests s b (stage_of c.args.stage)

pub returns-in-Ok-clause-fits : goal.returns-in-Ok-clause-fits
returns-in-Ok-clause-fits c =
    λ role spent tree told b moved safe needs. stops_so role spent tree told b (stage_of c.args.stage) c.args.turn moved safe needs

pub returns-in-Err-clause-steps : goal.returns-in-Err-clause-steps
returns-in-Err-clause-steps c = c.cut.ensures.steps

pub returns-in-Err-clause-fits : goal.returns-in-Err-clause-fits
returns-in-Err-clause-fits c =
    λ role spent tree told b moved safe needs.
    let live = worker_live (stage_of c.args.stage) (pooled role spent b (stage_of c.args.stage) c.args.turn c.in-ToPool.is needs) in
    cut_fits role tree told b b.port (stage_of c.args.stage) (stage_of c.cut.result) NoMemory moved live (c.cut.ensures.safe tree told b safe)
    (c.cut.ensures.ends live) refl (never_falls b.port.link) tt
