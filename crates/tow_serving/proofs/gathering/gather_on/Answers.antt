use Rattle.std.proofs.Common.{arith}
use Rattle.std.proofs.lemmas.List.{nil_from_length}
use Rattle.tow_model.specs.declared.account.End.TheVariants.{Done, NoMemory}
use Rattle.tow_stages.specs.Gathering.{fed_by}
use Rattle.tow_turns.specs.Data.{base_of, stage_of}
use Rattle.tow_serving.proofs.Gathers.{answer_fits, comes_whole, falls_short, finds_no_memory, gathers_on, open_over, short_fits}
use Rattle.tow_serving.proofs.gathering.gather_on.Goals as goal

pub returns-then-asking-clause-steps : goal.returns-then-asking-clause-steps
returns-then-asking-clause-steps g c = λ s same. c.invite.ensures.steps s

pub returns-then-len-eq0-clause-steps : goal.returns-then-len-eq0-clause-steps
returns-then-len-eq0-clause-steps g c =
    let a = c.args.asking in
    λ s same. falls_short s (base_of g.L.Link.shows c.args.base.now) a.exchange a.gathering c.run.new.self a.to_invite c.run.result
    c.run.new.from c.if-asking.false c.run.ensures c.in-NotYet.is c.if-base.true (nil_from_length _ (omega arith)) c.work_of-closing.result
    (stage_of c.ended_after.result) c.ended_after.ensures.stage (c.work_of-closing.ensures.work s.tree same)

pub returns-then-len-eq0-clause-fits : goal.returns-then-len-eq0-clause-fits
returns-then-len-eq0-clause-fits g c =
    let a = c.args.asking in
    λ role tree told n n' safe. short_fits role tree told n n' (base_of g.L.Link.shows c.args.base.now) a.exchange a.gathering
    c.run.new.self a.to_invite c.run.result c.run.new.from c.run.ensures safe c.work_of-closing.result Done
    (stage_of c.ended_after.result) c.ended_after.ensures.stage c.work_of-closing.ensures.completed tt

pub returns-in-Content-clause-steps : goal.returns-in-Content-clause-steps
returns-in-Content-clause-steps g c =
    let a = c.args.asking in
    λ s same. comes_whole s (base_of g.L.Link.shows c.args.base.now) a.exchange a.gathering c.run.new.self a.to_invite c.run.result
    c.run.new.from c.if-asking.false c.run.ensures c.in-Content.content c.in-Content.is (stage_of c.give.result)
    (c.give.ensures.answers s same)

pub returns-in-Content-clause-fits : goal.returns-in-Content-clause-fits
returns-in-Content-clause-fits g c =
    let a = c.args.asking in
    let b = base_of g.L.Link.shows c.args.base.now in
    λ role tree told n n' safe. answer_fits role tree told n n' b a.exchange a.gathering c.run.new.self a.to_invite c.run.result
    c.run.new.from c.run.ensures safe (stage_of c.give.result)
    (c.give.ensures.safe tree told (fed_by c.run.new.from b) (open_over tree told b c.run.new.from a.exchange safe.open_so))
    c.give.ensures.near c.give.ensures.ends

pub returns-after-base-2-clause-steps : goal.returns-after-base-2-clause-steps
returns-after-base-2-clause-steps g c =
    let a = c.args.asking in
    λ s same. gathers_on s (base_of g.L.Link.shows c.args.base.now) a.exchange a.gathering c.run.new.self a.to_invite c.run.result
    c.run.new.from c.if-asking.false c.run.ensures c.in-NotYet.is

pub returns-in-NoMemory-clause-steps : goal.returns-in-NoMemory-clause-steps
returns-in-NoMemory-clause-steps g c =
    let a = c.args.asking in
    λ s same. finds_no_memory s (base_of g.L.Link.shows c.args.base.now) a.exchange a.gathering c.run.new.self a.to_invite c.run.result
    c.run.new.from c.if-asking.false c.run.ensures c.work_of-closing-in-NoMemory.result (stage_of c.ended_after-in-NoMemory.result)
    c.ended_after-in-NoMemory.ensures.stage (c.work_of-closing-in-NoMemory.ensures.work s.tree same)

pub returns-in-NoMemory-clause-fits : goal.returns-in-NoMemory-clause-fits
returns-in-NoMemory-clause-fits g c =
    let a = c.args.asking in
    λ role tree told n n' safe. short_fits role tree told n n' (base_of g.L.Link.shows c.args.base.now) a.exchange a.gathering
    c.run.new.self a.to_invite c.run.result c.run.new.from c.run.ensures safe c.work_of-closing-in-NoMemory.result NoMemory
    (stage_of c.ended_after-in-NoMemory.result) c.ended_after-in-NoMemory.ensures.stage c.work_of-closing-in-NoMemory.ensures.completed tt
