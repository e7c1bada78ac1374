use Rattle.tow_model.specs.declared.account.End.TheVariants.{FolderFault, NoMemory}
use Rattle.tow_stages.specs.Stages.{walking}
use Rattle.tow_walks.specs.Folders.{told_by}
use Rattle.tow_walks.proofs.Sendable.{walks_stay_sendable}
use Rattle.tow_turns.specs.Data.{stage_of}
use Rattle.tow_turns.specs.declared.turn.Turn.TheVariants as turns
use Rattle.tow_turns.proofs.Cuts.{cut_walking}
use Rattle.tow_serving.proofs.Steps.{then_leads}
use Rattle.tow_serving.proofs.Walks.{answered_fits, answered_leads, asks_fits, cut_fits, cut_over, fault_rose, has_memory, open_after, page_is_live, stays_fits, waits_in_loop, walked, walked_short, walks_over}
use Rattle.tow_serving.proofs.walking.walk_on.Goals as goal

pub answer_or_wait-requires-clause-askable : goal.answer_or_wait-requires-clause-askable
answer_or_wait-requires-clause-askable g c =
    (walks_stay_sendable c.requires.text.0 (told_by g.F.Folder.shows c.args.folder.now) c.args.exchange c.walk.new.exchange
    (c.walk.ensures.walks (has_memory c.walk.result c.in-Stopped.is) c.requires.text.0 c.requires.text.1) c.requires.sendable).askable

pub returns-in-Stopped-clause-steps : goal.returns-in-Stopped-clause-steps
returns-in-Stopped-clause-steps g c =
    let new = c.walk.new.exchange in
    let halted = has_memory c.walk.result c.in-Stopped.is in
    λ s b same files. then_leads s b b b (walking c.args.exchange) (walking new) (stage_of c.answer_or_wait.result.0)
    (walked s b c.args.program.now c.args.exchange new c.walk.ensures.keeps
    (walks_over g.F.Folder.shows c.args.folder.now c.args.role s.tree s.files c.args.exchange new files
    (c.walk.ensures.walks halted s.tree same) (λ none. c.walk.ensures.advances none halted s.tree same)))
    (answered_leads c.args.program.now s b new (stage_of c.answer_or_wait.result.0) c.answer_or_wait.result.1 same
    c.answer_or_wait.ensures)

pub returns-in-Stopped-clause-fits : goal.returns-in-Stopped-clause-fits
returns-in-Stopped-clause-fits g c =
    let new = c.walk.new.exchange in
    let told = told_by g.F.Folder.shows c.args.folder.now in
    let halted = has_memory c.walk.result c.in-Stopped.is in
    λ tree b same safe. answered_fits c.args.role tree told _ _ b c.args.program.now c.args.exchange new
    (stage_of c.answer_or_wait.result.0) c.answer_or_wait.result.1
    (waits_in_loop c.args.role c.args.folder.now c.walk.result new.phase c.requires.equipped c.walk.ensures.worker c.walk.ensures.halts
    c.in-Stopped.is)
    (open_after tree told b c.args.program.now c.args.exchange new c.walk.ensures.keeps (c.walk.ensures.walks halted tree same) safe.0)
    safe.1 c.answer_or_wait.ensures

pub returns-in-Limit-clause-steps : goal.returns-in-Limit-clause-steps
returns-in-Limit-clause-steps g c =
    λ s b same files. walked s b c.args.program.now c.args.exchange c.walk.new.exchange c.walk.ensures.keeps
    (walks_over g.F.Folder.shows c.args.folder.now c.args.role s.tree s.files c.args.exchange c.walk.new.exchange files
    (c.in-Limit.ensures.walks (λ wrong. cc) s.tree same) (λ none. c.in-Limit.ensures.advances none (λ wrong. cc) s.tree same))

pub returns-in-Limit-clause-fits : goal.returns-in-Limit-clause-fits
returns-in-Limit-clause-fits g c =
    let told = told_by g.F.Folder.shows c.args.folder.now in
    λ tree b same safe. stays_fits c.args.role tree told _ _ b c.args.exchange c.walk.new.exchange (turns.AskLimit c.in-Limit.limit)
    (open_after tree told b c.args.program.now c.args.exchange c.walk.new.exchange c.walk.ensures.keeps
    (c.in-Limit.ensures.walks (λ wrong. cc) tree same) safe.0)
    safe.1 c.in-Limit.ensures.halts

pub returns-in-Content-clause-steps : goal.returns-in-Content-clause-steps
returns-in-Content-clause-steps g c =
    λ s b same files. then_leads s b b b (walking c.args.exchange) (walking c.walk.new.exchange) (stage_of c.ask.result)
    (walked s b c.args.program.now c.args.exchange c.walk.new.exchange c.walk.ensures.keeps
    (walks_over g.F.Folder.shows c.args.folder.now c.args.role s.tree s.files c.args.exchange c.walk.new.exchange files
    (c.in-Content.ensures.walks (λ wrong. cc) s.tree same) (λ none. c.in-Content.ensures.advances none (λ wrong. cc) s.tree same)))
    (c.ask.ensures.steps s b)

pub returns-in-Content-clause-fits : goal.returns-in-Content-clause-fits
returns-in-Content-clause-fits g c =
    let told = told_by g.F.Folder.shows c.args.folder.now in
    λ tree b same safe. asks_fits c.args.role tree told _ _ b c.args.exchange (stage_of c.ask.result)
    (c.ask.ensures.safe tree told b
    (open_after tree told b c.args.program.now c.args.exchange c.walk.new.exchange c.walk.ensures.keeps
    (c.in-Content.ensures.walks (λ wrong. cc) tree same) safe.0))
    c.ask.ensures.near c.ask.ensures.goes_on

pub returns-in-FolderFault-clause-steps : goal.returns-in-FolderFault-clause-steps
returns-in-FolderFault-clause-steps g c =
    let new = c.walk.new.exchange in
    λ s b same files. then_leads s b b b (walking c.args.exchange) (walking new) (stage_of c.ended_after.result)
    (walked s b c.args.program.now c.args.exchange new c.walk.ensures.keeps
    (walks_over g.F.Folder.shows c.args.folder.now c.args.role s.tree s.files c.args.exchange new files
    (c.in-FolderFault.ensures.walks (λ wrong. cc) s.tree same) (λ none. c.in-FolderFault.ensures.advances none (λ wrong. cc) s.tree same)))
    (cut_walking s b new c.work_of-closing.result FolderFault (stage_of c.ended_after.result) c.ended_after.ensures.stage (λ wrong. cc)
    (page_is_live new.phase c.in-FolderFault.ensures.halts) (c.work_of-closing.ensures.work s.tree same))

pub returns-in-FolderFault-clause-fits : goal.returns-in-FolderFault-clause-fits
returns-in-FolderFault-clause-fits g c =
    λ tree b same safe. cut_fits c.args.role tree (told_by g.F.Folder.shows c.args.folder.now) _ _ b c.args.program.now c.args.exchange
    c.walk.new.exchange c.work_of-closing.result FolderFault (stage_of c.ended_after.result) c.ended_after.ensures.stage
    c.work_of-closing.ensures.completed c.walk.ensures.keeps safe.0
    (fault_rose g.F.Folder.shows c.args.folder.now c.walk.new.folder c.args.exchange.connection b.number safe.0.connection
    (c.walk.ensures.failed c.in-FolderFault.is))

pub returns-in-NoMemory-clause-steps : goal.returns-in-NoMemory-clause-steps
returns-in-NoMemory-clause-steps g c =
    let new = c.walk.new.exchange in
    λ s b same files. walked_short s b c.args.program.now c.args.exchange new c.work_of-closing-in-NoMemory.result
    (stage_of c.ended_after-in-NoMemory.result) c.ended_after-in-NoMemory.ensures.stage c.walk.ensures.keeps
    (cut_over g.F.Folder.shows c.args.folder.now c.args.role s.tree s.files c.args.exchange new files
    (c.walk.ensures.short c.in-NoMemory.is s.tree same) (λ none. c.walk.ensures.breaks none c.in-NoMemory.is s.tree same))
    (c.work_of-closing-in-NoMemory.ensures.work s.tree same)

pub returns-in-NoMemory-clause-fits : goal.returns-in-NoMemory-clause-fits
returns-in-NoMemory-clause-fits g c =
    λ tree b same safe. cut_fits c.args.role tree (told_by g.F.Folder.shows c.args.folder.now) _ _ b c.args.program.now c.args.exchange
    c.walk.new.exchange c.work_of-closing-in-NoMemory.result NoMemory (stage_of c.ended_after-in-NoMemory.result)
    c.ended_after-in-NoMemory.ensures.stage c.work_of-closing-in-NoMemory.ensures.completed c.walk.ensures.keeps safe.0 tt
