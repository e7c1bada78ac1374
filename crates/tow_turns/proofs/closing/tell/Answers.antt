use Rattle.std.proofs.Common.{ℕ, List, Option, refl, subst}
use Rattle.tow_model.specs.Texts.{Text}
use Rattle.tow_closing.specs.Closings.{Does}
use Rattle.tow_closing.specs.declared.work.Work.TheVariants as work
use Rattle.tow_host.specs.Logs.{PutAdds, line_told}
use Rattle.tow_host.specs.declared.log_sink.Put.TheVariants.{Stored}
use Rattle.tow_turns.specs.Data.{base_of}
use Rattle.tow_turns.proofs.Tellings.{finds_no_memory, is_refused, is_skipped, is_stored}
use Rattle.tow_turns.proofs.closing.tell.Goals as goal

pub returns-in_default-clause-steps : goal.returns-in_default-clause-steps
returns-in_default-clause-steps g c =
    λ s d does same. finds_no_memory s _ (base_of g.L.Link.shows c.args.base.now) d c.args.closing c.args.end c.args.number
    c.args.line does same

pub returns-then-base-clause-steps : goal.returns-then-base-clause-steps
returns-then-base-clause-steps g c =
    λ s d does same. is_skipped s _ (base_of g.L.Link.shows c.args.base.now) d c.args.closing c.args.end c.args.number
    c.args.line does same c.if-base.true

pub returns-in-Stored-clause-steps : goal.returns-in-Stored-clause-steps
returns-in-Stored-clause-steps g c =
    λ s d does same. is_stored s (g.G.LogSink.shows c.args.log.now) (g.G.LogSink.shows c.put.new.self)
    (base_of g.L.Link.shows c.args.base.now) d c.args.closing c.args.end c.args.number c.in-Some.line
    (subst (λ (l : Option Text). Does (work.Tell c.args.number l) d c.args.closing) c.in-Some.is does)
    same c.if-base.false
    (subst (λ (l : List ℕ). PutAdds (g.G.LogSink.shows c.args.log.now) (g.G.LogSink.shows c.put.new.self) Stored
    (line_told c.args.base.now.number c.args.base.now.begun c.args.number l)) c.as_slice.ensures c.in-Stored.ensures.lines)

pub returns-clause-steps : goal.returns-clause-steps
returns-clause-steps g c =
    λ s d does same. is_refused s (g.G.LogSink.shows c.args.log.now) (g.G.LogSink.shows c.put.new.self)
    (base_of g.L.Link.shows c.args.base.now) d c.args.closing c.args.end c.args.number c.args.line
    (line_told c.args.base.now.number c.args.base.now.begun c.args.number c.as_slice.result.now)
    does same c.in-Failed.ensures.lines (c.in-Failed.ensures.failed refl)
