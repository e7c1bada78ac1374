use Rattle.std.proofs.Common.{[], sym}
use Rattle.tow_heads.specs.declared.requests.NextRequest.TheVariants as next
use Rattle.tow_conn.specs.Turns.{IsNext}
use Rattle.tow_conn.proofs.Turning.{next_in, goes_reading, asks_nothing, rest_written, append_known-nil, ended_is}
use Rattle.tow_conn.proofs.ask.take_turn.Goals as goal

pub returns-in-Request-clause-goes : goal.returns-in-Request-clause-goes
returns-in-Request-clause-goes g c = λ is. c.answer_request.ensures.goes is _ c.requires.told

pub returns-in-Request-clause-done : goal.returns-in-Request-clause-done
returns-in-Request-clause-done g c = λ is. c.answer_request.ensures.done is _ c.requires.told

pub returns-in-Request-clause-front : goal.returns-in-Request-clause-front
returns-in-Request-clause-front g c = c.answer_request.ensures.front _ c.requires.told

pub returns-in-More-clause-goes : goal.returns-in-More-clause-goes
returns-in-More-clause-goes g c = λ is.
    goes_reading c.args.site.now.tree (g.C.Clock.table c.args.clock.now) c.args.progress.now c.read_more.new.progress _ _ _ c.read_more.ensures.number c.read_more.ensures.same

pub returns-in-Nothing-clause-done : goal.returns-in-Nothing-clause-done
returns-in-Nothing-clause-done g c = λ is.
    let table = g.C.Clock.table c.args.clock.now in
    let nothing : IsNext c.args.progress.now next.Nothing = next_in c.args.progress.now c.view.result.now next.Nothing c.view.ensures.bytes c.in-Nothing.ensures.reads in
    rest_written c.args.site.now.tree table c.args.progress.now _ [] _ _ (asks_nothing c.args.site.now.tree table c.args.progress.now _ nothing c.requires.told) (sym (append_known-nil _))

pub returns-in-Refuse-clause-done : goal.returns-in-Refuse-clause-done
returns-in-Refuse-clause-done g c = λ is. c.answer_refusal.ensures.done (ended_is _ _ is) _ _ c.requires.told

pub returns-in-Refuse-clause-front : goal.returns-in-Refuse-clause-front
returns-in-Refuse-clause-front g c = c.answer_refusal.ensures.front _ _ c.requires.told

pub answer_request-requires-clause-next : goal.answer_request-requires-clause-next
answer_request-requires-clause-next g c =
    next_in c.args.progress.now c.view.result.now (next.Request c.in-Request.request c.in-Request.used) c.view.ensures.bytes c.in-Request.ensures.reads

pub answer_refusal-requires : goal.answer_refusal-requires
answer_refusal-requires g c = record {
  next = next_in c.args.progress.now c.view.result.now (next.Refuse c.in-Refuse.status) c.view.ensures.bytes c.in-Refuse.ensures.reads;
}
