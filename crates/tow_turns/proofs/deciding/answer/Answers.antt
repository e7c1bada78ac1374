use Rattle.std.proofs.Common.{sym, subst, ap, lit<}
use Rattle.tow_model.specs.declared.request.Request.{Request}
use Rattle.tow_exchange.specs.Completions.{CompletedData}
use Rattle.tow_replies.specs.Replies.{RepliesBy}
use Rattle.tow_turns.specs.Data.{stage_of}
use Rattle.tow_turns.proofs.Decisions.{IsTaken, answer_is_safe, has_its_file, is_answered, is_short, short_ends, short_is_near, short_is_safe}
use Rattle.tow_turns.proofs.deciding.answer.Goals as goal

pub returns-in-Ok : goal.returns-in-Ok
returns-in-Ok c = record {
  answers = λ s same there failed o b d t begins.
      let is : IsTaken s.tree c.args.exchange c.work_of-closing.result c.take_record-state.new.self c.take_record-state.result = record {
        work = c.work_of-closing.ensures.work s.tree same;
        completed = c.work_of-closing.ensures.completed;
        taken = c.take_record-state.ensures.rest;
        state_is = c.take_record-state.ensures.taken;
      } in
      is_answered failed s o b c.args.exchange c.args.content_use d t c.work_of-closing.result c.take_record-state.new.self
      c.take_record-state.result c.in-Ok.reply.sending c.in-Ok.reply.closes c.drain_for-drain.result is
      (subst (λ (x : CompletedData). RepliesBy c.args.content_use x c.take_record-state.result c.in-Ok.reply.sending c.in-Ok.reply.closes)
      c.completed.ensures c.in-Ok.ensures.reply)
      (c.in-Ok.ensures.there s.files
      (has_its_file s.files s.tree c.args.exchange c.work_of-closing.result c.take_record-state.new.self c.take_record-state.result is there))
      (c.drain_for-drain.ensures c.args.exchange (ap (λ (q : Request). q.framing) (sym c.request.ensures)))
      begins;
  safe = λ tree told b has places.
      answer_is_safe told b c.args.exchange c.args.content_use c.work_of-closing.result c.take_record-state.new.self
      c.take_record-state.result c.in-Ok.reply.sending c.in-Ok.reply.closes c.drain_for-drain.result c.work_of-closing.ensures.completed
      c.take_record-state.ensures.rest c.take_record-state.ensures.taken c.in-Ok.ensures.there c.in-Ok.ensures.fit
      (c.drain_for-drain.ensures c.args.exchange (ap (λ (q : Request). q.framing) (sym c.request.ensures))) has places;
  near = lit< tt;
  ends = tt;
}

pub returns-in-Err : goal.returns-in-Err
returns-in-Err c = record {
  answers = λ s same there failed o b d t begins.
      is_short failed s o b c.args.exchange c.args.content_use d t c.work_of-closing.result c.take_record-state.new.self
      c.take_record-state.result (stage_of c.ended_after.result) c.ended_after.ensures.stage
      (record {
        work = c.work_of-closing.ensures.work s.tree same;
        completed = c.work_of-closing.ensures.completed;
        taken = c.take_record-state.ensures.rest;
        state_is = c.take_record-state.ensures.taken;
      }) begins;
  safe = λ tree told b has places.
      short_is_safe tree told b c.args.exchange c.work_of-closing.result c.take_record-state.new.self (stage_of c.ended_after.result)
      c.work_of-closing.ensures.completed c.take_record-state.ensures.rest c.ended_after.ensures.stage places;
  near = short_is_near c.take_record-state.new.self (stage_of c.ended_after.result) c.ended_after.ensures.stage;
  ends = short_ends c.take_record-state.new.self (stage_of c.ended_after.result) c.ended_after.ensures.stage;
}
