use Rattle.std.proofs.Common.{sym, ◌∙◌, subst, arith}
use Rattle.tow_sink.specs.Calls.{OnFinish, Finishes}
use Rattle.tow_sink.specs.ChunkedFeeding.{HandsText}
use Rattle.tow_sink.proofs.ChunkedGoings.{some_of, none_of}
use Rattle.tow_sink.proofs.ChunkedEnds.{stays_full, finishes_at_once, finishes_after}
use Rattle.tow_sink.proofs.chunked.ChunkedStreamSink.finish.Goals as goal

pub returns-then-len-eq0 : goal.returns-then-len-eq0
returns-then-len-eq0 g c = record {
  law = finishes_at_once _ _ c.args.self.now.text c.end.new.self.text c.args.self.now.left c.end.new.self.left
      c.args.self.now.is_ended c.end.new.self.is_ended c.finish.result c.args.pipe.now c.finish.new.pipe
      c.end.ensures.text (sym c.len.ensures ∙ c.if-len-eq0.true)
      (subst (λ s. OnFinish (g.S.StreamSink.feeds s) (g.S.StreamSink.feeds c.finish.new.self) (Finishes c.finish.result c.args.pipe.now c.finish.new.pipe))
      c.end.ensures.inner c.finish.ensures.law)
      c.end.ensures.left c.end.ensures.ended;
}

pub returns-then-not-hand_text : goal.returns-then-not-hand_text
returns-then-not-hand_text g c = record {
  law = stays_full _ _ c.args.self.now.text c.end.new.self.text c.hand_text.new.self.text c.args.self.now.left c.hand_text.new.self.left
      c.args.self.now.is_ended c.hand_text.new.self.is_ended c.args.pipe.now c.hand_text.new.pipe
      c.end.ensures.text
      (subst (λ s. HandsText (g.S.StreamSink.feeds s) (g.S.StreamSink.feeds c.hand_text.new.self.inner) c.end.new.self.text c.hand_text.new.self.text c.args.pipe.now c.hand_text.new.pipe)
      c.end.ensures.inner c.hand_text.ensures.handed)
      (some_of _ c.if-not-hand_text.ensures.answer)
      (c.hand_text.ensures.left ∙ c.end.ensures.left)
      (c.hand_text.ensures.ended ∙ c.end.ensures.ended);
}

pub returns : goal.returns
returns g c = record {
  law = finishes_after _ _ _ c.args.self.now.text c.end.new.self.text c.hand_text.new.self.text c.args.self.now.left c.hand_text.new.self.left
      c.args.self.now.is_ended c.hand_text.new.self.is_ended c.finish-2.result c.args.pipe.now c.hand_text.new.pipe c.finish-2.new.pipe
      c.end.ensures.text (omega (arith, c.len.ensures, c.if-len-eq0.false))
      (subst (λ s. HandsText (g.S.StreamSink.feeds s) (g.S.StreamSink.feeds c.hand_text.new.self.inner) c.end.new.self.text c.hand_text.new.self.text c.args.pipe.now c.hand_text.new.pipe)
      c.end.ensures.inner c.hand_text.ensures.handed)
      (none_of _ c.if-not-hand_text.ensures.answer)
      c.finish-2.ensures.law
      (c.hand_text.ensures.left ∙ c.end.ensures.left)
      (c.hand_text.ensures.ended ∙ c.end.ensures.ended);
}
