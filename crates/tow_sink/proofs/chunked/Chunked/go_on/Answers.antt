use Rattle.std.proofs.Common.{◌≡◌, ◌-◌, ◌<◌, ◌∙◌, arith}
use Rattle.tow_sink.proofs.ChunkedGoings.{stops, goes, ends, some_of, none_of}
use Rattle.tow_sink.proofs.chunked.Chunked.go_on.Goals.{else-count-gt0-via-then-count-gt0+else-self-eq0, else-count-gt0-via-else-count-gt0}
use Rattle.tow_sink.proofs.chunked.Chunked.go_on.Goals as goal

pub returns-then-not-hand_text-clause-law : goal.returns-then-not-hand_text-clause-law
returns-then-not-hand_text-clause-law g c =
    stops _ _ c.args.self.now.text c.hand_text.new.self.text c.args.from.now c.args.self.now.left c.hand_text.new.self.left
    c.args.self.now.is_ended c.hand_text.new.self.is_ended c.args.pipe.now c.hand_text.new.pipe
    c.hand_text.ensures.handed (some_of _ c.if-not-hand_text.ensures.answer) c.requires c.hand_text.ensures.left c.hand_text.ensures.ended

pub returns-then-self-eq0-clause-law : goal.returns-then-self-eq0-clause-law
returns-then-self-eq0-clause-law g c =
    ends _ _ _ _ c.args.self.now.text c.hand_text.new.self.text c.line_end-self.result c.hand_text-then-self-eq0.new.self.text c.args.from.now
    c.args.self.now.left c.hand_text-then-self-eq0.new.self.left c.write-count.result c.args.self.now.is_ended c.hand_text-then-self-eq0.new.self.is_ended
    c.args.pipe.now c.hand_text.new.pipe c.write-count.new.pipe c.hand_text-then-self-eq0.new.pipe
    c.hand_text.ensures.handed (none_of _ c.if-not-hand_text.ensures.answer) c.write-count.ensures.law
    c.line_end-self.ensures c.hand_text-then-self-eq0.ensures.handed
    c.requires c.write-count.ensures.count
    (omega (arith, c.hand_text-then-self-eq0.ensures.left, c.hand_text.ensures.left, c.requires, c.write-count.ensures.count))
    (c.hand_text-then-self-eq0.ensures.ended ∙ c.hand_text.ensures.ended)
    c.if-count-gt0.true
    (omega (arith, c.hand_text-then-self-eq0.ensures.left, c.if-self-eq0.true))

pub returns-else-count-gt0-clause-law : goal.returns-else-count-gt0-clause-law
returns-else-count-gt0-clause-law g c =
    let going : 0 < c.write-count.result → c.hand_text.new.self.left - c.write-count.result ≡ 0 → ⊥ =
    elim c.else-count-gt0.branch [
      | else-count-gt0-via-then-count-gt0+else-self-eq0 w ↦ λ some z. omega (arith, some, z, w.if-self-eq0.false)
      | else-count-gt0-via-else-count-gt0 w ↦ λ some z. omega (arith, some, w.if-count-gt0.false)
    ] in
    goes _ _ _ c.args.self.now.text c.hand_text.new.self.text c.args.from.now
    c.args.self.now.left (c.hand_text.new.self.left - c.write-count.result) c.write-count.result c.args.self.now.is_ended c.hand_text.new.self.is_ended
    c.args.pipe.now c.hand_text.new.pipe c.write-count.new.pipe
    c.hand_text.ensures.handed (none_of _ c.if-not-hand_text.ensures.answer) c.write-count.ensures.law
    c.requires c.write-count.ensures.count
    (omega (arith, c.hand_text.ensures.left, c.requires, c.write-count.ensures.count))
    c.hand_text.ensures.ended going
