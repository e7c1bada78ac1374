use Rattle.std.proofs.Common.{◌≡◌, ◌-◌, ◌<◌, ◌≤◌, ◌++◌, ℕ, List, length, take, drop, min, ap, ap₂, ◌∙◌, subst, arith, length-take, ◌⊎◌, inl, inr}
use Rattle.std.proofs.lemmas.List.{take_rest}
use Rattle.httparse.specs.Ascii.{crlf_bytes}
use Rattle.tow_sink.specs.Calls.{OnWrite, Writes}
use Rattle.tow_sink.specs.ChunkedFeeding.{size_line, FeedsChunked}
use Rattle.tow_sink.proofs.ChunkedWrites.{write_stays, write_further}
use Rattle.tow_sink.proofs.chunked.ChunkedStreamSink.write.Goals.{then-self-gt0-via-then-self-gt0, then-self-gt0-via-else-self-gt0+then-count-from}
use Rattle.tow_sink.proofs.chunked.ChunkedStreamSink.write.Goals as goal

pub returns-then-self-gt0-clause-law : goal.returns-then-self-gt0-clause-law
returns-then-self-gt0-clause-law g c =
    let is_first : c.min-first.result ≡ min c.args.self.now.left (length c.args.from.now) = omega (arith, c.min-first.ensures) in
    let within : c.go_on-count.result ≤ c.min-first.result = omega (arith, c.go_on-count.ensures.count, length-take c.min-first.result c.args.from.now) in
    let stays : (0 < c.go_on-count.new.self.left) ⊎ (c.go_on-count.result ≡ length c.args.from.now) =
    elim c.then-self-gt0.branch [
      | then-self-gt0-via-then-self-gt0 w ↦ inl w.if-self-gt0.true
      | then-self-gt0-via-else-self-gt0+then-count-from w ↦ inr w.if-count-from.true
    ] in
    write_stays _ _ c.args.self.now.text c.go_on-count.new.self.text c.args.from.now c.args.self.now.left c.go_on-count.new.self.left
    c.min-first.result c.go_on-count.result c.args.self.now.is_ended c.go_on-count.new.self.is_ended c.args.pipe.now c.go_on-count.new.pipe
    c.go_on-count.ensures.law is_first within c.go_on-count.ensures.left stays

pub returns-clause-law : goal.returns-clause-law
returns-clause-law g c =
    let from = c.args.from.now in
    let first = c.min-first.result in
    let rest = take_rest from first in
    let is_first : first ≡ min c.args.self.now.left (length from) = omega (arith, c.min-first.ensures) in
    let within : c.go_on-count.result ≤ first = omega (arith, c.go_on-count.ensures.count, length-take first from) in
    let text : c.size_line-self.result ≡ drop (2 - length c.go_on-count.new.self.text) crlf_bytes ++ size_line (length (drop first from)) =
    c.size_line-self.ensures
    ∙ ap₂ (λ (k n : ℕ). drop (2 - k) crlf_bytes ++ size_line n) c.len.ensures (ap (λ (l : List ℕ). length l) rest) in
    let law = subst
    (λ (l : List ℕ). OnWrite
    (FeedsChunked (g.S.StreamSink.feeds c.go_on-count.new.self.inner) c.size_line-self.result (length (take (length from - first) (drop first from))) c.go_on-count.new.self.is_ended)
    (FeedsChunked (g.S.StreamSink.feeds c.go_on.new.self.inner) c.go_on.new.self.text c.go_on.new.self.left c.go_on.new.self.is_ended)
    (Writes c.go_on.result l c.go_on-count.new.pipe c.go_on.new.pipe))
    rest c.go_on.ensures.law in
    write_further _ _ _ c.args.self.now.text c.go_on-count.new.self.text c.size_line-self.result c.go_on.new.self.text from
    c.args.self.now.left c.go_on-count.new.self.left (length (take (length from - first) (drop first from))) c.go_on.new.self.left
    first c.go_on-count.result c.go_on.result c.args.self.now.is_ended c.go_on-count.new.self.is_ended c.go_on.new.self.is_ended
    c.args.pipe.now c.go_on-count.new.pipe c.go_on.new.pipe
    c.go_on-count.ensures.law is_first within c.go_on-count.ensures.left
    (omega (arith, c.if-self-gt0.false)) (λ e. omega (arith, e, c.if-count-from.false))
    text (ap (λ (l : List ℕ). length l) rest) law
