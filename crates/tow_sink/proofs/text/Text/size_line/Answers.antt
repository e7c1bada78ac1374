use Rattle.std.proofs.Common.{◌≡◌, ◌<◌, ◌-◌, ◌/◌, ◌^◌, ◌++◌, ℕ, List, suc, length, drop, refl, sym, ap, ◌∙◌, subst, arith}
use Rattle.httparse.specs.Ascii.{crlf_bytes}
use Rattle.tow_sink.proofs.HexDigits.{before, before_any, before_more, before_last, fewer, still_room}
use Rattle.tow_sink.proofs.text.Text.size_line.Goals as goal

pub loop-left-init : goal.loop-left-init
loop-left-init c =
    let n : length c.line_end-text.result ≡ 2 = ap (λ (l : List ℕ). length l) c.line_end-text.ensures in
    let small : c.args.size < 16 ^ (18 - 2) = omega (arith, c.ranges.size.fits) in
    record {
      room = omega (arith, n);
      left = subst (λ (k : ℕ). c.args.size < 16 ^ (18 - k)) (sym n) small;
      digits = ap (λ (l : List ℕ). before (66 - length l) c.args.size l) c.line_end-text.ensures ∙ before_any (66 - length crlf_bytes) c.args.size refl;
    }

pub loop-left-preserved : goal.loop-left-preserved
loop-left-preserved c =
    let now = c.loop-left in
    let n : length c.put_before.new.self ≡ suc (length now.text) = ap (λ (l : List ℕ). length l) c.put_before.ensures in
    record {
      room = still_room now.left (length now.text) (length c.put_before.new.self) now.invariant.room n c.loop-left-test.true now.invariant.left;
      left = fewer now.left (length now.text) (length c.put_before.new.self) now.invariant.room n now.invariant.left;
      digits = ap (λ (l : List ℕ). before (66 - length c.put_before.new.self) (now.left / 16) l) c.put_before.ensures
          ∙ sym (before_more (66 - length now.text) (66 - length c.put_before.new.self) now.left c.digit_of.result now.text
          (let room = now.invariant.room in omega (arith, n, room)) c.loop-left-test.true c.digit_of.ensures)
          ∙ now.invariant.digits;
    }

pub returns : goal.returns
returns c =
    let now = c.loop-left in
    c.put_rest.ensures
    ∙ ap (λ (l : List ℕ). drop (2 - c.args.rest) crlf_bytes ++ l)
    (c.put_before-2.ensures
    ∙ sym (before_last (66 - length now.text) (65 - length now.text) now.left c.digit_of-2.result now.text
    (let room = now.invariant.room in omega (arith, room)) c.loop-left-test.false c.digit_of-2.ensures)
    ∙ now.invariant.digits)
