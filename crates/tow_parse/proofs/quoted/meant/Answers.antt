use Rattle.std.proofs.Common.{rules, arith, ap, ◌≡◌, ◌+◌, ◌-◌, ◌<◌, true, false, [], ◌∷◌, ◌++◌, length, slice_index_or}
use Rattle.std.specs.Prelude.{◌==◌, ◌&&◌, slice_range}
use Rattle.tow_language.specs.Symbols.{unescaped}
use Rattle.tow_language.specs.Tokens.{next_is}
use Rattle.tow_parse.proofs.Quotes.{byte_kept, byte_skipped}
use Rattle.tow_parse.proofs.quoted.meant.Goals.{then-not-escapes+in_ok-push, else-not-escapes}
use Rattle.tow_parse.proofs.quoted.meant.Goals as goal

pub loop-at-preserved : goal.loop-at-preserved
loop-at-preserved c =
    let lt : c.loop-at.at < (length c.args.spelled.now - 1) = omega arith in
    elim c.if-not-escapes.branch [
      | then-not-escapes+in_ok-push w ↦
          let e : false ≡ (slice_index_or c.args.spelled.now c.loop-at.at 0 == 92 && next_is (slice_index_or c.args.spelled.now 0 0) (slice_range c.args.spelled.now (c.loop-at.at + 1) (length c.args.spelled.now - 1))) = cc (w.if-not-escapes.true, c.escapes.ensures) in
          let o : c.if-not-escapes.bytes.items ≡ c.loop-at.bytes.items ++ slice_index_or c.args.spelled.now c.loop-at.at 0 ∷ [] = search rules in
          byte_kept (slice_index_or c.args.spelled.now 0 0) c.args.spelled.now c.loop-at.at (length c.args.spelled.now - 1) lt (omega arith) c.loop-at.bytes.items c.if-not-escapes.bytes.items (unescaped (slice_index_or c.args.spelled.now 0 0) (slice_range c.args.spelled.now 1 (length c.args.spelled.now - 1))) c.loop-at.invariant e o
      | else-not-escapes w ↦
          let e : true ≡ (slice_index_or c.args.spelled.now c.loop-at.at 0 == 92 && next_is (slice_index_or c.args.spelled.now 0 0) (slice_range c.args.spelled.now (c.loop-at.at + 1) (length c.args.spelled.now - 1))) = cc (w.if-not-escapes.false, c.escapes.ensures) in
          let o : c.if-not-escapes.bytes.items ≡ c.loop-at.bytes.items = ap (λ v. v.items) w.bytes-is in
          byte_skipped (slice_index_or c.args.spelled.now 0 0) c.args.spelled.now c.loop-at.at (length c.args.spelled.now - 1) lt (omega arith) c.loop-at.bytes.items c.if-not-escapes.bytes.items (unescaped (slice_index_or c.args.spelled.now 0 0) (slice_range c.args.spelled.now 1 (length c.args.spelled.now - 1))) c.loop-at.invariant e o
    ]
