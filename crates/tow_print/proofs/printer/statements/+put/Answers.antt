use Rattle.std.proofs.Common.{arith, ◌≡◌, ◌+◌, [], ◌∷◌, ◌++◌, map, take, sym, ap, ◌∙◌, append_assoc}
use Rattle.std.proofs.lemmas.Grind.{common_steps}
use Rattle.std.proofs.lemmas.List.{take_more, take_all, map-append}
use Rattle.tow_language.specs.Printed.{printed_statement}
use Rattle.tow_print.proofs.Words.{one_more_part, before_more, block_is}
use Rattle.tow_print.proofs.printer.statements.+put.Goals as goal

pub put_block-loop-part-preserved : goal.put_block-loop-part-preserved
put_block-loop-part-preserved t c =
    let i = c.loop-part.part-index in let xs = c.args.parts.now in let x = c.part-item.result in
    let more : map printed_statement (take (i + 1) xs) ≡ map printed_statement (take i xs) ++ printed_statement x ∷ [] =
    ap (map printed_statement) (take_more xs i x c.loop-part-test.true ∙ ap (λ z. take i xs ++ z ∷ []) (sym c.part-item.is)) ∙ map-append printed_statement (take i xs) (x ∷ []) in
    record {
      text = rw (more, one_more_part) (rw (c.in_ok-extend_from_slice-2.ensures.items, c.loop-part.invariant.text, c.loop-part.invariant.between, append_assoc, append_assoc) at c.in_ok-put_statement.ensures);
      between = rw more (sym (before_more (map printed_statement (take i xs)) (printed_statement x)));
    }

pub put_block-returns : goal.put_block-returns
put_block-returns t c =
    rw (block_is (map printed_statement c.args.parts.now)) (grind (arith, common_steps, take_all c.loop-part.part-index c.args.parts.now c.loop-part-test.false))
