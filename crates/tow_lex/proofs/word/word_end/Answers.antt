use Rattle.std.proofs.Common.{◌∙◌, sym, arith, true, false, subst, ◌+◌}
use Rattle.tow_lex.specs.Scan.{Leads}
use Rattle.tow_lex.proofs.Runs.{piece_step, leads_on}
use Rattle.tow_lex.proofs.word.word_end.Goals as goal

pub loop-at-preserved-in-Some : goal.loop-at-preserved-in-Some
loop-at-preserved-in-Some c =
    let text = c.args.text.now in let at = c.loop-at.at in
    let piece = piece_step text at (omega arith) (sym c.piece_at.ensures ∙ c.if-piece_at.true) in
    let opened : Leads text false at true (at + 1) = subst (λ k. Leads text false at k (at + 1)) (sym c.opens_at.ensures ∙ c.if-opens_at.true) piece in
    let forward = c.in-Some.ensures.forward in (
      omega (arith, forward),
      c.in-Some.ensures.within,
      leads_on text false true false c.args.from (at + 1) c.in-Some.to (omega (arith, forward))
          (leads_on text false false true c.args.from at (at + 1) (omega arith) c.loop-at.invariant.2 opened)
          c.in-Some.ensures.closed,
    )

pub loop-at-preserved : goal.loop-at-preserved
loop-at-preserved c =
    let text = c.args.text.now in let at = c.loop-at.at in
    let piece = piece_step text at (omega arith) (sym c.piece_at.ensures ∙ c.if-piece_at.true) in
    let closed : Leads text false at false (at + 1) = subst (λ k. Leads text false at k (at + 1)) (sym c.opens_at.ensures ∙ c.if-opens_at.false) piece in
    (omega arith, omega arith, leads_on text false false false c.args.from at (at + 1) (omega arith) c.loop-at.invariant.2 closed)
