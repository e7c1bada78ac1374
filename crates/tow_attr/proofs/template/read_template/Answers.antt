use Rattle.std.proofs.Common.{◌∙◌, sym, ap, ap₂, arith, Ok}
use Rattle.tow_attr.specs.Reading.{ahead, rest_from}
use Rattle.tow_attr.proofs.Joins.{ahead_none}
use Rattle.tow_attr.proofs.Places.{plain_read, all_read}
use Rattle.tow_attr.proofs.template.read_template.Goals as goal

pub loop-draft-init : goal.loop-draft-init
loop-draft-init c =
    let rest = rest_from c.args.text.now 0 in (omega arith, ahead_none rest ∙ ap₂ (λ p b. ahead p b rest) (sym c.new-draft.ensures.pieces) (sym c.new-draft.ensures.literal))

pub returns-then-from-text-clause-ok : goal.returns-then-from-text-clause-ok
returns-then-from-text-clause-ok c =
    let text = c.args.text.now in let from = c.plain_end-from.result in let draft = c.loop-draft.draft in
    c.loop-draft.invariant.1 ∙ plain_read text c.loop-draft.at from draft.pieces draft.literal.items c.plain_end-from.ensures.plain
    ∙ ap₂ (λ p b. ahead p b (rest_from text from)) (sym c.in_ok-put_bytes.ensures.pieces) (sym c.in_ok-put_bytes.ensures.literal)
    ∙ all_read text from c.put_bytes.new.self.pieces c.put_bytes.new.self.literal.items (omega arith) ∙ ap (λ k. Ok k) (sym c.in_ok-finish.ensures)

pub loop-draft-preserved : goal.loop-draft-preserved
loop-draft-preserved c =
    let text = c.args.text.now in let from = c.plain_end-from.result in let draft = c.loop-draft.draft in (
      c.in_ok-at.ensures.within,
      c.loop-draft.invariant.1 ∙ plain_read text c.loop-draft.at from draft.pieces draft.literal.items c.plain_end-from.ensures.plain
          ∙ ap₂ (λ p b. ahead p b (rest_from text from)) (sym c.in_ok-put_bytes.ensures.pieces) (sym c.in_ok-put_bytes.ensures.literal)
          ∙ c.in_ok-at.ensures.ok,
    )
