use Rattle.std.proofs.Common.{rules, ◌≡◌, ◌++◌, ◌∷◌, [], map, suc, ◌+◌, ◌∙◌, ap, sym, arith}
use Rattle.tow_program.specs.Programs.{instructions_of, joined}
use Rattle.tow_program.proofs.Making.{joined_last}
use Rattle.tow_program.proofs.Weights.{statement_weight, other_weight, weights, weight_when, weight_block, weight_other, weights_last}
use Rattle.tow_program.proofs.statements.+put.Goals as goal

pub put_all-put_statement-requires : goal.put_all-put_statement-requires
put_all-put_statement-requires t c =
    let popped : c.loop-statement.left ≡ c.pop.new.self ++ c.in-Some.statement ∷ [] = search rules in
    let less : weights c.loop-statement.left ≡ weights c.pop.new.self + statement_weight c.in-Some.statement =
    ap weights popped ∙ weights_last c.pop.new.self c.in-Some.statement in
    (omega (arith, less, c.loop-statement.invariant.1, c.decreases), tt)

pub put_all-loop-statement-preserved : goal.put_all-loop-statement-preserved
put_all-loop-statement-preserved t c =
    let popped : c.loop-statement.left ≡ c.pop.new.self ++ c.in-Some.statement ∷ [] = search rules in
    let put : c.put_statement.new.program ≡ instructions_of c.in-Some.statement ++ c.loop-statement.program = search rules in
    let less : weights c.loop-statement.left ≡ weights c.pop.new.self + statement_weight c.in-Some.statement =
    ap weights popped ∙ weights_last c.pop.new.self c.in-Some.statement in (
      ap (λ i. joined (map instructions_of c.pop.new.self) ++ i) put
          ∙ sym (joined_last c.pop.new.self c.in-Some.statement c.loop-statement.program)
          ∙ ap (λ l. joined (map instructions_of l) ++ c.loop-statement.program) (sym popped) ∙ c.loop-statement.invariant.0,
      omega (arith, less, c.loop-statement.invariant.1),
    )

pub put_condition-put_statement-requires : goal.put_condition-put_statement-requires
put_condition-put_statement-requires t c =
    let less : other_weight c.args.other ≡ statement_weight c.into_inner.result =
    ap other_weight c.in-Some.is ∙ weight_other c.in-Some.other ∙ ap statement_weight (sym c.into_inner.ensures) in
    (omega (arith, less, c.decreases), tt)

pub put_statement-put_condition-requires : goal.put_statement-put_condition-requires
put_statement-put_condition-requires t c =
    let less : statement_weight c.args.statement ≡ suc (statement_weight c.in-When.yes + other_weight c.in-When.other) =
    ap statement_weight c.in-When.is ∙ weight_when c.in-When.test c.in-When.yes c.in-When.other in
    (omega (arith, less, c.decreases), tt)

pub put_statement-put_all-requires : goal.put_statement-put_all-requires
put_statement-put_all-requires t c =
    let less : statement_weight c.args.statement ≡ suc (weights c.in-Block.parts) =
    ap statement_weight c.in-Block.is ∙ weight_block c.in-Block.parts in
    (omega (arith, less, c.decreases), tt)
