use Rattle.std.proofs.Common.{rules, ◌≡◌, ◌++◌, suc, length, ◌+◌, ◌-◌, ◌∙◌, ap, sym, append_assoc, arith}
use Rattle.std.proofs.lemmas.List.{length-append}
use Rattle.tow_program.specs.Programs.{asking}
use Rattle.tow_program.proofs.Making.{asking_not, asking_and, asking_or}
use Rattle.tow_program.proofs.Weights.{weight, weight_not, weight_and, weight_or}
use Rattle.tow_program.proofs.conditions.+put_predicate.Goals as goal

pub loop-left-smaller-in-Not : goal.loop-left-smaller-in-Not
loop-left-smaller-in-Not t c =
    let less : weight c.loop-left.left ≡ suc (weight c.into_inner-left.result) =
    ap weight c.in-Not.is ∙ weight_not c.in-Not.negated ∙ ap (λ a. suc (weight a)) (sym c.into_inner-left.ensures) in
    omega (arith, less)

pub loop-left-preserved-in-Not : goal.loop-left-preserved-in-Not
loop-left-preserved-in-Not t c =
    let less : weight c.loop-left.left ≡ suc (weight c.into_inner-left.result) =
    ap weight c.in-Not.is ∙ weight_not c.in-Not.negated ∙ ap (λ a. suc (weight a)) (sym c.into_inner-left.ensures) in
    let turned : asking c.loop-left.left c.loop-left.holds c.loop-left.fails ≡ asking c.into_inner-left.result c.loop-left.fails c.loop-left.holds =
    ap (λ a. asking a c.loop-left.holds c.loop-left.fails) c.in-Not.is ∙ asking_not c.in-Not.negated c.loop-left.holds c.loop-left.fails
    ∙ ap (λ a. asking a c.loop-left.fails c.loop-left.holds) (sym c.into_inner-left.ensures) in
    (ap (λ i. i ++ c.loop-left.program) (sym turned) ∙ c.loop-left.invariant.0, c.loop-left.invariant.2, c.loop-left.invariant.1, omega (arith, less, c.loop-left.invariant.3))

pub put_predicate-requires : goal.put_predicate-requires
put_predicate-requires t c =
    let less : weight c.loop-left.left ≡ suc (weight c.in-And.first + weight c.into_inner.result) =
    ap weight c.in-And.is ∙ weight_and c.in-And.first c.in-And.second ∙ ap (λ a. suc (weight c.in-And.first + weight a)) (sym c.into_inner.ensures) in
    (omega (arith, less, c.loop-left.invariant.3, c.decreases), (c.loop-left.invariant.1, c.loop-left.invariant.2))

pub loop-left-smaller-in-And : goal.loop-left-smaller-in-And
loop-left-smaller-in-And t c =
    let less : weight c.loop-left.left ≡ suc (weight c.into_inner-left-in-And.result + weight c.in-And.second) =
    ap weight c.in-And.is ∙ weight_and c.in-And.first c.in-And.second ∙ ap (λ a. suc (weight a + weight c.in-And.second)) (sym c.into_inner-left-in-And.ensures) in
    omega (arith, less)

pub loop-left-preserved-in-And : goal.loop-left-preserved-in-And
loop-left-preserved-in-And t c =
    let second = c.in-And.second in
    let right = asking second c.loop-left.holds c.loop-left.fails in
    let put : c.put_predicate.new.program ≡ right ++ c.loop-left.program = search rules in
    let longer : length c.put_predicate.new.program ≡ length right + length c.loop-left.program =
    ap length put ∙ length-append right c.loop-left.program in
    let behind : c.len-behind.result ≡ length c.loop-left.program = c.len-behind.ensures in
    let now : c.len.result ≡ length c.put_predicate.new.program = c.len.ensures in
    let fails : c.loop-left.fails + (c.len.result - c.len-behind.result) ≡ length right + c.loop-left.fails = omega (arith, longer, behind, now) in
    let less : weight c.loop-left.left ≡ suc (weight c.into_inner-left-in-And.result + weight second) =
    ap weight c.in-And.is ∙ weight_and c.in-And.first second ∙ ap (λ a. suc (weight a + weight second)) (sym c.into_inner-left-in-And.ensures) in
    let whole : asking c.loop-left.left c.loop-left.holds c.loop-left.fails ≡ asking c.into_inner-left-in-And.result 0 (length right + c.loop-left.fails) ++ right =
    ap (λ a. asking a c.loop-left.holds c.loop-left.fails) c.in-And.is ∙ asking_and c.in-And.first second c.loop-left.holds c.loop-left.fails
    ∙ ap (λ a. asking a 0 (length right + c.loop-left.fails) ++ right) (sym c.into_inner-left-in-And.ensures) in (
      ap (λ n. asking c.into_inner-left-in-And.result 0 n ++ c.put_predicate.new.program) fails
          ∙ ap (λ i. asking c.into_inner-left-in-And.result 0 (length right + c.loop-left.fails) ++ i) put
          ∙ sym (append_assoc (asking c.into_inner-left-in-And.result 0 (length right + c.loop-left.fails)) right c.loop-left.program)
          ∙ ap (λ i. i ++ c.loop-left.program) (sym whole) ∙ c.loop-left.invariant.0,
      omega arith,
      omega (arith, longer, fails, c.loop-left.invariant.2),
      omega (arith, less, c.loop-left.invariant.3),
    )

pub put_predicate-requires-in-Or : goal.put_predicate-requires-in-Or
put_predicate-requires-in-Or t c =
    let less : weight c.loop-left.left ≡ suc (weight c.in-Or.first + weight c.into_inner-in-Or.result) =
    ap weight c.in-Or.is ∙ weight_or c.in-Or.first c.in-Or.second ∙ ap (λ a. suc (weight c.in-Or.first + weight a)) (sym c.into_inner-in-Or.ensures) in
    (omega (arith, less, c.loop-left.invariant.3, c.decreases), (c.loop-left.invariant.1, c.loop-left.invariant.2))

pub loop-left-smaller : goal.loop-left-smaller
loop-left-smaller t c =
    let less : weight c.loop-left.left ≡ suc (weight c.into_inner-left-in-Or.result + weight c.in-Or.second) =
    ap weight c.in-Or.is ∙ weight_or c.in-Or.first c.in-Or.second ∙ ap (λ a. suc (weight a + weight c.in-Or.second)) (sym c.into_inner-left-in-Or.ensures) in
    omega (arith, less)

pub loop-left-preserved : goal.loop-left-preserved
loop-left-preserved t c =
    let second = c.in-Or.second in
    let right = asking second c.loop-left.holds c.loop-left.fails in
    let put : c.put_predicate-in-Or.new.program ≡ right ++ c.loop-left.program = search rules in
    let longer : length c.put_predicate-in-Or.new.program ≡ length right + length c.loop-left.program =
    ap length put ∙ length-append right c.loop-left.program in
    let behind : c.len-behind-in-Or.result ≡ length c.loop-left.program = c.len-behind-in-Or.ensures in
    let now : c.len-in-Or.result ≡ length c.put_predicate-in-Or.new.program = c.len-in-Or.ensures in
    let holds : c.loop-left.holds + (c.len-in-Or.result - c.len-behind-in-Or.result) ≡ length right + c.loop-left.holds = omega (arith, longer, behind, now) in
    let less : weight c.loop-left.left ≡ suc (weight c.into_inner-left-in-Or.result + weight second) =
    ap weight c.in-Or.is ∙ weight_or c.in-Or.first second ∙ ap (λ a. suc (weight a + weight second)) (sym c.into_inner-left-in-Or.ensures) in
    let whole : asking c.loop-left.left c.loop-left.holds c.loop-left.fails ≡ asking c.into_inner-left-in-Or.result (length right + c.loop-left.holds) 0 ++ right =
    ap (λ a. asking a c.loop-left.holds c.loop-left.fails) c.in-Or.is ∙ asking_or c.in-Or.first second c.loop-left.holds c.loop-left.fails
    ∙ ap (λ a. asking a (length right + c.loop-left.holds) 0 ++ right) (sym c.into_inner-left-in-Or.ensures) in (
      ap (λ n. asking c.into_inner-left-in-Or.result n 0 ++ c.put_predicate-in-Or.new.program) holds
          ∙ ap (λ i. asking c.into_inner-left-in-Or.result (length right + c.loop-left.holds) 0 ++ i) put
          ∙ sym (append_assoc (asking c.into_inner-left-in-Or.result (length right + c.loop-left.holds) 0) right c.loop-left.program)
          ∙ ap (λ i. i ++ c.loop-left.program) (sym whole) ∙ c.loop-left.invariant.0,
      omega (arith, longer, holds, c.loop-left.invariant.1),
      omega arith,
      omega (arith, less, c.loop-left.invariant.3),
    )
