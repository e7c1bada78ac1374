use Rattle.std.proofs.Common.{ℕ, ◌∙◌, [], ◌∷◌, ◌++◌, All, ap, ap₂, sym, subst, map, length, ◌<◌, arith}
use Rattle.std.proofs.lemmas.List.Elements.{All-push, All-same}
use Rattle.std.proofs.lemmas.List.{length-map, take-map}
use Rattle.std.proofs.lemmas.Result.{err_from_is_err_and}
use Rattle.tow_pattern.specs.Patterns.{IsGoodPattern}
use Rattle.tow_model.specs.Texts.{Text}
use Rattle.tow_pred.specs.Found.{told}
use Rattle.tow_pred.proofs.Faulting.{first_fault, told_at, told_more, told_of}
use Rattle.tow_pred.proofs.building.build_all.Goals as goal

pub returns-in_err-pattern-clause-refused : goal.returns-in_err-pattern-clause-refused
returns-in_err-pattern-clause-refused g c =
    let found = c.args.found.now in let at = c.loop-test.test-index in
    let test = c.loop-test-test.true in
    let within : at < length (told found) = omega (arith, test, length-map found told_of) in
    let p = err_from_is_err_and c.from_residual.result c.from_residual.ensures.1 in
    rw (p.1, p.2)
    (first_fault (told found) at _ c.requires.numbered within (told_at found at _ c.loop-test-test.true) _ _ _ _
    (All-same IsGoodPattern _ _ (ap (map (λ (t : ℕ × Text). t.1)) (take-map told_of at found) ∙ sym c.loop-test.invariant.patterns) c.loop-test.invariant.good) c.loop-test.invariant.later c.in_err-pattern.ensures.refused)

pub loop-test-preserved : goal.loop-test-preserved
loop-test-preserved g c = record {
  patterns =
      c.in_ok-push.ensures.ok ∙ ap₂ (λ front last. front ++ last ∷ []) c.loop-test.invariant.patterns c.in_ok-pattern.ensures.pattern
      ∙ sym (told_more (λ (t : ℕ × Text). t.1) c.args.found.now c.loop-test.test-index _ c.loop-test-test.true);
  good =
      subst (All IsGoodPattern) (sym c.in_ok-push.ensures.ok)
      (All-push IsGoodPattern c.loop-test.patterns c.in_ok-pattern.pattern c.loop-test.invariant.good (subst IsGoodPattern (sym c.in_ok-pattern.ensures.pattern) c.in_ok-pattern.ensures.good));
  later = λ p. let a = c.loop-test.invariant.later p in let b = c.build_one.ensures.later p in omega (arith, a, b);
  only = c.in_ok-pattern.ensures.only (λ n is. absurd (cc)) ∙ c.loop-test.invariant.only;
  stays = g.met.M.Maker.stays_on _ _ _ c.loop-test.invariant.stays c.build_one.ensures.stays;
}
