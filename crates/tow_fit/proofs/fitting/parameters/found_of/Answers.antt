use Rattle.std.proofs.Common.{◌≡◌, ◌∙◌, ◌∷◌, [], length, map, sym, ap, subst, arith, rules, Ok}
use Rattle.std.proofs.lemmas.List.{map-append}
use Rattle.std.specs.Vec.Iter.{into_iter_items}
use Rattle.tow_language.specs.Fit.{found_of}
use Rattle.tow_fit.specs.Calls.{pair_of}
use Rattle.tow_fit.specs.Faults.{Fails}
use Rattle.tow_fit.specs.Fitting.{found_as, next_found, rows_of}
use Rattle.tow_fit.proofs.Parameters.{next_fails, next_fits, nothing_left}
use Rattle.tow_fit.proofs.fitting.parameters.found_of.Goals as goal

pub loop-pair-init : goal.loop-pair-init
loop-pair-init c =
    let qs = rows_of c.args.rows in
    let begun : into_iter_items c.into_iter-pair-iterator.result ≡ c.args.pairs = c.into_iter-pair-iterator.ensures.into_iter_gives.0 ∙ c.into_vec-pair-items.ensures in (
      ap (λ ps. found_of qs [] (map pair_of ps)) (sym begun) ∙ ap (λ f. found_of qs (map found_as f) (map pair_of (into_iter_items c.into_iter-pair-iterator.result))) (sym c.new-found.ensures),
      c.into_iter-pair-iterator.ensures.into_iter_gives.1 ∙ c.into_vec-pair-items.result.ok.0 ∙ sym (ap length c.into_iter-pair-iterator.ensures.into_iter_gives.0),
    )

pub returns-in_err-next : goal.returns-in_err-next
returns-in_err-next c =
    let qs = rows_of c.args.rows in let at = c.loop-pair in let e = c.in_err-next.field-0.0 in
    let failed : Fails e (next_found qs (map found_as at.found) (pair_of c.in-Some.pair)) =
    subst (λ f. Fails e (next_found qs (map found_as f) (pair_of c.in-Some.pair))) c.as_slice.ensures c.in_err-next.ensures in
    let whole : Fails e (found_of qs [] (map pair_of c.args.pairs)) =
    subst (λ k. Fails e k) (sym (at.invariant.0 ∙ ap (λ ps. found_of qs (map found_as at.found) (map pair_of ps)) c.in-Some.ensures.steps.0))
    (next_fails qs (map found_as at.found) (pair_of c.in-Some.pair) (map pair_of (into_iter_items c.next.new.self)) e failed) in
    search rules

pub loop-pair-preserved : goal.loop-pair-preserved
loop-pair-preserved c =
    let qs = rows_of c.args.rows in let at = c.loop-pair in let next = c.in_ok-next.next in
    let rest = map pair_of (into_iter_items c.next.new.self) in
    let fits : next_found qs (map found_as at.found) (pair_of c.in-Some.pair) ≡ Ok (found_as next) =
    ap (λ f. next_found qs (map found_as f) (pair_of c.in-Some.pair)) (sym c.as_slice.ensures) ∙ c.in_ok-next.ensures in (
      at.invariant.0 ∙ ap (λ ps. found_of qs (map found_as at.found) (map pair_of ps)) c.in-Some.ensures.steps.0
          ∙ next_fits qs (map found_as at.found) (pair_of c.in-Some.pair) rest (found_as next) fits
          ∙ ap (λ f. found_of qs f rest) (sym (map-append found_as at.found (next ∷ [])))
          ∙ ap (λ f. found_of qs (map found_as f) rest) (sym c.in_ok-push.ensures.ok),
      let was = at.invariant.1 in
          let gone = c.in-Some.ensures.steps.1 in
          let short = ap length c.in-Some.ensures.steps.0 in
          omega arith,
    )

pub returns : goal.returns
returns c =
    let qs = rows_of c.args.rows in let at = c.loop-pair in
    let empty : into_iter_items at.pair-iterator ≡ [] = nothing_left (into_iter_items at.pair-iterator) (sym at.invariant.1 ∙ c.in-None.ensures.steps.0) in
    at.invariant.0 ∙ ap (λ ps. found_of qs (map found_as at.found) (map pair_of ps)) empty
