use Rattle.std.proofs.Common.{◌∙◌, ◌∷◌, [], ap, sym, subst, map, rules, refl}
use Rattle.tow_language.specs.Fit.{filled}
use Rattle.tow_fit.specs.Faults.{Fails}
use Rattle.tow_fit.specs.Fitting.{found_as}
use Rattle.tow_language.specs.Signatures.{parameter_as}
use Rattle.tow_fit.proofs.Taking.{apart_rest, apart_second, apart_third, apart_two, filled_step, first_fails, rest_fails, same_one}
use Rattle.tow_fit.proofs.fitting.givens.three.Goals as goal

pub returns-in_err-first : goal.returns-in_err-first
returns-in_err-first c =
    let p = parameter_as c.args.a in let q = parameter_as c.args.b in let r = parameter_as c.args.c in let e = c.in_err-first.field-0.0 in
    let fails : Fails e (filled (p ∷ q ∷ r ∷ []) (map found_as c.args.found) c.args.place) =
    subst (λ k. Fails e (filled (p ∷ q ∷ r ∷ []) (map found_as k) c.args.place)) c.into_vec-found.ensures
    (first_fails p (q ∷ r ∷ []) (map found_as c.into_vec-found.result.items) c.args.place e c.in_err-first.ensures.value) in
    search rules

pub returns-in_err-second : goal.returns-in_err-second
returns-in_err-second c =
    let p = parameter_as c.args.a in let q = parameter_as c.args.b in let r = parameter_as c.args.c in let e = c.in_err-second.field-0.0 in
    let found = map found_as c.into_vec-found.result.items in let place = c.args.place in
    let same = same_one q found _ place (c.in_ok-first.ensures.others q.name (apart_second p q r c.requires)) in
    let fails : Fails e (filled (p ∷ q ∷ r ∷ []) (map found_as c.args.found) place) =
    subst (λ k. Fails e (filled (p ∷ q ∷ r ∷ []) (map found_as k) place)) c.into_vec-found.ensures
    (rest_fails p (q ∷ r ∷ []) found place c.in_ok-first.first e c.in_ok-first.ensures.value
    (first_fails q (r ∷ []) found place e (subst (λ k. Fails e k) (sym same) c.in_err-second.ensures.value))) in
    search rules

pub returns-in_err-third : goal.returns-in_err-third
returns-in_err-third c =
    let p = parameter_as c.args.a in let q = parameter_as c.args.b in let r = parameter_as c.args.c in let e = c.in_err-third.field-0.0 in
    let found = map found_as c.into_vec-found.result.items in let place = c.args.place in
    let same = same_one q found _ place (c.in_ok-first.ensures.others q.name (apart_second p q r c.requires)) in
    let last = same_one r found _ place (c.in_ok-second.ensures.others r.name (apart_two q r (apart_rest p (q ∷ r ∷ []) c.requires)) ∙ c.in_ok-first.ensures.others r.name (apart_third p q r c.requires)) in
    let fails : Fails e (filled (p ∷ q ∷ r ∷ []) (map found_as c.args.found) place) =
    subst (λ k. Fails e (filled (p ∷ q ∷ r ∷ []) (map found_as k) place)) c.into_vec-found.ensures
    (rest_fails p (q ∷ r ∷ []) found place c.in_ok-first.first e c.in_ok-first.ensures.value
    (rest_fails q (r ∷ []) found place c.in_ok-second.second e (same ∙ c.in_ok-second.ensures.value)
    (first_fails r [] found place e (subst (λ k. Fails e k) (sym last) c.in_err-third.ensures.value)))) in
    search rules

pub returns : goal.returns
returns c =
    let p = parameter_as c.args.a in let q = parameter_as c.args.b in let r = parameter_as c.args.c in
    let found = map found_as c.into_vec-found.result.items in let place = c.args.place in
    let same = same_one q found _ place (c.in_ok-first.ensures.others q.name (apart_second p q r c.requires)) in
    let last = same_one r found _ place (c.in_ok-second.ensures.others r.name (apart_two q r (apart_rest p (q ∷ r ∷ []) c.requires)) ∙ c.in_ok-first.ensures.others r.name (apart_third p q r c.requires)) in
    ap (λ k. filled (p ∷ q ∷ r ∷ []) (map found_as k) place) (sym c.into_vec-found.ensures)
    ∙ filled_step p (q ∷ r ∷ []) found place c.in_ok-first.first (c.in_ok-second.second ∷ c.in_ok-third.third ∷ []) c.in_ok-first.ensures.value
    (filled_step q (r ∷ []) found place c.in_ok-second.second (c.in_ok-third.third ∷ []) (same ∙ c.in_ok-second.ensures.value)
    (filled_step r [] found place c.in_ok-third.third [] (last ∙ c.in_ok-third.ensures.value) refl))
