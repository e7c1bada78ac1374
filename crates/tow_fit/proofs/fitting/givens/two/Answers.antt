use Rattle.std.proofs.Common.{◌∙◌, ◌∷◌, [], ap, sym, subst, map, rules, refl}
use Rattle.tow_language.specs.Fit.{filled}
use Rattle.tow_fit.specs.Faults.{Fails}
use Rattle.tow_fit.specs.Fitting.{found_as}
use Rattle.tow_language.specs.Signatures.{parameter_as}
use Rattle.tow_fit.proofs.Taking.{apart_two, filled_step, first_fails, rest_fails, same_one}
use Rattle.tow_fit.proofs.fitting.givens.two.Goals as goal

pub returns-in_err-first : goal.returns-in_err-first
returns-in_err-first c =
    let a = parameter_as c.args.a in let b = parameter_as c.args.b in let e = c.in_err-first.field-0.0 in
    let fails : Fails e (filled (a ∷ b ∷ []) (map found_as c.args.found) c.args.place) =
    subst (λ k. Fails e (filled (a ∷ b ∷ []) (map found_as k) c.args.place)) c.into_vec-found.ensures
    (first_fails a (b ∷ []) (map found_as c.into_vec-found.result.items) c.args.place e c.in_err-first.ensures.value) in
    search rules

pub returns-in_err-second : goal.returns-in_err-second
returns-in_err-second c =
    let a = parameter_as c.args.a in let b = parameter_as c.args.b in let e = c.in_err-second.field-0.0 in
    let found = map found_as c.into_vec-found.result.items in let place = c.args.place in
    let same = same_one b found _ place (c.in_ok-first.ensures.others b.name (apart_two a b c.requires)) in
    let fails : Fails e (filled (a ∷ b ∷ []) (map found_as c.args.found) place) =
    subst (λ k. Fails e (filled (a ∷ b ∷ []) (map found_as k) place)) c.into_vec-found.ensures
    (rest_fails a (b ∷ []) found place c.in_ok-first.first e c.in_ok-first.ensures.value
    (first_fails b [] found place e (subst (λ k. Fails e k) (sym same) c.in_err-second.ensures.value))) in
    search rules

pub returns : goal.returns
returns c =
    let a = parameter_as c.args.a in let b = parameter_as c.args.b in
    let found = map found_as c.into_vec-found.result.items in let place = c.args.place in
    let same = same_one b found _ place (c.in_ok-first.ensures.others b.name (apart_two a b c.requires)) in
    ap (λ k. filled (a ∷ b ∷ []) (map found_as k) place) (sym c.into_vec-found.ensures)
    ∙ filled_step a (b ∷ []) found place c.in_ok-first.first (c.in_ok-second.second ∷ []) c.in_ok-first.ensures.value
    (filled_step b [] found place c.in_ok-second.second [] (same ∙ c.in_ok-second.ensures.value) refl)
