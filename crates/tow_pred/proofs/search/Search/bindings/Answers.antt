use Rattle.std.proofs.Common.{◌∙◌, Some, ap, sym}
use Rattle.regex.specs.Patterns.{find}
use Rattle.tow_pred.proofs.Reading.{nothing_found, match_found}
use Rattle.tow_pred.proofs.search.Search.bindings.Goals as goal

pub returns-in-None-clause-bindings : goal.returns-in-None-clause-bindings
returns-in-None-clause-bindings c =
    let value = c.args.value.now in
    rw (← c.self.view_is)
    (sym (nothing_found c.self.inside.regex.now c.self.invariant.0 value (λ k. (c.type_inv.value k).fits)
    (ap (λ a. find a value 0) (sym c.self.invariant.1) ∙ c.in-None.ensures.found)))

pub returns-clause-bindings : goal.returns-clause-bindings
returns-clause-bindings c =
    let value = c.args.value.now in let found = c.in-Some.ensures.found in
    ap Some c.in_ok-groups-in-Some.ensures ∙ rw (← c.self.view_is)
    (match_found c.self.inside.regex.now c.self.invariant.0 value (λ k. (c.type_inv.value k).fits) found.0
    (ap (λ a. find a value 0) (sym c.self.invariant.1) ∙ found.1) c.captures_read.new.locations found.2.1 (c.in-Some.ensures.count ∙ c.self.invariant.2))
