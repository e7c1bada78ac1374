use Rattle.std.proofs.Common.{◌≡◌, ◌∙◌, ap, sym, map, get_or, true, false}
use Rattle.std.specs.Prelude.{bytes_eq}
use Rattle.std.specs.Map.{lookup}
use Rattle.std.proofs.Math.ListN.{drop_of_length-le}
use Rattle.std.proofs.lemmas.List.{get_or_read}
use Rattle.tow_fit.specs.declared.fitting.parameters.Found.{Found}
use Rattle.tow_fit.specs.Fitting.{found_as}
use Rattle.tow_fit.proofs.Taking.{lookup_here, lookup_later}
use Rattle.tow_fit.proofs.fitting.givens.place_in.Goals as goal

pub returns-then-is_name-clause-named : goal.returns-then-is_name-clause-named
returns-then-is_name-clause-named c d =
    let found = c.args.found.now in let at = c.loop-at.at in let item = c.index-found-at in
    ap (λ (f : Found). bytes_eq c.args.name.now f.row.name.now) (sym (get_or_read found at item.result c.loop-at-test.true item.is d)) ∙ sym c.if-is_name.ensures

pub returns-then-is_name-clause-value : goal.returns-then-is_name-clause-value
returns-then-is_name-clause-value c d =
    let found = c.args.found.now in let at = c.loop-at.at in let item = c.index-found-at in
    let named : bytes_eq c.args.name.now (get_or found at d).row.name.now ≡ true =
    ap (λ (f : Found). bytes_eq c.args.name.now f.row.name.now) (sym (get_or_read found at item.result c.loop-at-test.true item.is d)) ∙ sym c.if-is_name.ensures in
    c.loop-at.invariant ∙ lookup_here c.args.name.now found at d c.loop-at-test.true named

pub loop-at-preserved : goal.loop-at-preserved
loop-at-preserved c =
    let found = c.args.found.now in let at = c.loop-at.at in let item = c.index-found-at in
    let other : bytes_eq c.args.name.now (get_or found at item.result).row.name.now ≡ false =
    ap (λ (f : Found). bytes_eq c.args.name.now f.row.name.now) (sym item.is) ∙ sym c.if-is_name.ensures in
    c.loop-at.invariant ∙ lookup_later c.args.name.now found at item.result c.loop-at-test.true other

pub returns-clause-none : goal.returns-clause-none
returns-clause-none c =
    c.loop-at.invariant ∙ ap (λ k. lookup (bytes_eq c.args.name.now) (map found_as k)) (drop_of_length-le c.args.found.now c.loop-at-test.false)
