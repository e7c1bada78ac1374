use Rattle.std.proofs.Common.{◌≡◌, ℕ, ◌≤◌, List, length, true, false, Option, arith, subst, sym}
use Rattle.tow_matcher.specs.declared.row.Row.{Row}
use Rattle.tow_matcher.specs.Firsts.{IsFirst}
use Rattle.tow_matcher.specs.Borders.{ArePrefixesBelow, HasPath}
use Rattle.tow_matcher.specs.Keys.{IsOfKey}
use Rattle.tow_matcher.proofs.Lowest.{IsFirst-same, earlier_is}
use Rattle.tow_matcher.proofs.Ends.{of_either, of_no_prefix}
use Rattle.tow_matcher.proofs.matcher.Matcher.first_of_path.Goals as goal

pub returns-then-path-self : goal.returns-then-path-self
returns-then-path-self c =
    let self = c.args.self.now in let path = c.args.path.now in let from = c.args.from in
    let same : c.as_slice-rows.result.now ≡ self = cc in
    let exact = subst (λ (rows : List Row). IsFirst (IsOfKey false path) rows from c.first_of-exact.result) same c.first_of-exact.ensures in
    let whole = subst (λ (rows : List Row). IsFirst (IsOfKey true path) rows from c.first_of.result) same c.first_of.ensures in
    subst (λ (o : Option ℕ). IsFirst (HasPath path) self from o) (sym c.earlier.ensures)
    (earlier_is (IsOfKey false path) (IsOfKey true path) (HasPath path) (λ row key. key.1) (λ row key. key.1) (of_either path) self from _ _ exact whole)

pub returns-else-path-self : goal.returns-else-path-self
returns-else-path-self c =
    let self = c.args.self.now in let path = c.args.path.now in let from = c.args.from in let reach = c.self.inside.reach in
    let same : c.as_slice-rows.result.now ≡ self = cc in
    let exact = subst (λ (rows : List Row). IsFirst (IsOfKey false path) rows from c.first_of-exact.result) same c.first_of-exact.ensures in
    let kept : c.self.inside.rows ≡ self = cc in
    let short = subst (λ (rows : List Row). ArePrefixesBelow reach rows) kept c.self.invariant.1 in
    let long : reach ≤ length path = omega arith in
    IsFirst-same (IsOfKey false path) (HasPath path) self (λ n row is h. h.1)
    (λ n row is h. of_no_prefix path reach long row (short n row is) h) from _ exact
