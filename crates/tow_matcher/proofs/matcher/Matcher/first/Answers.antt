use Rattle.std.proofs.Common.{◌≡◌, ℕ, ◌+◌, ◌<◌, List, length, take, true, Option, true≢false, refl, sym, subst, ◌∙◌, arith}
use Rattle.tow_matcher.specs.declared.row.Row.{Row}
use Rattle.tow_matcher.specs.Firsts.{row_holds, IsFirst}
use Rattle.tow_matcher.specs.Borders.{ArePrefixesBelow, HasPath}
use Rattle.tow_matcher.specs.Keys.{IsOfKey}
use Rattle.tow_matcher.proofs.Lowest.{IsFirst-same, IsFirst-unique, earlier_is, first_row_is, first_within}
use Rattle.tow_matcher.proofs.Ends.{HoldsBefore, path_there, path_back, before_more, border_there, border_back, none_there, holds_there, holds_back}
use Rattle.tow_matcher.proofs.matcher.Matcher.first.Goals as goal
use Rattle.tow_matcher.proofs.matcher.Matcher.first.Goals.{then-is_border, else-is_border}

pub loop-end-init : goal.loop-end-init
loop-end-init c =
    let self = c.args.self.now in let path = c.args.path.now in
    IsFirst-same (HasPath path) (HoldsBefore path 0) self (λ n row is h. path_there path row h) (λ n row is h. path_back path row h)
    c.args.from _ c.first_of_path-best.ensures

pub loop-end-preserved : goal.loop-end-preserved
loop-end-preserved c =
    let self = c.args.self.now in let path = c.args.path.now in let from = c.args.from in let end = c.loop-end.end in
    let same : c.as_slice-rows.result.now ≡ self = cc in
    let within : end < length path = omega arith in
    elim c.if-is_border.branch [
      | then-is_border w ↦
          let slash_there = w.if-is_border.ensures.0 refl in
          let border = subst (λ (rows : List Row). IsFirst (IsOfKey true (take end path)) rows from w.first_of.result) same w.first_of.ensures in
          subst (λ (o : Option ℕ). IsFirst (HoldsBefore path (end + 1)) self from o) (sym (w.best-is ∙ w.earlier-best.ensures))
          (earlier_is (HoldsBefore path end) (IsOfKey true (take end path)) (HoldsBefore path (end + 1)) (before_more path end)
          (border_there path end within slash_there) (border_back path end within slash_there) self from _ _ c.loop-end.invariant border)
      | else-is_border w ↦
          subst (λ (o : Option ℕ). IsFirst (HoldsBefore path (end + 1)) self from o) (sym w.best-is)
          (IsFirst-same (HoldsBefore path end) (HoldsBefore path (end + 1)) self (λ n row is h. before_more path end row h)
          (λ n row is h. none_there path end (λ e. true≢false (sym (w.if-is_border.ensures.1 e))) row h) from _ c.loop-end.invariant)
    ]

pub returns-clause-row : goal.returns-clause-row
returns-clause-row c =
    let self = c.args.self.now in let path = c.args.path.now in let from = c.args.from in
    let end = c.loop-end.end in let reach = c.self.inside.reach in
    let bound : (place : ℕ) → place < length path → place < reach → place < end = λ place low short. omega arith in
    let same : c.self.inside.rows ≡ self = cc in
    let short = subst (λ (rows : List Row). ArePrefixesBelow reach rows) same c.self.invariant.1 in
    IsFirst-unique (λ row. row_holds path row ≡ true) self from _ _
    (IsFirst-same (HoldsBefore path end) (λ row. row_holds path row ≡ true) self (λ n row is h. holds_there path end row h)
    (λ n row is h. holds_back path end reach row bound (short n row is) h) from _ c.loop-end.invariant)
    (first_row_is self path from)

pub returns-clause-within : goal.returns-clause-within
returns-clause-within c = first_within (HoldsBefore c.args.path.now c.loop-end.end) c.args.self.now c.args.from c.loop-end.best c.loop-end.invariant
