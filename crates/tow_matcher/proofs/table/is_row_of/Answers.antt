use Rattle.std.proofs.Common.{true≢false, sym, ap, ◌∙◌}
use Rattle.std.specs.Str.{bytes_eq}
use Rattle.tow_matcher.proofs.Tables.{got, of_kind, of_other_kind, of_no_row}
use Rattle.tow_matcher.proofs.table.is_row_of.Goals as goal

pub returns-then-row-prefix : goal.returns-then-row-prefix
returns-then-row-prefix c =
    let row = c.in-Some.row.now in let found = c.in-Some.ensures.lookup.3 in
    let here = got c.args.rows.now c.args.number row found.0 found.1 in
    of_kind c.args.rows.now c.args.number c.args.prefix c.args.path.now row here c.eq.result c.if-row-prefix.true
    (c.eq.ensures ∙ ap (λ p. bytes_eq p c.args.path.now) c.as_slice.ensures)

pub returns-else-row-prefix : goal.returns-else-row-prefix
returns-else-row-prefix c =
    let row = c.in-Some.row.now in let found = c.in-Some.ensures.lookup.3 in
    let here = got c.args.rows.now c.args.number row found.0 found.1 in (
      λ same. absurd (true≢false (sym same ∙ c.if-row-prefix.false)),
      λ h. absurd (of_other_kind c.args.rows.now c.args.number c.args.prefix c.args.path.now row here c.if-row-prefix.false h),
    )

pub returns-in-None : goal.returns-in-None
returns-in-None c = (
  λ same. absurd (true≢false (sym same)),
  λ h. absurd (of_no_row c.args.rows.now c.args.number c.args.prefix c.args.path.now c.in-None.ensures.lookup.3 h),
)
