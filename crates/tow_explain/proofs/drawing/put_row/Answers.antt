use Rattle.std.proofs.Common.{◌≡◌, ◌∙◌, ◌++◌, ◌<◌, [], ℕ, List, ap, sym, arith, subst, drop}
use Rattle.std.proofs.lemmas.List.{append-nil}
use Rattle.tow_model.proofs.Spans.{none_then}
use Rattle.tow_explain.specs.Drawn.{cell_at, drawn, drawn_after, drawn_cell}
use Rattle.tow_explain.proofs.Rows.{row-next}
use Rattle.tow_explain.proofs.drawing.put_row.Goals as goal

pub cells-preserved : goal.cells-preserved
cells-preserved c =
    let text = c.args.text.now in let at = c.cells.at in let size = c.size-at.result in let cell = c.cell_at-cell.result in
    let some : 0 < size = omega (arith, c.size-at.ensures, c.cell_at-cell.ensures.some) in
    let back : c.split_at.result.1.now ≡ drop at text = c.split_at.ensures.back in (
      omega (arith, c.size-at.ensures, c.cell_at-cell.ensures.within, c.split_at.ensures.back_len),
      row-next c.args.row c.cells.out.items c.put_cell.new.out.items text at size cell (omega arith) (c.cell_at-cell.ensures.cell ∙ ap cell_at back) c.size-at.ensures some
          (c.in_ok-put_cell.ensures ∙ ap (λ (t : List ℕ). c.cells.out.items ++ drawn_cell c.args.row cell t) back)
          ∙ c.cells.invariant.1,
    )

pub returns : goal.returns
unfolding drawn_after
returns c =
    let text = c.args.text.now in let at = c.cells.at in
    let over : drop at text ≡ [] = none_then text at (omega arith) in
    sym (append-nil c.cells.out.items) ∙ subst (λ (k : List ℕ). c.cells.out.items ++ drawn c.args.row k ≡ c.args.out.now.items ++ drawn c.args.row text) over c.cells.invariant.1
