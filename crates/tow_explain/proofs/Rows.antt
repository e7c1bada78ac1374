-- The rows of a text, cell after cell.
use Rattle.std.proofs.Common.{ℕ, zero, suc, ◌≡◌, ◌∙◌, ◌+◌, ◌<◌, ◌-◌, List, [], ◌∷◌, ◌++◌, refl, sym, ap, arith, length, drop, append_assoc, length-drop}
use Rattle.std.proofs.Math.Seq.{drop-nil}
use Rattle.std.proofs.lemmas.List.{drop-drop}
use Rattle.tow_explain.specs.declared.cell.Cell.{Cell}
use Rattle.tow_explain.specs.declared.drawing.Row.{Row}
use Rattle.tow_explain.specs.Drawn.{cell_at, cell_size, drawn, drawn_after, drawn_cell}

drawn-past : (row : Row) (n : ℕ) (text : List ℕ) → drawn_after row n text ≡ drawn row (drop n text)
unfolding drawn_after
drawn-past row n [] = rw (drop-nil {A = ℕ} n) refl
drawn-past row zero (b ∷ bs) = refl
drawn-past row (suc n) (b ∷ bs) = drawn-past row n bs

drop-one : (n b : ℕ) (bs : List ℕ) → 0 < n → drop (n - 1) bs ≡ drop n (b ∷ bs)
drop-one zero b bs some = absurd (omega arith)
drop-one (suc n) b bs some = let e : suc n - 1 ≡ n = omega arith in ap (λ k. drop k bs) e

-- the row of a text is that of its first cell, and that of the rest
drawn-step : (row : Row) (text : List ℕ) → 0 < length text → 0 < cell_size (cell_at text)
    → drawn row text ≡ drawn_cell row (cell_at text) text ++ drawn row (drop (cell_size (cell_at text)) text)
unfolding drawn_after
drawn-step row [] some sized = absurd (omega arith)
drawn-step row (b ∷ bs) some sized =
    let n = cell_size (cell_at (b ∷ bs)) in
    ap (λ (more : List ℕ). drawn_cell row (cell_at (b ∷ bs)) (b ∷ bs) ++ more) (drawn-past row (n - 1) bs ∙ ap (drawn row) (drop-one n b bs sized))

-- a row goes on by a cell
pub row-next : (row : Row) (out next text : List ℕ) (at size : ℕ) (cell : Cell)
    → at < length text → cell ≡ cell_at (drop at text) → size ≡ cell_size cell → 0 < size
    → next ≡ out ++ drawn_cell row cell (drop at text)
    → next ++ drawn row (drop (at + size) text) ≡ out ++ drawn row (drop at text)
row-next row out next text at size cell within is sized some put =
    let rest = drop at text in
    let n : 0 < length (drop at text) = omega (arith, length-drop at text) in
    let e : size ≡ cell_size (cell_at rest) = sized ∙ ap cell_size is in
    let p : 0 < cell_size (cell_at rest) = omega (arith, e) in
    let far : drop (at + size) text ≡ drop (cell_size (cell_at rest)) rest = sym (drop-drop size at text) ∙ ap (λ (k : ℕ). drop k rest) e in
    ap (λ (o : List ℕ). o ++ drawn row (drop (at + size) text)) (put ∙ ap (λ (c : Cell). out ++ drawn_cell row c rest) is)
    ∙ append_assoc out (drawn_cell row (cell_at rest) rest) (drawn row (drop (at + size) text))
    ∙ ap (λ (m : List ℕ). out ++ m) (ap (λ (d : List ℕ). drawn_cell row (cell_at rest) rest ++ drawn row d) far ∙ sym (drawn-step row rest n p))
