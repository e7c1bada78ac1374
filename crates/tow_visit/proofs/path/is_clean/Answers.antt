use Rattle.std.proofs.Common.{◌≡◌, ◌∙◌, sym, ap, true, false, not, ◌&&◌, ◌==◌}
use Rattle.std.specs.List.{list_any}
use Rattle.std.specs.Str.{is_utf8}
use Rattle.tow_visit.proofs.Askable.{text_is}
use Rattle.tow_visit.proofs.path.is_clean.Goals as goal

pub returns-then-is_ok : goal.returns-then-is_ok
returns-then-is_ok c =
    let utf8 : is_utf8 c.args.path.now ≡ true = sym (text_is _ _ c.args.path.now c.from_utf8.result c.from_utf8.ensures.cases) ∙ sym c.is_ok.ensures.value ∙ c.if-is_ok.true in
    ap not c.contains.ensures.value ∙ ap (λ b. b && not (list_any (λ b. b == 0) c.args.path.now)) (sym utf8)

pub returns-else-is_ok : goal.returns-else-is_ok
returns-else-is_ok c =
    let utf8 : is_utf8 c.args.path.now ≡ false = sym (text_is _ _ c.args.path.now c.from_utf8.result c.from_utf8.ensures.cases) ∙ sym c.is_ok.ensures.value ∙ c.if-is_ok.false in
    c.if-is_ok.false ∙ ap (λ b. b && not (list_any (λ b. b == 0) c.args.path.now)) (sym utf8)
