use Rattle.std.proofs.Common.{◌≡◌, false, not, ◌&&◌, sym, ap, ◌∙◌}
use Rattle.std.specs.Char.{is_ascii_digit}
use Rattle.std.specs.List.{list_all}
use Rattle.tow_model.specs.Texts.{is_empty}
use Rattle.tow_request.proofs.Deciding.{filled}
use Rattle.tow_request.proofs.framing.is_number.Goals as goal

pub returns-then-not-is_empty : goal.returns-then-not-is_empty
returns-then-not-is_empty c =
    let text = c.args.text.now in
    let some : is_empty text ≡ false = filled text (sym c.is_empty.ensures ∙ c.if-not-is_empty.true) in
    c.are_digits.ensures ∙ ap (λ e. not e && list_all is_ascii_digit text) (sym some)
