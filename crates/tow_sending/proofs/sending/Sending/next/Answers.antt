use Rattle.std.proofs.Common.{◌≡◌, false, sym, ap, ◌∙◌}
use Rattle.tow_model.specs.Texts.{is_empty}
use Rattle.tow_sending.specs.Bodies.{body_pieces}
use Rattle.tow_sending.specs.Pieces.{next_of}
use Rattle.tow_sending.proofs.Steps.{plain_first}
use Rattle.tow_sending.proofs.sending.Sending.next.Goals as goal

pub returns-else-is_empty : goal.returns-else-is_empty
returns-else-is_empty c =
    let some : is_empty c.self.inside.head ≡ false = sym c.is_empty.ensures ∙ c.if-is_empty.false in
    sym (ap next_of (sym c.self.view_is) ∙ ap next_of (plain_first c.self.inside.head (body_pieces c.self.inside.body) some))
