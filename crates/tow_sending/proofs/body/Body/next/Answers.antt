use Rattle.std.proofs.Common.{◌≡◌, false, sym, ap, ◌∙◌}
use Rattle.tow_model.specs.Texts.{is_empty}
use Rattle.tow_sending.specs.declared.body.Body.{Body}
use Rattle.tow_sending.specs.Bodies.{body_pieces}
use Rattle.tow_sending.specs.Pieces.{next_of}
use Rattle.tow_sending.proofs.Steps.{plain_next, chunks_have_own}
use Rattle.tow_sending.proofs.body.Body.next.Goals as goal

pub returns-else-is_empty : goal.returns-else-is_empty
returns-else-is_empty c =
    let some : is_empty c.in-Plain.rest ≡ false = sym c.is_empty.ensures ∙ c.if-is_empty.false in
    sym (ap (λ (b : Body). next_of (body_pieces b)) c.in-Plain.is ∙ ap next_of (plain_next c.in-Plain.rest some))

pub returns-in-Chunks : goal.returns-in-Chunks
returns-in-Chunks c = sym (ap (λ (b : Body). next_of (body_pieces b)) c.in-Chunks.is ∙ chunks_have_own c.in-Chunks.field-0)
