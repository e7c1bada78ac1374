use Rattle.std.proofs.Common.{◌≡◌, ◌++◌, false, refl, sym, ◌∙◌, take, drop}
use Rattle.tow_model.specs.declared.limits.TheConstants.{BLOCK_LEN}
use Rattle.tow_model.specs.Texts.{is_empty}
use Rattle.tow_sending.specs.Bodies.{body_pieces, pieces_in}
use Rattle.tow_sending.specs.Pieces.{plain_pieces}
use Rattle.tow_sending.proofs.Steps.{plain_first, own_text, plain_left}
use Rattle.tow_sending.proofs.sending.put_front.Goals as goal

pub returns-clause-puts : goal.returns-clause-puts
returns-clause-puts c =
    let some : is_empty c.args.head.now ≡ false = sym c.is_empty.ensures ∙ c.if-is_empty.false in
    own_text (pieces_in c.args.head.now c.args.body.now) (plain_pieces (drop BLOCK_LEN c.args.head.now) ++ body_pieces c.args.body.now)
    (take BLOCK_LEN c.args.head.now) c.put_block.result c.args.pipe.now c.put_block.new.pipe
    (plain_first c.args.head.now (body_pieces c.args.body.now) some) c.put_block.ensures.puts

pub returns-clause-left : goal.returns-clause-left
returns-clause-left c =
    let some : is_empty c.args.head.now ≡ false = sym c.is_empty.ensures ∙ c.if-is_empty.false in
    plain_left c.args.head.now c.put_block.new.rest (body_pieces c.args.body.now) c.put_block.result
    (pieces_in c.args.head.now c.args.body.now) some refl c.put_block.ensures.left
