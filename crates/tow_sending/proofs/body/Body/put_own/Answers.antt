use Rattle.std.proofs.Common.{◌≡◌, false, sym, ap, ◌∙◌, take, drop}
use Rattle.tow_model.specs.declared.limits.TheConstants.{BLOCK_LEN}
use Rattle.tow_model.specs.Texts.{is_empty}
use Rattle.tow_wire.specs.Answers.{chunk_text}
use Rattle.tow_sending.specs.declared.body.Body.{Body}
use Rattle.tow_sending.specs.Bodies.{body_pieces}
use Rattle.tow_sending.specs.Pieces.{next_of, chunk_pieces, plain_pieces}
use Rattle.tow_sending.proofs.Steps.{chunks_next, plain_next, plain_some, own_text, chunks_left, plain_left_alone, own_is_there}
use Rattle.tow_sending.proofs.body.Body.put_own.Goals as goal

pub returns-then-not-is_empty-clause-puts : goal.returns-then-not-is_empty-clause-puts
returns-then-not-is_empty-clause-puts c =
    let some : is_empty c.in-Chunks.rest ≡ false = sym c.is_empty.ensures ∙ c.if-not-is_empty.true in
    own_text (body_pieces c.args.self.now) (chunk_pieces (drop BLOCK_LEN c.in-Chunks.rest)) (chunk_text (take BLOCK_LEN c.in-Chunks.rest))
    c.put_next_chunk.result c.args.pipe.now c.put_next_chunk.new.pipe (ap body_pieces c.in-Chunks.is ∙ chunks_next c.in-Chunks.rest some)
    c.put_next_chunk.ensures.puts

pub returns-then-not-is_empty-clause-left : goal.returns-then-not-is_empty-clause-left
returns-then-not-is_empty-clause-left c =
    let some : is_empty c.in-Chunks.rest ≡ false = sym c.is_empty.ensures ∙ c.if-not-is_empty.true in
    chunks_left c.in-Chunks.rest c.put_next_chunk.new.rest c.put_next_chunk.result (body_pieces c.args.self.now) some
    (ap body_pieces c.in-Chunks.is) c.put_next_chunk.ensures.left

pub returns-in-Plain-clause-puts : goal.returns-in-Plain-clause-puts
returns-in-Plain-clause-puts c =
    let some : is_empty c.in-Plain.rest ≡ false = plain_some c.in-Plain.rest (sym (ap (λ (b : Body). next_of (body_pieces b)) c.in-Plain.is) ∙ c.requires) in
    own_text (body_pieces c.args.self.now) (plain_pieces (drop BLOCK_LEN c.in-Plain.rest)) (take BLOCK_LEN c.in-Plain.rest)
    c.put_block.result c.args.pipe.now c.put_block.new.pipe (ap body_pieces c.in-Plain.is ∙ plain_next c.in-Plain.rest some)
    c.put_block.ensures.puts

pub returns-in-Plain-clause-left : goal.returns-in-Plain-clause-left
returns-in-Plain-clause-left c =
    let some : is_empty c.in-Plain.rest ≡ false = plain_some c.in-Plain.rest (sym (ap (λ (b : Body). next_of (body_pieces b)) c.in-Plain.is) ∙ c.requires) in
    plain_left_alone c.in-Plain.rest c.put_block.new.rest c.put_block.result (body_pieces c.args.self.now) some
    (ap body_pieces c.in-Plain.is) c.put_block.ensures.left

pub returns-in-Nothing-2-clause-puts : goal.returns-in-Nothing-2-clause-puts
returns-in-Nothing-2-clause-puts c = absurd (own_is_there c.args.self.now c.in-Nothing.is c.requires)
