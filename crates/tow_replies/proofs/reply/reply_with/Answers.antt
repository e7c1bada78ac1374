use Rattle.std.proofs.Common.{List, ap, ◌∙◌, subst, sym}
use Rattle.tow_model.specs.declared.answer.Answer.{Answer}
use Rattle.tow_sending.specs.Pieces.{HasFile, HasParts, Piece, pieces_of}
use Rattle.tow_sending.proofs.Texts.{parts_are_there}
use Rattle.tow_model.specs.declared.record.Choice.{Choice}
use Rattle.tow_replies.specs.Replies.{FitPipe}
use Rattle.tow_replies.proofs.Sizes.{pieces_fit}
use Rattle.tow_replies.proofs.reply.reply_with.Goals as goal

pub returns-clause-reply : goal.returns-clause-reply
returns-clause-reply c = λ content o same used.
    let is = c.in_ok-answer.ensures.answer content o same used in
    record {
      whole = c.in_ok-sending.ensures ∙ ap (pieces_of c.args.request.now) is;
      last = ap (λ (a : Answer). a.close) is;
    }

pub returns-clause-there : goal.returns-clause-there
returns-clause-there c = λ files has.
    let there = subst (λ (choice : Choice). HasFile files choice) (sym c.in_ok-answer.ensures.choice) has in
    subst (λ (pieces : List Piece). HasParts files pieces) (sym c.in_ok-sending.ensures) (parts_are_there files c.args.request.now c.in_ok-answer.answer there)

pub returns-clause-fit : goal.returns-clause-fit
returns-clause-fit c = subst (λ (pieces : List Piece). FitPipe pieces) (sym c.in_ok-sending.ensures) (pieces_fit c.args.request.now c.in_ok-answer.answer)
