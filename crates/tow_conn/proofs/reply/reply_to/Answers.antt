use Rattle.std.proofs.Common.{◌∙◌, refl, ap}
use Rattle.tow_model.specs.declared.answer.Answer.{Answer}
use Rattle.tow_site.specs.Decided.{settled}
use Rattle.tow_conn.specs.Conversations.{no_content}
use Rattle.tow_conn.proofs.Replying.{site_answers, last_closes}
use Rattle.tow_conn.proofs.reply.reply_to.Goals as goal

pub returns-clause-answers : goal.returns-clause-answers
returns-clause-answers c = λ moments at plain.
    let x = c.in_ok-state.state in
    site_answers c.args.site.now.tree moments c.args.number c.args.moment c.args.request.now x c.in_ok-answer.answer c.in_ok-text.text
    c.in_ok-state.ensures.decides at plain (c.in_ok-answer.ensures.answer no_content (settled x) refl refl) c.in_ok-text.ensures

pub returns-clause-last : goal.returns-clause-last
returns-clause-last c = λ last.
    let x = c.in_ok-state.state in
    ap (λ (a : Answer). a.close) (c.in_ok-answer.ensures.answer no_content (settled x) refl refl) ∙ last_closes c.args.request.now c.args.number no_content (settled x) last
