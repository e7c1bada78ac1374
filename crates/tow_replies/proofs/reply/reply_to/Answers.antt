use Rattle.std.proofs.Common.{rules, ◌≡◌, ℕ, Option, subst}
use Rattle.std.proofs.lemmas.Result.{IfOk-weaker}
use Rattle.tow_model.specs.declared.content.Content.{Content}
use Rattle.tow_model.specs.declared.request.Request.{Request}
use Rattle.tow_semantics.specs.Runs.{Ending}
use Rattle.tow_wire.specs.Answers.{answer_of}
use Rattle.tow_answer.specs.Uses.{IsUsed}
use Rattle.tow_replies.specs.Replies.{Sends}
use Rattle.tow_replies.proofs.Replying.{replies_by}
use Rattle.tow_replies.proofs.reply.reply_to.Goals as goal

pub returns-clause-reply : goal.returns-clause-reply
returns-clause-reply c =
    let d = c.args.completed.now in
    let request : c.request.result.now ≡ d.request = search rules in
    let number : c.number.result ≡ d.number = search rules in
    let moment : c.moment.result ≡ d.moment = search rules in
    IfOk-weaker c.reply_with.result _ _ (λ reply sends. replies_by c.args.content_use d c.args.state reply.sending reply.closes
    (subst (λ (m : ℕ). (content : Option Content) (o : Ending) → o.state ≡ c.args.state → IsUsed c.args.content_use content o
    → Sends d.request (answer_of d.request d.number m content o) reply.sending reply.closes) moment
    (subst (λ (j : ℕ). (content : Option Content) (o : Ending) → o.state ≡ c.args.state → IsUsed c.args.content_use content o
    → Sends d.request (answer_of d.request j c.moment.result content o) reply.sending reply.closes) number
    (subst (λ (q : Request). (content : Option Content) (o : Ending) → o.state ≡ c.args.state → IsUsed c.args.content_use content o
    → Sends q (answer_of q c.number.result c.moment.result content o) reply.sending reply.closes) request sends))))
    c.reply_with.ensures.reply
