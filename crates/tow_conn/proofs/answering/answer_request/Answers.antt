use Rattle.std.proofs.Common.{◌∙◌, Bool, true, false, [], refl, ap, subst}
use Rattle.std.specs.Prelude.{IfSome}
use Rattle.std.specs.Io.KnownBytes.{append_known}
use Rattle.tow_link.specs.Runs.{AppendsPart}
use Rattle.tow_semantics.specs.Sites.{run_of}
use Rattle.tow_conn.specs.Conversations.{Answers}
use Rattle.tow_conn.proofs.Turning.{expects_nothing, answers_told, front_answered, asks_answered, rest_written, goes_answered}
use Rattle.tow_conn.proofs.answering.answer_request.Goals as goal

pub returns-in_default-clause-front : goal.returns-in_default-clause-front
returns-in_default-clause-front g c = λ told end.
    let q = c.args.request.now in
    let table = g.C.Clock.table c.args.clock.now in
    let answers = answers_told c.args.site.now.tree table c.args.progress.now.number c.at-moment.result q c.in-Ok.reply.text c.in-Ok.reply.closes c.at-moment.ensures.told (expects_nothing c.args.progress.now c.args.used q c.requires.next) c.in-Ok.ensures.answers in
    front_answered c.args.site.now.tree table c.args.progress.now told c.args.used q c.in-Ok.reply.text c.in-Ok.reply.closes _ _ c.requires.next end answers
    (subst (AppendsPart _ _) c.as_slice.ensures c.in_default.ensures.part)

pub returns-then-reply-clause-done : goal.returns-then-reply-clause-done
returns-then-reply-clause-done g c = λ is told end.
    let q = c.args.request.now in
    let table = g.C.Clock.table c.args.clock.now in
    let answers = answers_told c.args.site.now.tree table c.args.progress.now.number c.at-moment.result q c.in-Ok.reply.text c.in-Ok.reply.closes c.at-moment.ensures.told (expects_nothing c.args.progress.now c.args.used q c.requires.next) c.in-Ok.ensures.answers in
    let closing : IfSome table (λ moments. Answers (run_of c.args.site.now.tree [] moments) c.args.progress.now.number q c.in-Ok.reply.text true) =
    subst (λ (b : Bool). IfSome table (λ moments. Answers (run_of c.args.site.now.tree [] moments) c.args.progress.now.number q c.in-Ok.reply.text b)) c.if-reply.true answers in
    rest_written c.args.site.now.tree table c.args.progress.now told c.in-Ok.reply.text _ _
    (asks_answered c.args.site.now.tree table c.args.progress.now told c.args.used q c.in-Ok.reply.text c.requires.next end closing)
    (c.in-Ok-write_all.ensures.all ∙ ap (append_known _) c.as_slice.ensures)

pub returns-then-reply-clause-front : goal.returns-then-reply-clause-front
returns-then-reply-clause-front g c = λ told end.
    let q = c.args.request.now in
    let table = g.C.Clock.table c.args.clock.now in
    let answers = answers_told c.args.site.now.tree table c.args.progress.now.number c.at-moment.result q c.in-Ok.reply.text c.in-Ok.reply.closes c.at-moment.ensures.told (expects_nothing c.args.progress.now c.args.used q c.requires.next) c.in-Ok.ensures.answers in
    front_answered c.args.site.now.tree table c.args.progress.now told c.args.used q c.in-Ok.reply.text c.in-Ok.reply.closes _ _ c.requires.next end answers
    (subst (AppendsPart _ _) c.as_slice.ensures c.in-Ok-write_all.ensures.part)

pub returns-clause-goes : goal.returns-clause-goes
returns-clause-goes g c = λ is told end.
    let q = c.args.request.now in
    let table = g.C.Clock.table c.args.clock.now in
    let answers = answers_told c.args.site.now.tree table c.args.progress.now.number c.at-moment.result q c.in-Ok.reply.text c.in-Ok.reply.closes c.at-moment.ensures.told (expects_nothing c.args.progress.now c.args.used q c.requires.next) c.in-Ok.ensures.answers in
    let goes : IfSome table (λ moments. Answers (run_of c.args.site.now.tree [] moments) c.args.progress.now.number q c.in-Ok.reply.text false) =
    subst (λ (b : Bool). IfSome table (λ moments. Answers (run_of c.args.site.now.tree [] moments) c.args.progress.now.number q c.in-Ok.reply.text b)) c.if-reply.false answers in
    goes_answered c.args.site.now.tree table c.args.progress.now _ told c.args.used q c.in-Ok.reply.text _ _ c.requires.next end c.drop_front.ensures refl goes
    (c.in-Ok-write_all.ensures.all ∙ ap (append_known _) c.as_slice.ensures)

pub returns-clause-front : goal.returns-clause-front
returns-clause-front g c = λ told end.
    let q = c.args.request.now in
    let table = g.C.Clock.table c.args.clock.now in
    let answers = answers_told c.args.site.now.tree table c.args.progress.now.number c.at-moment.result q c.in-Ok.reply.text c.in-Ok.reply.closes c.at-moment.ensures.told (expects_nothing c.args.progress.now c.args.used q c.requires.next) c.in-Ok.ensures.answers in
    front_answered c.args.site.now.tree table c.args.progress.now told c.args.used q c.in-Ok.reply.text c.in-Ok.reply.closes _ _ c.requires.next end answers
    (subst (AppendsPart _ _) c.as_slice.ensures c.in-Ok-write_all.ensures.part)

pub drop_front-requires : goal.drop_front-requires
drop_front-requires g c = (c.requires.next [] (λ over. refl)).1
