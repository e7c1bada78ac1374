use Rattle.std.proofs.Common.{◌∙◌, ap, subst}
use Rattle.std.specs.Io.KnownBytes.{append_known}
use Rattle.tow_link.specs.Runs.{AppendsPart}
use Rattle.tow_conn.proofs.Turning.{asks_refusal, rest_written, front_written}
use Rattle.tow_conn.proofs.answering.answer_refusal.Goals as goal

pub returns-in_default-clause-front : goal.returns-in_default-clause-front
returns-in_default-clause-front g c = λ tree told over.
    let table = g.C.Clock.table c.args.clock.now in
    let asks = asks_refusal tree table c.args.progress.now told c.args.status c.at-moment.result c.requires.next over c.at-moment.ensures.told in
    front_written tree table c.args.progress.now told _ _ _ asks (subst (AppendsPart _ _) (c.as_slice.ensures ∙ c.in-Ok.ensures) c.in_default.ensures.part)

pub returns-clause-done : goal.returns-clause-done
returns-clause-done g c = λ is tree told over.
    let table = g.C.Clock.table c.args.clock.now in
    let asks = asks_refusal tree table c.args.progress.now told c.args.status c.at-moment.result c.requires.next over c.at-moment.ensures.told in
    rest_written tree table c.args.progress.now told _ _ _ asks (c.in-Ok-write_all.ensures.all ∙ ap (append_known _) (c.as_slice.ensures ∙ c.in-Ok.ensures))

pub returns-clause-front : goal.returns-clause-front
returns-clause-front g c = λ tree told over.
    let table = g.C.Clock.table c.args.clock.now in
    let asks = asks_refusal tree table c.args.progress.now told c.args.status c.at-moment.result c.requires.next over c.at-moment.ensures.told in
    front_written tree table c.args.progress.now told _ _ _ asks (subst (AppendsPart _ _) (c.as_slice.ensures ∙ c.in-Ok.ensures) c.in-Ok-write_all.ensures.part)
