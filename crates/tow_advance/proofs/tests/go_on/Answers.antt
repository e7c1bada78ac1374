use Rattle.std.proofs.Common.{rules, ◌≡◌, ap, ◌∙◌}
use Rattle.tow_exchange.specs.Exchanges.{ExchangeData}
use Rattle.tow_advance.proofs.Plans.{given_moment}
use Rattle.tow_advance.proofs.tests.go_on.Goals.{in-Stop, in-AskLimit, in-NeedContent, in-NeedFolder, in-NeedWorker, in-NoMemory}
use Rattle.tow_advance.proofs.tests.go_on.Goals as goal

pub returns-clause-moment : goal.returns-clause-moment
returns-clause-moment c =
    let kept : c.advance.new.exchange.moment ≡ c.args.exchange.now.moment = c.advance.ensures.moment in
    elim c.match-advance.branch [
      | in-Stop w ↦ search rules
      | in-AskLimit w ↦
          ap (λ (e : ExchangeData). e.moment) (w.exchange-is ∙ w.give_verdict.ensures w.in-AskLimit.number (c.advance.ensures.limit w.in-AskLimit.number w.in-AskLimit.is))
          ∙ given_moment _ c.advance.new.exchange ∙ kept
      | in-NeedContent w ↦
          ap (λ (e : ExchangeData). e.moment) (w.exchange-is ∙ w.give_content.ensures) ∙ kept
      | in-NeedFolder w ↦ search rules
      | in-NeedWorker w ↦ search rules
      | in-NoMemory w ↦ search rules
    ]
