use Rattle.std.proofs.Common.{Some}
use Rattle.tow_exchange.specs.Exchanges.{content_given}
use Rattle.tow_stages.specs.Gathering.{use_of}
use Rattle.tow_serving.proofs.Gives.{begins_so, given_has_places, given_is_there}
use Rattle.tow_serving.proofs.gathering.give.Goals as goal

pub returns-clause-answers : goal.returns-clause-answers
returns-clause-answers c =
    λ s same sendable failed o b d t begins.
    c.answer.ensures.answers s same
    (given_is_there (Some s.files) c.args.exchange c.give_content.new.self c.args.content c.give_content.ensures sendable) failed o b d t
    (begins_so failed s o b (content_given c.args.content c.args.exchange) c.give_content.new.self (use_of c.args.content)
    c.content_use-content_use.result d t c.give_content.ensures c.content_use-content_use.ensures begins)

pub returns-clause-safe : goal.returns-clause-safe
returns-clause-safe c =
    λ tree told b is.
    c.answer.ensures.safe tree told b
    (given_is_there told c.args.exchange c.give_content.new.self c.args.content c.give_content.ensures is.sendable)
    (given_has_places tree told b c.args.exchange c.give_content.new.self c.args.content c.give_content.ensures c.requires.waits is)
