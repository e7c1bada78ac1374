use Rattle.tow_semantics.specs.Values.{value_of}
use Rattle.tow_semantics.specs.Writing.{assigned}
use Rattle.tow_effect.specs.Writes.{headed}
use Rattle.tow_effect.proofs.Going.{goes_on}
use Rattle.tow_effect.proofs.dispatch.effect.Goals as goal

pub returns-in-Set-clause-value : goal.returns-in-Set-clause-value
returns-in-Set-clause-value c =
    rw (c.after_write.ensures, c.in-Set.is)
    (goes_on (assigned c.in-Set.target (value_of c.in-Set.value c.args.request.now c.args.exchange.now c.args.moment) c.args.exchange.now) c.set.result
    c.args.exchange.now c.set.new.exchange c.set.ensures)

pub returns-in-Header-clause-value : goal.returns-in-Header-clause-value
returns-in-Header-clause-value c =
    rw (c.after_write-in-Header.ensures, c.in-Header.is)
    (goes_on (headed c.in-Header.replace c.in-Header.name (value_of c.in-Header.value c.args.request.now c.args.exchange.now c.args.moment) c.args.exchange.now)
    c.header.result c.args.exchange.now c.header.new.exchange c.header.ensures)
