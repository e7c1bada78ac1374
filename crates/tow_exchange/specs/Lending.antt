-- What an exchange is after its record was written.
use Rattle.std.specs.Borrow.{Fml, MutBor, Lends}
use Rattle.tow_model.specs.declared.record.Record.{Record}
use Rattle.tow_model.specs.contracts.record.Record as model
use Rattle.tow_exchange.specs.Exchanges.{ExchangeData, with_state}
use Rattle.tow_exchange.specs.contracts.exchange.Exchange.{the_row}

-- its record ends as the last one written through r
abbrev pub LendsState : MutBor ExchangeData → MutBor Record → Fml
LendsState e r = Lends the_row model.the_row e r (λ x. with_state x e.now)
