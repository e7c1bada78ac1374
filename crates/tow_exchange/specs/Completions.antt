-- What contracts see of an exchange that completed.
use Rattle.std.specs.Prelude.{ℕ, List, [], None, reverse}
use Rattle.tow_model.specs.declared.request.Request.{Request}
use Rattle.tow_model.specs.declared.record.Record.{Record}
use Rattle.tow_model.specs.declared.record.Listener.{Listener}
use Rattle.tow_model.specs.declared.record.Choice.TheVariants.{Undecided}
use Rattle.tow_exchange.specs.Exchanges.{ExchangeData}

-- a completed exchange as contracts see it
pub record CompletedData : Type 0 where
  pub connection : ℕ
  pub number : ℕ
  pub request : Request
  pub moment : ℕ
  -- the record that it completed with
  pub state : Record
  -- the listeners that are still to run, the next one first
  pub left : List Listener

-- as it is when the exchange completes: all its listeners are to run, the last added first
abbrev pub completion : ExchangeData → CompletedData
completion e = record {
  connection = e.connection;
  number = e.number;
  request = e.request;
  moment = e.moment;
  state = e.stand.state;
  left = reverse e.stand.state.listeners;
}

-- WHEN ITS RECORD GOES ON INTO THE ANSWER

-- the record that goes on: the listeners stay behind
abbrev pub without_listeners : Record → Record
without_listeners x = record x { listeners = [] }

-- a record of nothing but listeners
abbrev pub bare : List Listener → Record
bare listeners = record {
  path = [];
  query = None;
  status = 200;
  fields = [];
  context = [];
  listeners = listeners;
  choice = Undecided;
}

-- what stays of the exchange: all but what was taken
abbrev pub without_record : CompletedData → CompletedData
without_record c = record c { state = bare c.state.listeners }
