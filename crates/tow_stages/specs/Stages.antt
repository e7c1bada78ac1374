-- What a connection keeps from turn to turn: its stage, with all that this needs, and what it has beside that.
use Rattle.std.specs.Prelude.{ℕ, Bool, List, Option}
use Rattle.tow_model.specs.declared.account.Call.{Call}
use Rattle.tow_model.specs.declared.account.End.{End}
use Rattle.tow_exchange.specs.Exchanges.{ExchangeData}
use Rattle.tow_source.specs.declared.drain.Drain.{Drain}
use Rattle.tow_content.specs.declared.source.ContentSource.{ContentSource}
use Rattle.tow_content.specs.declared.gathering.Gathering.{Gathering}
use Rattle.tow_closing.specs.Closings.{ClosingData}
use Rattle.tow_sending.specs.Pieces.{Piece}
use Rattle.tow_leads.specs.Ports.{PortData}

pub data Stage : Type 0 where
  -- the next head is read
  reading : Stage
  -- the answer to a head that is refused is put, of which these bytes are left
  refusing : List ℕ → Stage
  -- an exchange walks through its text, or waits for a verdict or a worker
  walking : ExchangeData → Stage
  -- an exchange waits for its content, which is gathered; the client may still have to be told to send it
  gathering : ExchangeData → Gathering → Bool → Stage
  -- the answer of an exchange is put, of which these pieces are left; the connection ends behind it, or drops a content that
  -- nobody asked for
  answering : ClosingData → List Piece → Bool → Option (Drain ContentSource) → Stage
  -- the listeners of an exchange run; a limit may have to be left first, and the connection may end behind them
  closing : ClosingData → Option ℕ → Option End → Stage
  -- it has ended so
  ended : End → Stage

-- what a connection has beside its stage
pub record Base : Type 0 where
  -- its number, from 0
  pub number : ℕ
  -- how many of its requests were begun
  pub begun : ℕ
  pub port : PortData
  -- its calls of limits, and how many of them have a place
  pub calls : List Call
  pub room : ℕ
  -- no more lines are put, since its log failed for it, or a line found no memory
  pub silent : Bool
