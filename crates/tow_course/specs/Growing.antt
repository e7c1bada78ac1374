-- Listeners are only ever added, from stop to stop of an exchange.
use Rattle.std.specs.Prelude.{List}
use Rattle.tow_model.specs.declared.content.Content.{Content}
use Rattle.tow_model.specs.declared.record.Listener.{Listener}
use Rattle.tow_model.specs.declared.account.Verdict.{Verdict}
use Rattle.tow_model.specs.declared.statement.Statement.{Statement}
use Rattle.tow_model.specs.Lists.{IsPrefix}
use Rattle.tow_semantics.specs.Pages.{Found}
use Rattle.tow_semantics.specs.Plans.{Plan, Over, AwaitVerdict, AwaitContent, AwaitPage}
use Rattle.tow_semantics.specs.Walk.{Given, Notes}
use Rattle.tow_semantics.specs.Outcome.{played}
use Rattle.tow_exchange.specs.Exchanges.{ExchangeData}
use Rattle.tow_program.specs.Programs.{program_of}
use Rattle.tow_advance.specs.Needs.{first_stand}
use Rattle.tow_advance.specs.Under.{plan_in}

-- The first stop of the plan has these listeners, and perhaps others behind them; each later stop has those of the stop before
-- it in the same way, whatever is given there.
abbrev pub KeepsListeners : List Listener → Plan → Type 0
KeepsListeners listeners (Over s) = IsPrefix listeners s.state.listeners
KeepsListeners listeners (AwaitVerdict limit s go) =
    IsPrefix listeners s.state.listeners × ((v : Verdict) → KeepsListeners s.state.listeners (go v))
KeepsListeners listeners (AwaitContent s go) =
    IsPrefix listeners s.state.listeners × ((c : Content) → KeepsListeners s.state.listeners (go c))
KeepsListeners listeners (AwaitPage location listing s go) =
    IsPrefix listeners s.state.listeners × ((p : Found) → KeepsListeners s.state.listeners (go p))

-- what is true of the listeners of an exchange as it goes on
pub record LooksOn (tree : List Statement) (e : ExchangeData) : Type 0 where
  -- they are a front of those at its next stop
  pub stop : IsPrefix e.stand.state.listeners (first_stand (plan_in (program_of tree) e)).state.listeners
  -- and so on from stop to stop
  pub stops : KeepsListeners e.stand.state.listeners (plan_in (program_of tree) e)
  -- and of those with which it ends, whatever is given
  pub ends : (g : Given) (n : Notes)
      → IsPrefix e.stand.state.listeners (played g (plan_in (program_of tree) e) n).outcome.state.listeners

-- ---- law

abbrev pub ListenersGrow : Type 0
ListenersGrow = (tree : List Statement) (e : ExchangeData) → LooksOn tree e
