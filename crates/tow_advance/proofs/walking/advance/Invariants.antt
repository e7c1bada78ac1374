use Rattle.std.proofs.Common.{◌≡◌, ◌≤◌}
use Rattle.tow_advance.specs.Moves.{left_of, walk_left, AddsLogs, IsUnchosen, NamesNoFile}
use Rattle.tow_advance.specs.Needs.{StaysForWorker}
use Rattle.tow_advance.specs.Under.{plan_in}
use Rattle.tow_advance.proofs.walking.advance.Given as goal

-- The plan of the exchange is the one with which the call began, and so are its numbers, its request and its moment.
abbrev pub invariant-loop-exchange : goal.invariant-loop-exchange
invariant-loop-exchange l =
    (plan_in l.program l.exchange ≡ plan_in l.program l.initial.exchange)
    × (l.exchange.connection ≡ l.initial.exchange.connection) × (l.exchange.number ≡ l.initial.exchange.number)
    × (l.exchange.request ≡ l.initial.exchange.request) × (l.exchange.moment ≡ l.initial.exchange.moment)
    × (l.scratch ≡ l.initial.scratch)
    × StaysForWorker l.role l.initial.exchange.stand.mark l.initial.exchange l.exchange
    × AddsLogs l.initial.exchange.stand.state.listeners l.exchange.stand.state.listeners
    × (IsUnchosen l.initial.exchange → IsUnchosen l.exchange)
    × (walk_left l.program l.exchange ≤ walk_left l.program l.initial.exchange)
    × (NamesNoFile l.initial.exchange → NamesNoFile l.exchange)

abbrev pub decreases-loop-exchange : goal.decreases-loop-exchange
decreases-loop-exchange l = left_of l.program l.exchange
