use Rattle.std.proofs.Common.{◌≡◌, ◌≤◌}
use Rattle.tow_conn.specs.Turns.{GoesOn, EndIsTold, left_to_do}
use Rattle.tow_conn.proofs.ask.ask_whole.Given as goal

abbrev pub invariant-turns : goal.invariant-turns
invariant-turns g l = record {
  table : g.C.Clock.table l.clock ≡ g.C.Clock.table l.initial.clock;
  scratch : l.scratch ≡ l.initial.scratch;
  so_far : GoesOn l.site.tree (g.C.Clock.table l.initial.clock) l.initial.progress l.progress (g.I.Source.shows l.initial.link.input).told (g.I.Source.shows l.link.input).told (g.O.Sink.shows l.initial.link.output).written (g.O.Sink.shows l.link.output).written;
  number : l.progress.number ≤ 1000;
  told : EndIsTold l.progress (g.I.Source.shows l.link.input).told;
  later_input : (g.I.Source.shows l.initial.link.input).faults ≤ (g.I.Source.shows l.link.input).faults;
  later_output : (g.O.Sink.shows l.initial.link.output).faults ≤ (g.O.Sink.shows l.link.output).faults;
}

abbrev pub decreases-turns : goal.decreases-turns
decreases-turns g l = left_to_do l.progress
