use Rattle.std.proofs.Common.{◌≡◌, take, filter_map}
use Rattle.tow_program.specs.Actions.{formats_in}
use Rattle.tow_closing.specs.Closings.{line_told}
use Rattle.tow_closing.proofs.closing.lines_of.Given as goal

-- the lines of the listeners so far
abbrev pub invariant-loop-listener : goal.invariant-loop-listener
invariant-loop-listener l =
    l.lines.items
    ≡ filter_map (line_told (formats_in l.program) l.completed.request l.completed.state l.completed.moment)
    (take l.listener-index l.completed.state.listeners)
