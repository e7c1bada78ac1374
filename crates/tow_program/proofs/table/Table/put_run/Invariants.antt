use Rattle.std.proofs.Common.{◌≡◌, ◌-◌, ◌++◌, ◌∷◌, [], None, get_or, length}
use Rattle.tow_program.specs.Tables.{AreEntered}
use Rattle.tow_program.proofs.Entering.{growing}
use Rattle.tow_program.proofs.table.Table.put_run.Given as goal

-- The entries are right of the runs and of the one that grows, which leads to `at` so far.
abbrev pub invariant-loop-literals : goal.invariant-loop-literals
invariant-loop-literals l =
    AreEntered l.instructions l.start (l.self.runs ++ growing l.rows.rows l.rows.places l.at ∷ []) l.self.entries.items
    × (length l.rows.places ≡ length l.rows.rows)
    × (get_or l.self.entries.items l.start None ≡ None → l.at ≡ l.start)

abbrev pub decreases-loop-literals : goal.decreases-loop-literals
decreases-loop-literals l = length l.instructions - l.at
