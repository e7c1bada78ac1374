use Rattle.std.proofs.Common.{◌≡◌, ◌++◌, drop, map}
use Rattle.tow_program.specs.Skips.{row_of}
use Rattle.tow_program.proofs.run.Rows.put.Given as goal

-- what was added, and then the rows of what is left, is the whole
abbrev pub invariant-loop-path : goal.invariant-loop-path
invariant-loop-path l =
    (l.self.rows ++ map (row_of l.prefix) (drop l.path-index l.paths) ≡ l.initial.self.rows ++ map (row_of l.prefix) l.paths)
    × (l.self.places ++ map (λ path. l.place) (drop l.path-index l.paths) ≡ l.initial.self.places ++ map (λ path. l.place) l.paths)
