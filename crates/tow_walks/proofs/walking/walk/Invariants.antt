use Rattle.std.proofs.Common.{◌≡◌, List, false}
use Rattle.tow_model.specs.declared.statement.Statement.{Statement}
use Rattle.tow_program.specs.Programs.{program_of}
use Rattle.tow_advance.specs.Moves.{walk_left}
use Rattle.tow_walks.specs.Folders.{FolderStays, may_look, told_by}
use Rattle.tow_walks.specs.Walks.{Keeps, Walks}
use Rattle.tow_walks.proofs.walking.walk.Given as goal

-- What may not look has halted at once. Else the exchange has walked so far, and the folder stays what it is.
abbrev pub invariant-loop-halt : goal.invariant-loop-halt
invariant-loop-halt g l =
    (may_look l.role l.initial.folder ≡ false → l.exchange ≡ l.initial.exchange)
    × (may_look l.role l.initial.folder ≡ false → l.folder ≡ l.initial.folder)
    × ((tree : List Statement) → l.program ≡ program_of tree
    → Walks tree (told_by g.F.Folder.shows l.initial.folder) l.initial.exchange l.exchange)
    × Keeps l.program l.initial.exchange l.exchange
    × FolderStays g.F.Folder.shows l.initial.exchange.connection l.initial.folder l.folder
    × (l.scratch ≡ l.initial.scratch)

abbrev pub decreases-loop-halt : goal.decreases-loop-halt
decreases-loop-halt g l = walk_left l.program l.exchange
