use Rattle.std.proofs.Common.{◌≡◌, ◌≤◌, ◌-◌, IfSome, drop, length, take}
use Rattle.tow_faults.specs.Faults.{KeepsOtherFaults, faults_for}
use Rattle.tow_semantics.specs.Pages.{welcome_file, welcome_names}
use Rattle.tow_page.proofs.directory.welcome_page.Given as goal

-- the path begins with the directory, and its welcome file is the first one of the names that are left
abbrev pub invariant-loop-name : goal.invariant-loop-name
invariant-loop-name g l = record {
  path : take (length l.directory) l.path.items ≡ l.directory;
  files : IfSome (g.F.Folder.shows l.fn.folder).told (λ files. welcome_file files l.directory welcome_names
      ≡ welcome_file files l.directory (drop l.at welcome_names));
  told : (g.F.Folder.shows l.folder).told ≡ (g.F.Folder.shows l.fn.folder).told;
  later : faults_for (g.F.Folder.shows l.fn.folder).faults l.k ≤ faults_for (g.F.Folder.shows l.folder).faults l.k;
  others : KeepsOtherFaults (g.F.Folder.shows l.fn.folder).faults (g.F.Folder.shows l.folder).faults l.k;
}

abbrev pub decreases-loop-name : goal.decreases-loop-name
decreases-loop-name g l = 4 - l.at
