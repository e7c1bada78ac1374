-- The line that names the fault of a text.
use Rattle.std.proofs.Common.{◌≢◌, ℕ, List, ap, refl}
use Rattle.tow_site.specs.Compiled.{IsFaultOfText}
use Rattle.tow_site.specs.declared.fault.Fault.{Fault}
use Rattle.tow_site.specs.declared.fault.Fault.TheVariants.{Text, NoMemory}
use Rattle.tow_server.specs.Lines.{IsFaultLine, line_for}

pub names_fault : (bytes : List ℕ) (before now : List ℕ → ℕ) (fault : Fault) → IsFaultOfText bytes before now fault → fault ≢ NoMemory → IsFaultLine bytes before now (line_for fault)
names_fault bytes before now (Text kind line column) (place, why, same) named = (kind, place, why, ap line_for same)
names_fault bytes before now NoMemory is named = absurd (named refl)
