use Rattle.std.proofs.Common.{◌≡◌, ◌+◌, drop, map, option_map}
use Rattle.tow_folder.specs.Folders.{name_shown}
use Rattle.tow_folder.specs.Memory.{place_for}
use Rattle.tow_folder.proofs.naming.place_for.Given as goal

abbrev pub invariant-names : goal.invariant-names
invariant-names l = place_for l.text (map name_shown l.names) ≡ option_map (λ place. place + l.place) (place_for l.text (map name_shown (drop l.place l.names)))
