use Rattle.std.proofs.Common.{◌≡◌, ◌++◌, flat_map, take}
use Rattle.tow_folder.specs.Folders.{name_shown}
use Rattle.tow_semantics.specs.Pages.{name_line}
use Rattle.tow_page.proofs.listing.append_names.Given as goal

-- the lines of the names so far stand after what there was
abbrev pub invariant-loop-name : goal.invariant-loop-name
invariant-loop-name l =
    l.out.items ≡ l.initial.out.items ++ flat_map (λ name. name_line (name_shown name)) (take l.name-index l.names)
