-- Patterns that were built, and where their groups are found.
use Rattle.std.specs.Prelude.{◌≡◌, List, map, decimal}
use Rattle.std.specs.List.{range_with_len}
use Rattle.regex.specs.Bytes.{regex_config, IsReadFromSource}
use Rattle.regex.specs.Locations.{location, location_count}
use Rattle.regex.specs.Replace.{bytes_of}
use Rattle.regex.specs.declared.bytes.regex.Regex.{Regex}
use Rattle.regex.specs.declared.locations.CaptureLocations.{CaptureLocations}
use Rattle.tow_model.specs.declared.request.Field.{Field}
use Rattle.tow_model.specs.Fields.{field}
use Rattle.tow_pattern.specs.Patterns.{over_bytes}
use Rattle.tow_model.specs.Texts.{Text}

-- the regex is what the grammar of patterns reads in its own text
abbrev pub IsBuilt : Regex → Type 0
IsBuilt r = (regex_config r ≡ over_bytes) × IsReadFromSource r

-- the bytes of the value at each location, by the number of its group
abbrev pub located_groups : Text → CaptureLocations → List Field
located_groups value l = map (λ n. field (decimal n) (bytes_of value (location l n))) (range_with_len 0 (location_count l))
