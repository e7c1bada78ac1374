use Rattle.std.proofs.Common.{◌≡◌, decimal, map}
use Rattle.std.specs.List.{range_with_len}
use Rattle.regex.specs.Locations.{location}
use Rattle.regex.specs.Replace.{bytes_of}
use Rattle.tow_model.specs.Fields.{field}
use Rattle.tow_pred.proofs.search.groups.Given as goal

-- the groups so far
abbrev pub invariant-loop-number : goal.invariant-loop-number
invariant-loop-number l =
    l.fields ≡ map (λ n. field (decimal n) (bytes_of l.value (location l.locations n))) (range_with_len 0 l.number)
