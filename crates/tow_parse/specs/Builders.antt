-- What a builder holds, and what it does with a part.
use Rattle.std.specs.Prelude.{◌≡◌, reverse}
use Rattle.tow_parse.specs.declared.assembly.builder.Builder.{Builder}
use Rattle.tow_parse.specs.Building.{Built, goes, stuck, step}
use Rattle.tow_fit.specs.Calls.{counts_of}
use Rattle.tow_parse.specs.Parts.{RawPart}

-- the top of a stack is its last item
abbrev pub built_of : Builder → Built
built_of b = record {
  predicates = reverse b.predicates.items;
  targets = reverse b.targets.items;
  list = b.list;
  outer = reverse b.outer.items;
  counts = counts_of b.counts;
}

-- it lacks nothing that the part joins
abbrev pub Has : Builder → RawPart → Type 0
Has b part = step part (built_of b) ≡ stuck → ⊥

-- the part takes it from one to the other
abbrev pub Takes : RawPart → Builder → Builder → Type 0
Takes part old new = step part (built_of old) ≡ goes (built_of new)
