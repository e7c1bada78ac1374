use Rattle.std.proofs.Common.{◌≡◌, map, length}
use Rattle.std.specs.Vec.Iter.{into_iter_items, into_iter_len}
use Rattle.tow_parse.specs.Builders.{built_of}
use Rattle.tow_parse.specs.Building.{play, nothing}
use Rattle.tow_parse.specs.Parts.{raw_part}
use Rattle.tow_parse.proofs.assembly.assembled.Given as goal

-- the parts that are left come from what is built so far to what all of them come to
abbrev pub invariant-loop-part : goal.invariant-loop-part
invariant-loop-part l = record {
  can_next : (goal.iterator-loop-part).can_next l.part-iterator;
  is_finite : (goal.iterator-loop-part).is_finite l.part-iterator;
  same_len : into_iter_len l.part-iterator ≡ length (into_iter_items l.part-iterator);
  played : play (map raw_part (into_iter_items l.part-iterator)) (built_of l.builder) ≡ play (map raw_part l.fn.parts.items) nothing;
}
