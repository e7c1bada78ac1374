use Rattle.std.proofs.Common.{◌≡◌, [], ◌∷◌, map, fold, if◌then◌else◌}
use Rattle.tow_model.specs.Paths.{left_behind}
use Rattle.tow_path.specs.Output.{put_segment}
use Rattle.tow_path.proofs.resolving.resolved_segments.Given as goal

-- the segments so far are put out, and the last of them says whether one is left behind
abbrev pub invariant-loop-segment : goal.invariant-loop-segment
invariant-loop-segment l = record {
  can_next : (goal.iterator-loop-segment).can_next l.segment-iterator;
  is_finite : (goal.iterator-loop-segment).is_finite l.segment-iterator;
  output : l.output.items ≡ fold put_segment [] (map (λ x. x.now) l.yielded);
  left : left_behind (map (λ x. x.now) l.yielded) ≡ (if l.ends_in_dots then [] ∷ [] else []);
}
