use Rattle.std.proofs.Common.{◌≡◌, ◌≤◌, length, take}
use Rattle.tow_language.specs.Shapes.{without_last_slashes}
use Rattle.tow_fit.proofs.fitting.paths.slashes_at.Given as goal

abbrev pub invariant-loop-end : goal.invariant-loop-end
invariant-loop-end l = (l.end ≤ length l.path) × (without_last_slashes (take l.end l.path) ≡ without_last_slashes l.path)

abbrev pub decreases-loop-end : goal.decreases-loop-end
decreases-loop-end l = l.end
