-- What a source of a content of known length has read.
use Rattle.std.specs.Prelude.{◌≡◌, ◌+◌, ◌<◌, [], length}
use Rattle.tow_model.specs.declared.limits.TheConstants.{MAX_CONTENT_LEN}
use Rattle.tow_model.specs.declared.request.Framing.TheVariants.{Fixed}
use Rattle.tow_source.specs.declared.fixed.FixedSource.{FixedSource}
use Rattle.tow_source.specs.Readings.{Reading}

-- all that was taken was given, and the source counts what is left; of too long content nothing was taken
pub record ReadsFixed (source : FixedSource) (r : Reading) : Type 0 where
  pub framing : r.framing ≡ Fixed source.len
  pub given : r.given ≡ r.taken
  pub count : length r.taken + source.left ≡ source.len
  pub capped : MAX_CONTENT_LEN < source.len → r.taken ≡ []
