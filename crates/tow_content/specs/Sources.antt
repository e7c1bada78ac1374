-- What the source of a request's content has read.
use Rattle.std.specs.Prelude.{◌≡◌, []}
use Rattle.tow_model.specs.declared.request.Framing.TheVariants as Frames
use Rattle.tow_source.specs.Readings.{Reading}
use Rattle.tow_source.specs.FixedReading.{ReadsFixed}
use Rattle.tow_source.specs.ChunkedReading.{ReadsChunked}
use Rattle.tow_content.specs.declared.source.ContentSource.{ContentSource}
use Rattle.tow_content.specs.declared.source.ContentSource.TheVariants.{Empty, Fixed, Chunked}

-- there is no content: nothing was taken, and nothing given
pub record ReadsNothing (r : Reading) : Type 0 where
  pub framing : r.framing ≡ Frames.Empty
  pub taken : r.taken ≡ []
  pub given : r.given ≡ []

-- what the source of its framing has read
abbrev pub ReadsContent : ContentSource → Reading → Type 0
ReadsContent Empty r = ReadsNothing r
ReadsContent (Fixed source) r = ReadsFixed source r
ReadsContent (Chunked source) r = ReadsChunked source r
