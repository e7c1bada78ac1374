-- What a sink of blocks around one of chunks puts.
use Rattle.std.specs.Prelude.{◌≡◌, true}
use Rattle.tow_wire.specs.Answers as wire
use Rattle.tow_sink.specs.Feeds.{Feed, Form, ended}
use Rattle.tow_sink.specs.PlainFeeding.{plain}
use Rattle.tow_sink.specs.ChunkedFeeding.{chunked}
use Rattle.tow_sink.specs.BufferedFeeding.{buffered}

abbrev pub blocks_in_chunks : Form
blocks_in_chunks = buffered (chunked plain)

-- however the bytes were cut into writes, it frames them as the chunks of an answer, and it may always be finished
pub record FramesWhole : Type 0 where
  pub whole : (feed : Feed) → blocks_in_chunks.frames (ended feed) ≡ wire.chunked feed.bytes
  pub may_end : (feed : Feed) → blocks_in_chunks.may_end (ended feed) ≡ true
