use Rattle.tow_sink.proofs.WholeChunks.{frames_whole}
use Rattle.tow_sink.proofs.laws.frames_whole.Goals as goal

pub returns : goal.returns
returns c = frames_whole
