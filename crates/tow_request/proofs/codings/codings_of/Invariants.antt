use Rattle.std.proofs.Common.{take}
use Rattle.tow_message.specs.Heads.{codings_of}
use Rattle.tow_request.specs.Lines.{fields_at}
use Rattle.tow_request.specs.Refusals.{Sums}
use Rattle.tow_request.proofs.codings.codings_of.Given as goal

abbrev pub invariant-loop-line : goal.invariant-loop-line
invariant-loop-line l = Sums (codings_of (fields_at l.bytes (take l.line-index l.lines))) l.codings
