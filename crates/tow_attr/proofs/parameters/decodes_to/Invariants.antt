use Rattle.std.proofs.Common.{◌≡◌, drop}
use Rattle.std.specs.Str.{bytes_eq}
use Rattle.percent_encoding.specs.Iter.{decoded_bytes}
use Rattle.percent_encoding.specs.Percent.{percent_decode}
use Rattle.tow_attr.proofs.parameters.decodes_to.Given as goal

-- the texts are equal where what is left of them is
abbrev pub invariant-loop-wanted : goal.invariant-loop-wanted
invariant-loop-wanted l = bytes_eq (percent_decode l.text) l.decoded ≡ bytes_eq (decoded_bytes l.bytes) (drop l.wanted-index l.decoded)
