use Rattle.std.proofs.Common.{◌≡◌, ◌-◌, ◌^◌, ◌<◌, ◌++◌, length, false}
use Rattle.std.specs.Fmt.{digits}
use Rattle.httparse.specs.Ascii.{crlf_bytes}
use Rattle.tow_sink.proofs.HexDigits.{before}
use Rattle.tow_sink.proofs.text.Text.size_line.Given as goal

-- the digits so far, and what is left has as many more as fit
abbrev pub invariant-loop-left : goal.invariant-loop-left
invariant-loop-left l =
    record {
      room : length l.text < 18;
      left : l.left < 16 ^ (18 - length l.text);
      digits : before (66 - length l.text) l.left l.text ≡ digits 16 false l.size ++ crlf_bytes;
    }

abbrev pub decreases-loop-left : goal.decreases-loop-left
decreases-loop-left l = l.left
