-- Why a byte begins no token.
use Rattle.std.specs.Prelude.{ℕ, Bool, ◌&&◌, ◌==◌, nat_le, List, Option, None, Some, if◌then◌else◌}
use Rattle.bstr.specs.Utf8.{decoded}
use Rattle.tow_explain.specs.declared.cause.Cause.{Cause}
use Rattle.tow_explain.specs.declared.cause.Cause.TheVariants as causes

abbrev pub character_cause : Bool → Option ℕ → Cause
character_cause first None = causes.NotUtf8
character_cause first (Some c) =
    if first && (c == 0xFEFF) then causes.ByteOrderMark else (if nat_le 128 c then causes.NotAscii else causes.ControlByte)

-- why what follows begins no token, at the beginning of the text or not
unfoldable pub stray_cause : Bool → List ℕ → Cause
stray_cause first rest = character_cause first (decoded rest).char
