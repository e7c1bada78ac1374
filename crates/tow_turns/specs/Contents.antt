-- The source of a content that is dropped.
use Rattle.std.specs.Prelude.{◌≤◌, ℕ, length, Option, Some, None}
use Rattle.circular_buffer.specs.Buffer.{Buffer}
use Rattle.tow_source.specs.Readings.{Reading}
use Rattle.tow_source.specs.declared.drain.Drain.{Drain}
use Rattle.tow_content.specs.declared.source.ContentSource.{ContentSource}
use Rattle.tow_content.specs.Sources.{ReadsContent}

-- it has come somewhere in a content
abbrev pub ReadsSome : ContentSource → Type 0
ReadsSome source = (r : Reading) × ReadsContent source r

abbrev pub DropsSome : Option (Drain ContentSource) → Type 0
DropsSome None = Unit {0}
DropsSome (Some drain) = ReadsSome drain.source

-- the pipe holds no more than before
abbrev pub IsNearer : Buffer ℕ → Buffer ℕ → Type 0
IsNearer old new = length new.items ≤ length old.items
