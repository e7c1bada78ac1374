-- Where a reader of chunked content stands, and where it stands after one more byte.
use Rattle.std.specs.Prelude.{ℕ, ◌+◌, ◌-◌, ◌*◌, Bool, true, false, List, [], ◌∷◌, nat_lt, ◌==◌, if◌then◌else◌}
use Rattle.std.specs.Char.{is_ascii_hexdigit, digit_value}
use Rattle.httparse.specs.Ascii.{carriage_return, line_feed, semicolon}
use Rattle.httparse.specs.Grammar.{is_ows}
use Rattle.tow_model.specs.declared.limits.TheConstants.{MAX_CONTENT_LEN, MAX_CHUNK_LINE_LEN, MAX_TRAILER_LEN}
use Rattle.tow_source.specs.declared.place.TheConstants.{MAX_SIZE_DIGITS}
use Rattle.tow_source.specs.declared.place.Place.{Place}
use Rattle.tow_source.specs.declared.place.Place.TheVariants.{SizeStart, Digits, Padding, Extension, SizeLf, Data, DataLf, TrailerStart, TrailerText, TrailerLf, LastLf, Ended, Bad, TooLong}

-- the value of a size with one digit more; one above the limit is kept, since it stays above it
abbrev pub grown_size : ℕ → ℕ → ℕ
grown_size size digit = if nat_lt MAX_CONTENT_LEN size then size else size * 16 + digit

abbrev pub first_digit : ℕ → Place
first_digit byte = if is_ascii_hexdigit byte then Digits 1 (digit_value byte) else Bad

-- after the digits of a size: its line's end, or a blank or an extension if the line's end fits after it
abbrev pub after_digits : ℕ → ℕ → ℕ → Place
after_digits len size byte =
    if byte == carriage_return then SizeLf size
    else if nat_lt len (MAX_CHUNK_LINE_LEN - 2) then (if byte == semicolon then Extension (len + 1) size else if is_ows byte then Padding (len + 1) size else Bad)
    else Bad

abbrev pub next_digit : ℕ → ℕ → ℕ → Place
next_digit len size byte =
    if is_ascii_hexdigit byte then (if nat_lt len MAX_SIZE_DIGITS then Digits (len + 1) (grown_size size (digit_value byte)) else Bad)
    else after_digits len size byte

abbrev pub in_extension : ℕ → ℕ → ℕ → Place
in_extension len size byte =
    if byte == carriage_return then SizeLf size
    else if byte == line_feed then Bad
    else if nat_lt len (MAX_CHUNK_LINE_LEN - 2) then Extension (len + 1) size
    else Bad

-- where the line of a size ends, and there is so much room for it
abbrev pub after_size_line : ℕ → ℕ → ℕ → Place
after_size_line room size byte =
    if byte == line_feed then (if nat_lt room size then TooLong else if size == 0 then TrailerStart 0 else Data size)
    else Bad

abbrev pub after_data : ℕ → ℕ → Place
after_data left byte =
    if left == 0 then (if byte == carriage_return then DataLf else Bad)
    else Data (left - 1)

-- this place where the byte is the line feed, and no other
abbrev pub at_line_feed : Place → ℕ → Place
at_line_feed next byte = if byte == line_feed then next else Bad

-- a line's first byte, if that line's end and the empty line fit after it
abbrev pub trailer_start : ℕ → ℕ → Place
trailer_start len byte =
    if byte == carriage_return then LastLf
    else if byte == line_feed then Bad
    else if nat_lt len (MAX_TRAILER_LEN - 4) then TrailerText (len + 3)
    else Bad

-- `len` counts this line's end already
abbrev pub trailer_text : ℕ → ℕ → Place
trailer_text len byte =
    if byte == carriage_return then TrailerLf len
    else if byte == line_feed then Bad
    else if nat_lt len (MAX_TRAILER_LEN - 2) then TrailerText (len + 1)
    else Bad

abbrev pub place_after : ℕ → Place → ℕ → Place
place_after room SizeStart byte = first_digit byte
place_after room (Digits len size) byte = next_digit len size byte
place_after room (Padding len size) byte = after_digits len size byte
place_after room (Extension len size) byte = in_extension len size byte
place_after room (SizeLf size) byte = after_size_line room size byte
place_after room (Data left) byte = after_data left byte
place_after room DataLf byte = at_line_feed SizeStart byte
place_after room (TrailerStart len) byte = trailer_start len byte
place_after room (TrailerText len) byte = trailer_text len byte
place_after room (TrailerLf len) byte = at_line_feed (TrailerStart len) byte
place_after room LastLf byte = at_line_feed Ended byte
place_after room Ended byte = Ended
place_after room Bad byte = Bad
place_after room TooLong byte = TooLong

-- the room that is left where the size's line has ended
abbrev pub room_after : ℕ → Place → ℕ
room_after room SizeStart = room
room_after room (Digits len size) = room
room_after room (Padding len size) = room
room_after room (Extension len size) = room
room_after room (SizeLf size) = room - size
room_after room (Data left) = room
room_after room DataLf = room
room_after room (TrailerStart len) = room
room_after room (TrailerText len) = room
room_after room (TrailerLf len) = room
room_after room LastLf = room
room_after room Ended = room
room_after room Bad = room
room_after room TooLong = room

-- the content goes on
abbrev pub goes_on : Place → Bool
goes_on SizeStart = true
goes_on (Digits len size) = true
goes_on (Padding len size) = true
goes_on (Extension len size) = true
goes_on (SizeLf size) = true
goes_on (Data left) = true
goes_on DataLf = true
goes_on (TrailerStart len) = true
goes_on (TrailerText len) = true
goes_on (TrailerLf len) = true
goes_on LastLf = true
goes_on Ended = false
goes_on Bad = false
goes_on TooLong = false

-- the next byte is none of the content's own, but one around it
abbrev pub is_framing : Place → Bool
is_framing SizeStart = true
is_framing (Digits len size) = true
is_framing (Padding len size) = true
is_framing (Extension len size) = true
is_framing (SizeLf size) = true
is_framing (Data left) = left == 0
is_framing DataLf = true
is_framing (TrailerStart len) = true
is_framing (TrailerText len) = true
is_framing (TrailerLf len) = true
is_framing LastLf = true
is_framing Ended = false
is_framing Bad = false
is_framing TooLong = false

-- the content's own byte, if the next one is
abbrev pub given_at : Place → ℕ → List ℕ
given_at SizeStart byte = []
given_at (Digits len size) byte = []
given_at (Padding len size) byte = []
given_at (Extension len size) byte = []
given_at (SizeLf size) byte = []
given_at (Data left) byte = if left == 0 then [] else byte ∷ []
given_at DataLf byte = []
given_at (TrailerStart len) byte = []
given_at (TrailerText len) byte = []
given_at (TrailerLf len) byte = []
given_at LastLf byte = []
given_at Ended byte = []
given_at Bad byte = []
given_at TooLong byte = []
