-- What a sink of chunks makes of a feed: a chunk of each block, as far as it was fed (RFC 9112, section 7.1).
use Rattle.std.specs.Prelude.{◌≡◌, ℕ, ◌+◌, ◌<◌, ◌≤◌, Bool, true, false, ◌&&◌, List, [], ◌∷◌, ◌++◌, length, take, drop, sum, nat_le, if◌then◌else◌}
use Rattle.std.specs.Fmt.{digits}
use Rattle.httparse.specs.Ascii.{crlf_bytes}
use Rattle.tow_wire.specs.Answers.{last_chunk}
use Rattle.circular_buffer.specs.Buffer.{Buffer}
use Rattle.tow_sink.specs.Feeds.{Feed, Form, Feeding, IsGrowing, IsOfBytes}
use Rattle.tow_sink.specs.Calls.{OnWrite, Writes}

-- a chunk's first line: its size in hexadecimal
abbrev pub size_line : ℕ → List ℕ
size_line size = digits 16 false size ++ crlf_bytes

-- the chunks of the blocks, the last one as far as its bytes go
abbrev pub chunks : List ℕ → List ℕ → List ℕ
chunks [] bytes = []
chunks (size ∷ sizes) bytes =
    size_line size ++ (if nat_le size (length bytes) then take size bytes ++ crlf_bytes ++ chunks sizes (drop size bytes) else bytes)

abbrev pub chunked_text : Feed → List ℕ
chunked_text feed = chunks feed.sizes feed.bytes ++ (if feed.finished then last_chunk else [])

-- the text as it is fed to the inner sink
abbrev pub text_feed : Feed → Feed
text_feed feed = record { sizes = []; bytes = chunked_text feed; finished = feed.finished }

-- all blocks that were handed in are fed whole
abbrev pub is_whole : Feed → Bool
is_whole feed = nat_le (sum feed.sizes) (length feed.bytes)

-- `finish` asks that the chunk under way was fed whole
abbrev pub chunked : Form → Form
chunked inner = record {
  frames = λ feed. inner.frames (text_feed feed);
  may_end = λ feed. is_whole feed && inner.may_end (text_feed feed);
}

-- so many bytes are left of the last block, and each block before it was fed whole
pub record UnderWay (sizes bytes : List ℕ) (left : ℕ) : Type 0 where
  pub before : List ℕ
  pub size : ℕ
  pub blocks : sizes ≡ before ++ (size ∷ [])
  pub all : sum before + size ≡ length bytes + left
  pub within : left ≤ size

-- The inner sink was fed the text but for the part that is still to be handed on. So many bytes are left of the
-- block under way; where none is, that part is a rest of a line end, and after `finish` of the last chunk too.
pub record FeedsChunked (feeds_inner : Feeding → Type 0) (owed : List ℕ) (missing : ℕ) (is_ended : Bool) (f : Feeding) : Type 0 where
  pub inner : Feeding
  pub after : feeds_inner inner
  pub grows : IsGrowing inner.form
  pub of_bytes : IsOfBytes inner.form
  pub form : f.form ≡ chunked inner.form
  pub put : f.put ≡ inner.put
  pub text : inner.feed.bytes ++ owed ≡ chunked_text f.feed
  pub left : length f.feed.bytes + missing ≡ sum f.feed.sizes
  pub under : 0 < missing → UnderWay f.feed.sizes f.feed.bytes missing
  pub rest : missing ≡ 0 → is_ended ≡ false → (n : ℕ) × (owed ≡ drop n crlf_bytes)
  pub ended : f.feed.finished ≡ is_ended
  pub unfinished : inner.feed.finished ≡ true → (is_ended ≡ true) × (owed ≡ [])

-- so the text is handed on: the inner sink, the text and the pipe before and after
pub record HandsText (before after : Feeding → Type 0) (text text' : List ℕ) (piped piped' : Buffer ℕ) : Type 0 where
  pub count : ℕ
  pub within : count ≤ length text
  pub law : OnWrite before after (Writes count text piped piped')
  pub rest : text' ≡ drop count text
