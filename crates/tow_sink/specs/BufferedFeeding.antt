-- What a sink of blocks makes of a feed: what its inner sink makes of the whole blocks, and at the end of all of them.
use Rattle.std.specs.Prelude.{◌≡◌, ℕ, ◌*◌, ◌/◌, ◌<◌, ◌≤◌, Bool, true, false, ◌&&◌, nat_lt, List, [], ◌++◌, length, map, take, drop, if◌then◌else◌}
use Rattle.tow_model.specs.declared.limits.TheConstants.{BLOCK_LEN}
use Rattle.circular_buffer.specs.Buffer.{Buffer, buffer}
use Rattle.tow_wire.specs.Answers.{blocks}
use Rattle.tow_sink.specs.Feeds.{Feed, Form, Feeding, IsGrowing, all_fed, ended}
use Rattle.tow_sink.specs.Calls.{OnWrite, Writes}

-- the bytes that make whole blocks
abbrev pub whole_part : List ℕ → List ℕ
whole_part bytes = take (length bytes / BLOCK_LEN * BLOCK_LEN) bytes

-- these bytes, handed on in blocks
abbrev pub in_blocks : Bool → List ℕ → Feed
in_blocks finished bytes = record { sizes = map (λ (b : List ℕ). length b) (blocks bytes); bytes = bytes; finished = finished }

-- what is handed on of a feed
abbrev pub handed_on : Feed → Feed
handed_on feed = in_blocks feed.finished (if feed.finished then feed.bytes else whole_part feed.bytes)

abbrev pub buffered : Form → Form
buffered inner = record {
  frames = λ feed. inner.frames (handed_on feed);
  may_end = λ feed. inner.may_end (handed_on feed);
}

-- What was not handed on is held: the rest of a block that is being handed on, or less than a block.
pub record FeedsBuffered (feeds_inner : Feeding → Type 0) (held : Buffer ℕ) (is_handing : Bool) (f : Feeding) : Type 0 where
  pub inner : Feeding
  pub after : feeds_inner inner
  pub grows : IsGrowing inner.form
  pub form : f.form ≡ buffered inner.form
  pub put : f.put ≡ inner.put
  pub capacity : held.capacity ≡ BLOCK_LEN
  pub bytes : inner.feed.bytes ++ held.items ≡ f.feed.bytes
  pub some : is_handing ≡ true → 0 < length held.items
  pub handing : is_handing ≡ true → (all_fed inner.feed held.items ≡ in_blocks false f.feed.bytes) × (f.feed.finished ≡ false → whole_part f.feed.bytes ≡ f.feed.bytes)
  pub holding : is_handing ≡ false → f.feed.finished ≡ false → (inner.feed ≡ in_blocks false (whole_part f.feed.bytes)) × (length held.items < BLOCK_LEN)
  pub ended : is_handing ≡ false → f.feed.finished ≡ true → (held.items ≡ []) × (ended inner.feed ≡ in_blocks true f.feed.bytes)

-- what is handed on now: the rest of the block under way, or nothing
abbrev pub to_hand : Bool → List ℕ → List ℕ
to_hand is_handing held = if is_handing then held else []

-- so it is handed on: the inner sink, what is held and the pipe before and after
pub record HandsOn (before after : Feeding → Type 0) (is_handing is_handing' : Bool) (held held' piped piped' : Buffer ℕ) : Type 0 where
  pub count : ℕ
  pub within : count ≤ length (to_hand is_handing held.items)
  pub law : OnWrite before after (Writes count (to_hand is_handing held.items) piped piped')
  pub rest : held' ≡ buffer (drop count held.items) held.capacity
  pub goes_on : is_handing' ≡ (is_handing && nat_lt 0 (length held'.items))
