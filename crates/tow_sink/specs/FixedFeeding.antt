-- What a sink of a known length makes of a feed: what its inner sink makes of its first bytes.
use Rattle.std.specs.Prelude.{◌≡◌, ℕ, ◌+◌, ◌-◌, ◌==◌, ◌&&◌, List, [], ◌∷◌, length, take, min, zero, suc}
use Rattle.tow_sink.specs.Feeds.{Feed, Form, Feeding, IsGrowing}

-- blocks up to this length, the last one of them cut
abbrev pub cut_sizes : ℕ → List ℕ → List ℕ
cut_sizes len [] = []
cut_sizes zero (size ∷ sizes) = []
cut_sizes (suc n) (size ∷ sizes) = min (suc n) size ∷ cut_sizes (suc n - size) sizes

-- the first bytes of a feed
abbrev pub cut_feed : ℕ → Feed → Feed
cut_feed len feed = record { sizes = cut_sizes len feed.sizes; bytes = take len feed.bytes; finished = feed.finished }

-- `finish` asks that all bytes of the length were fed
abbrev pub fixed : ℕ → Form → Form
fixed len inner = record {
  frames = λ feed. inner.frames (cut_feed len feed);
  may_end = λ feed. length feed.bytes == len && inner.may_end (cut_feed len feed);
}

-- the inner sink was fed the same, and so many bytes are left
pub record FeedsFixed (feeds_inner : Feeding → Type 0) (left : ℕ) (f : Feeding) : Type 0 where
  pub len : ℕ
  pub inner : Feeding
  pub after : feeds_inner inner
  pub grows : IsGrowing inner.form
  pub form : f.form ≡ fixed len inner.form
  pub feed : inner.feed ≡ cut_feed len f.feed
  pub put : f.put ≡ inner.put
  pub count : length f.feed.bytes + left ≡ len
