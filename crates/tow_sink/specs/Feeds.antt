-- What is fed to a sink, and what it makes of it.
use Rattle.std.specs.Prelude.{◌≡◌, ℕ, ◌+◌, ◌-◌, Bool, true, false, List, [], ◌∷◌, ◌++◌, length, take, sum, nat_le, zero, suc, if◌then◌else◌}
use Rattle.tow_model.specs.Lists.{IsPrefix}

-- What was fed: the sizes of the blocks that were handed in, the bytes of them that were fed so far, and whether the
-- feed was finished. All blocks but the last one were fed whole.
pub record Feed : Type 0 where
  pub sizes : List ℕ
  pub bytes : List ℕ
  pub finished : Bool

abbrev pub no_feed : Feed
no_feed = record { sizes = []; bytes = []; finished = false }

-- a block of this size, if there is any byte
abbrev pub one_block : ℕ → List ℕ
one_block zero = []
one_block (suc n) = suc n ∷ []

-- the bytes beyond so many up to this total, where bytes up to `reached` were fed; none before that many were fed
abbrev pub beyond : ℕ → ℕ → ℕ → ℕ
beyond before reached total = if nat_le before reached then total - before else 0

-- The blocks after a write that hands in bytes up to this total, and of which bytes up to `reached` were fed. Those
-- beyond the blocks so far are a further block, once these are fed whole. So a write that goes on after a short one
-- goes on in its block.
abbrev pub handed_in : List ℕ → ℕ → ℕ → List ℕ
handed_in sizes reached total = sizes ++ one_block (beyond (sum sizes) reached total)

-- the feed after a write that handed in these bytes, and of which so many were fed
abbrev pub fed : Feed → List ℕ → ℕ → Feed
fed feed from count = record {
  sizes = handed_in feed.sizes (length feed.bytes + count) (length feed.bytes + length from);
  bytes = feed.bytes ++ take count from;
  finished = feed.finished;
}

-- the feed after a write of which all was fed
abbrev pub all_fed : Feed → List ℕ → Feed
all_fed feed from = fed feed from (length from)

abbrev pub ended : Feed → Feed
ended feed = record { sizes = feed.sizes; bytes = feed.bytes; finished = true }

-- the feed h goes on where f is, or is the same
pub record IsLonger (f h : Feed) : Type 0 where
  pub unfinished : f.finished ≡ false
  pub sizes : IsPrefix f.sizes h.sizes
  pub bytes : IsPrefix f.bytes h.bytes

-- What a kind of sink makes of any feed: its framing, and whether the feed may be finished so, by the condition of
-- its `finish`.
pub record Form : Type 0 where
  pub frames : Feed → List ℕ
  pub may_end : Feed → Bool

-- the framing of a feed is a front of the framing of any longer one
abbrev pub IsGrowing : Form → Type 0
IsGrowing form = (f h : Feed) → IsLonger f h → IsPrefix (form.frames f) (form.frames h)

abbrev pub no_sizes : Feed → Feed
no_sizes feed = record { sizes = []; bytes = feed.bytes; finished = feed.finished }

-- What it makes of a feed depends on the bytes alone. So it is of each sink but `Chunked`, and a `Fixed` around one:
-- those ask for blocks, and the text of a `Chunked` is no block.
pub record IsOfBytes (form : Form) : Type 0 where
  pub frames : (feed : Feed) → form.frames feed ≡ form.frames (no_sizes feed)
  pub may_end : (feed : Feed) → form.may_end feed ≡ form.may_end (no_sizes feed)

-- a sink so far: what it makes of a feed, what was fed, and the bytes of its framing that were put into the pipe
pub record Feeding : Type 0 where
  pub form : Form
  pub feed : Feed
  pub put : List ℕ

-- nothing is fed yet
abbrev pub unfed : Form → Feeding
unfed form = record { form = form; feed = no_feed; put = [] }

-- a sink of this form before its first call
pub record Opens (feeds : Feeding → Type 0) (form : Form) : Type 0 where
  pub grows : IsGrowing form
  pub unfed : feeds (unfed form)

-- a sink around another one: whatever the form of that, it has the form around it
abbrev pub OpensAround : (Feeding → Type 0) → (Form → Form) → (Feeding → Type 0) → Type 0
OpensAround inner around outer = (form : Form) → Opens inner form → Opens outer (around form)

-- the same around a sink whose framing depends on the bytes alone
abbrev pub OpensAroundBytes : (Feeding → Type 0) → (Form → Form) → (Feeding → Type 0) → Type 0
OpensAroundBytes inner around outer = (form : Form) → Opens inner form → IsOfBytes form → Opens outer (around form)
