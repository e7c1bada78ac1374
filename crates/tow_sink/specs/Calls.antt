-- What the calls of a sink do.
use Rattle.std.specs.Prelude.{◌≡◌, ℕ, ◌+◌, ◌-◌, ◌<◌, ◌≤◌, true, false, List, ◌++◌, length, take, ◌⊎◌}
use Rattle.circular_buffer.specs.Buffer.{Buffer}
use Rattle.tow_model.specs.Lists.{IsPrefix}
use Rattle.tow_sink.specs.declared.finish.Finish.{Finish}
use Rattle.tow_sink.specs.declared.finish.Finish.TheVariants.{Finished, Full}
use Rattle.tow_sink.specs.Feeds.{Feed, Form, Feeding, IsLonger, fed, all_fed, ended}

-- the count of bytes that are put where the pipe is filled up
abbrev pub reach : Feeding → Buffer ℕ → ℕ
reach old piped = length old.put + (piped.capacity - length piped.items)

-- A `Fixed` has its length, and these bytes go beyond it: more of them change nothing, and the feed may not be
-- finished so.
pub record PassesLength (form : Form) (feed : Feed) : Type 0 where
  pub same : (h : Feed) → IsLonger feed h → h.finished ≡ false → form.frames h ≡ form.frames feed
  pub no_end : (h : Feed) → IsLonger feed h → form.may_end h ≡ false

-- A call put some bytes at the end of the pipe. What is put is a front of the framing of the bytes fed; the rest of
-- that is pending.
pub record Puts (piped piped' : Buffer ℕ) (old new : Feeding) : Type 0 where
  pub gained : List ℕ
  pub into : piped'.items ≡ piped.items ++ gained
  pub room : piped'.capacity ≡ piped.capacity
  pub put : new.put ≡ old.put ++ gained
  pub form : new.form ≡ old.form
  pub front : IsPrefix new.put (new.form.frames new.feed)

-- One write. Of the framing of all the bytes handed in that is put which fits. It is short only where not all of that
-- fits, or where a `Fixed` has its length.
pub record Writes (count : ℕ) (from : List ℕ) (piped piped' : Buffer ℕ) (old new : Feeding) : Type 0 where
  pub puts : Puts piped piped' old new
  pub feed : new.feed ≡ fed old.feed from count
  pub most : new.put ≡ take (reach old piped) (old.form.frames (all_fed old.feed from))
  pub short : count < length from
      → (reach old piped < length (old.form.frames (all_fed old.feed from))) ⊎ PassesLength old.form (all_fed old.feed from)

-- what each answer to `finish` says, where the pipe reaches so far in this framing
abbrev pub Tells : Finish → ℕ → List ℕ → Type 0
Tells Finished reach framing = length framing ≤ reach
Tells Full reach framing = reach < length framing

-- One call of `finish`. Of the framing of the finished feed that is put which fits.
pub record Finishes (answer : Finish) (piped piped' : Buffer ℕ) (old new : Feeding) : Type 0 where
  pub puts : Puts piped piped' old new
  pub feed : new.feed ≡ ended old.feed
  pub most : new.put ≡ take (reach old piped) (old.form.frames (ended old.feed))
  pub tells : Tells answer (reach old piped) (old.form.frames (ended old.feed))

-- from each feeding that the sink may have before, and that is open, to one that it has after
abbrev pub OnWrite : (Feeding → Type 0) → (Feeding → Type 0) → (Feeding → Feeding → Type 0) → Type 0
OnWrite before after step =
    (old : Feeding) → before old → old.feed.finished ≡ false → (new : Feeding) × after new × step old new

-- from each feeding that the sink may have before, and that may be finished, to one that it has after
abbrev pub OnFinish : (Feeding → Type 0) → (Feeding → Type 0) → (Feeding → Feeding → Type 0) → Type 0
OnFinish before after step =
    (old : Feeding) → before old → old.form.may_end (ended old.feed) ≡ true → (new : Feeding) × after new × step old new
