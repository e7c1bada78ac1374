-- The steps of a write.
use Rattle.std.specs.Prelude.{◌≡◌, ℕ, ◌<◌, Bool, true, List, ◌++◌, length, take, ◌⊎◌}
use Rattle.circular_buffer.specs.Buffer.{Buffer}
use Rattle.tow_sink.specs.Feeds.{Feeding, fed}
use Rattle.tow_sink.specs.Calls.{Puts, PassesLength, reach}

-- nothing more is fed, and what fits is put
pub record Pokes (going : Bool) (piped piped' : Buffer ℕ) (old new : Feeding) : Type 0 where
  pub puts : Puts piped piped' old new
  pub feed : new.feed ≡ old.feed
  pub most : new.put ≡ take (reach old piped) (old.form.frames old.feed)
  pub short : going ≡ true → (reach old piped < length (old.form.frames old.feed)) ⊎ PassesLength old.form old.feed

-- so many bytes of a write are fed, and what they make is not yet put
pub record Goes (from : List ℕ) (count : ℕ) (piped piped' : Buffer ℕ) (old new : Feeding) : Type 0 where
  pub gained : List ℕ
  pub into : piped'.items ≡ piped.items ++ gained
  pub room : piped'.capacity ≡ piped.capacity
  pub put : new.put ≡ old.put ++ gained
  pub form : new.form ≡ old.form
  pub feed : new.feed ≡ fed old.feed from count
  pub reached : reach new piped' ≡ reach old piped

-- so many bytes of a write are fed and held, or what fits is put, and nothing more can be held
pub record Holds (count : ℕ) (from : List ℕ) (piped piped' : Buffer ℕ) (old new : Feeding) : Type 0 where
  pub goes : 0 < count → Goes from count piped piped' old new
  pub stays : count ≡ 0 → 0 < length from → Pokes true piped piped' old new
