-- What a sink of the head alone makes of a feed: nothing.
use Rattle.std.specs.Prelude.{◌≡◌, true, []}
use Rattle.tow_sink.specs.Feeds.{Form, Feeding, unfed}

abbrev pub head_only : Form → Form
head_only inner = record { frames = λ feed. []; may_end = λ feed. true }

-- nothing was put, and the inner sink has had no call
pub record FeedsHeadOnly (feeds_inner : Feeding → Type 0) (f : Feeding) : Type 0 where
  pub inner : Form
  pub before : feeds_inner (unfed inner)
  pub form : f.form ≡ head_only inner
  pub put : f.put ≡ []
