-- What a plain sink makes of a feed: its bytes.
use Rattle.std.specs.Prelude.{◌≡◌, true}
use Rattle.tow_sink.specs.declared.plain.Plain.{Plain}
use Rattle.tow_sink.specs.Feeds.{Form, Feeding}

abbrev pub plain : Form
plain = record { frames = λ feed. feed.bytes; may_end = λ feed. true }

-- all that was fed was put
pub record FeedsPlain (sink : Plain) (f : Feeding) : Type 0 where
  pub form : f.form ≡ plain
  pub put : f.put ≡ f.feed.bytes
