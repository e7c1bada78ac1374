-- The calls of a sink of the head alone.
use Rattle.std.proofs.Common.{◌≡◌, ℕ, List, [], length, take, refl, sym, ap, ◌∙◌, arith, append-nil}
use Rattle.std.proofs.lemmas.List.{take_all}
use Rattle.circular_buffer.specs.Buffer.{Buffer}
use Rattle.tow_sink.specs.declared.finish.Finish.TheVariants.{Finished}
use Rattle.tow_sink.specs.Feeds.{Form, Feed, Feeding, fed, all_fed, ended}
use Rattle.tow_sink.specs.Calls.{Writes, Finishes, Puts, OnWrite, OnFinish, reach}
use Rattle.tow_sink.specs.HeadOnlyFeeding.{FeedsHeadOnly}

-- nothing is put, whatever was fed
stays : (inner : Feeding → Type 0) (piped : Buffer ℕ) (old : Feeding) (feed : Feed) → FeedsHeadOnly inner old
    → Puts piped piped old record { form = old.form; feed = feed; put = old.put }
stays inner piped old feed is =
    let framed : old.form.frames feed ≡ [] = ap (λ (g : Form). g.frames feed) is.form in
    record {
      gained = [];
      into = sym (append-nil piped.items);
      room = refl;
      put = sym (append-nil old.put);
      form = refl;
      front = ([], framed ∙ sym is.put ∙ sym (append-nil old.put));
    }

none : (old : Feeding) (feed : Feed) (n : ℕ) (inner : Feeding → Type 0) → FeedsHeadOnly inner old → old.put ≡ take n (old.form.frames feed)
none old feed n inner is =
    let framed : old.form.frames feed ≡ [] = ap (λ (g : Form). g.frames feed) is.form in
    is.put ∙ sym (ap (take n) framed ∙ take_all n [] (omega arith))

pub writes : (inner : Feeding → Type 0) (from : List ℕ) (piped : Buffer ℕ)
    → OnWrite (FeedsHeadOnly inner) (FeedsHeadOnly inner) (Writes (length from) from piped piped)
writes inner from piped = λ old is unfinished. (
  record { form = old.form; feed = fed old.feed from (length from); put = old.put },
  record { inner = is.inner; before = is.before; form = is.form; put = is.put },
  record {
    puts = stays inner piped old (fed old.feed from (length from)) is;
    feed = refl;
    most = none old (all_fed old.feed from) (reach old piped) inner is;
    short = λ less. absurd (omega (arith, less));
  },
)

pub finishes : (inner : Feeding → Type 0) (piped : Buffer ℕ)
    → OnFinish (FeedsHeadOnly inner) (FeedsHeadOnly inner) (Finishes Finished piped piped)
finishes inner piped = λ old is may.
    let framed : old.form.frames (ended old.feed) ≡ [] = ap (λ (g : Form). g.frames (ended old.feed)) is.form in (
      record { form = old.form; feed = ended old.feed; put = old.put },
      record { inner = is.inner; before = is.before; form = is.form; put = is.put },
      record {
        puts = stays inner piped old (ended old.feed) is;
        feed = refl;
        most = none old (ended old.feed) (reach old piped) inner is;
        tells = let n : length (old.form.frames (ended old.feed)) ≡ 0 = ap (λ (l : List ℕ). length l) framed in omega (arith, n);
      },
    )
