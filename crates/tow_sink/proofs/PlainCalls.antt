-- The calls of a plain sink.
use Rattle.std.proofs.Common.{◌≡◌, ℕ, ◌+◌, ◌-◌, ◌≤◌, List, [], ◌++◌, length, take, min, refl, sym, ap, ◌∙◌, arith, length-append, inl, append-nil}
use Rattle.std.proofs.lemmas.List.{take_min, take_all}
use Rattle.std.proofs.Math.Seq.{take-append-add, take-length}
use Rattle.circular_buffer.specs.Buffer.{Buffer, buffer}
use Rattle.tow_sink.specs.declared.finish.Finish.TheVariants.{Finished}
use Rattle.tow_sink.specs.declared.plain.Plain.{Plain}
use Rattle.tow_sink.specs.Feeds.{Form, Feed, Feeding, Opens, fed, all_fed, ended}
use Rattle.tow_sink.specs.Calls.{Writes, Finishes, OnWrite, OnFinish, reach}
use Rattle.tow_sink.specs.PlainFeeding.{plain, FeedsPlain}

pub opens : (s : Plain) → Opens (FeedsPlain s) plain
opens s = record { grows = λ f h l. l.bytes; unfed = record { form = refl; put = refl } }

frames_of : (f : Form) (feed : Feed) → f ≡ plain → f.frames feed ≡ feed.bytes
frames_of f feed is = ap (λ (g : Form). g.frames feed) is

-- the bytes that fit are the front of those fed
fits : (put from : List ℕ) (room count : ℕ) → count ≡ min (length from) room
    → put ++ take count from ≡ take (length put + room) (put ++ take (length from) from)
fits put from room count is =
    let swapped : count ≡ min room (length from) = omega (arith, is) in
    let fitted : take count from ≡ take room (take (length from) from) =
    ap (λ (k : ℕ). take k from) swapped ∙ take_min room from ∙ sym (ap (take room) (take-length from)) in
    ap (λ (l : List ℕ). put ++ l) fitted ∙ sym (take-append-add put (take (length from) from) room)

pub writes : (s : Plain) (count : ℕ) (from : List ℕ) (piped piped' : Buffer ℕ)
    → count ≡ min (length from) (piped.capacity - length piped.items)
    → piped' ≡ buffer (piped.items ++ take count from) piped.capacity
    → OnWrite (FeedsPlain s) (FeedsPlain s) (Writes count from piped piped')
writes s count from piped piped' is after = λ old feeds unfinished.
    let new : Feeding = record { form = old.form; feed = fed old.feed from count; put = old.put ++ take count from } in
    let put : new.put ≡ new.feed.bytes = ap (λ (l : List ℕ). l ++ take count from) feeds.put in
    let framed : old.form.frames (all_fed old.feed from) ≡ old.put ++ take (length from) from =
    frames_of old.form (all_fed old.feed from) feeds.form ∙ ap (λ (l : List ℕ). l ++ take (length from) from) (sym feeds.put) in (
      new,
      record { form = feeds.form; put = put },
      record {
        puts = record {
          gained = take count from;
          into = ap (λ (b : Buffer ℕ). b.items) after;
          room = ap (λ (b : Buffer ℕ). b.capacity) after;
          put = refl;
          form = refl;
          front = ([], frames_of old.form new.feed feeds.form ∙ sym put ∙ sym (append-nil new.put));
        };
        feed = refl;
        most = fits old.put from (piped.capacity - length piped.items) count is ∙ sym (ap (take (reach old piped)) framed);
        short = λ less.
            let all : length (old.form.frames (all_fed old.feed from)) ≡ length old.put + length from =
            ap (λ (l : List ℕ). length l) framed ∙ length-append old.put (take (length from) from)
            ∙ ap (λ (l : List ℕ). length old.put + length l) (take-length from) in
            inl (omega (arith, is, less, all));
      },
    )

pub finishes : (s : Plain) (piped : Buffer ℕ) → OnFinish (FeedsPlain s) (FeedsPlain s) (Finishes Finished piped piped)
finishes s piped = λ old feeds may.
    let new : Feeding = record { form = old.form; feed = ended old.feed; put = old.put } in
    let framed : old.form.frames (ended old.feed) ≡ old.put = frames_of old.form (ended old.feed) feeds.form ∙ sym feeds.put in
    let all : length (old.form.frames (ended old.feed)) ≤ reach old piped =
    let same : length (old.form.frames (ended old.feed)) ≡ length old.put = ap (λ (l : List ℕ). length l) framed in omega (arith, same) in (
      new,
      record { form = feeds.form; put = feeds.put },
      record {
        puts = record {
          gained = [];
          into = sym (append-nil piped.items);
          room = refl;
          put = sym (append-nil old.put);
          form = refl;
          front = ([], framed ∙ sym (append-nil old.put));
        };
        feed = refl;
        most = sym framed ∙ sym (take_all (reach old piped) (old.form.frames (ended old.feed)) all);
        tells = all;
      },
    )
