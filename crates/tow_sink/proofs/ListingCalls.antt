-- The calls of a sink for listings, one after the other, put the chunks of what they fed.
use Rattle.std.proofs.Common.{◌≡◌, ℕ, Bool, true, false, List, [], ◌∷◌, ◌++◌, if◌then◌else◌, refl, sym, ap, ap₂, ◌∙◌, append_assoc, append-nil, take_all}
use Rattle.std.specs.List.{flat_map}
use Rattle.std.proofs.lemmas.List.{append_cancel_left}
use Rattle.circular_buffer.specs.Buffer.{Buffer}
use Rattle.tow_model.specs.declared.request.Version.{Version}
use Rattle.tow_model.specs.declared.request.Request.{Request}
use Rattle.tow_model.specs.declared.record.Choice.{Choice}
use Rattle.tow_model.specs.declared.answer.Answer.{Answer}
use Rattle.tow_wire.specs.Answers.{chunked, content_of, framed, framed_by, known_length}
use Rattle.tow_sink.specs.declared.finish.Finish.TheVariants.{Finished}
use Rattle.tow_sink.specs.Feeds.{Feed, Form, Feeding, IsOfBytes, Opens, OpensAround, OpensAroundBytes, ended, unfed}
use Rattle.tow_sink.specs.PlainFeeding.{plain}
use Rattle.tow_sink.specs.ChunkedFeeding as chunking
use Rattle.tow_sink.specs.BufferedFeeding.{buffered}
use Rattle.tow_sink.specs.Calls.{Puts, Finishes, reach}
use Rattle.tow_sink.specs.Whole.{blocks_in_chunks}
use Rattle.tow_sink.specs.Listings.{Fill, Write, filled, bytes_fed, AreWrites, AreEnds, SendsListing, FramesListing, OpensListing}
use Rattle.tow_sink.proofs.WholeChunks.{frames_whole}

-- from one feeding to another of the same form: the bytes that were fed, and those that were put
record GoesOn (fed gained : List ℕ) (old new : Feeding) : Type 0 where
  form : new.form ≡ old.form
  bytes : new.feed.bytes ≡ old.feed.bytes ++ fed
  put : new.put ≡ old.put ++ gained

joins : (fed put fed' put' : List ℕ) (f g h : Feeding) → GoesOn fed put f g → GoesOn fed' put' g h → GoesOn (fed ++ fed') (put ++ put') f h
joins fed put fed' put' f g h a b = record {
  form = b.form ∙ a.form;
  bytes = b.bytes ∙ ap (λ (l : List ℕ). l ++ fed') a.bytes ∙ append_assoc f.feed.bytes fed fed';
  put = b.put ∙ ap (λ (l : List ℕ). l ++ put') a.put ∙ append_assoc f.put put put';
}

-- what the pipe gained is what was put
gains : (fill : Fill) (old new : Feeding) → Puts fill.piped (filled fill) old new → new.put ≡ old.put ++ fill.gained
gains fill old new p = p.put ∙ ap (λ (l : List ℕ). old.put ++ l) (sym (append_cancel_left fill.piped.items fill.gained p.gained p.into))

writes_go : (writes : List Write) (old new : Feeding) → AreWrites writes old new
    → GoesOn (bytes_fed writes) (flat_map (λ (w : Write). w.fill.gained) writes) old new
writes_go [] old new is = record {
  form = ap (λ (f : Feeding). f.form) is;
  bytes = ap (λ (f : Feeding). f.feed.bytes) is ∙ sym (append-nil old.feed.bytes);
  put = ap (λ (f : Feeding). f.put) is ∙ sym (append-nil old.put);
}
writes_go (w ∷ writes) old new is =
    let step = is.1 in
    joins _ _ _ _ old is.0 new
    (record {
      form = step.puts.form;
      bytes = ap (λ (f : Feed). f.bytes) step.feed;
      put = gains w.fill old is.0 step.puts;
    })
    (writes_go writes is.0 new is.2)

-- once `finish` has finished, all of the framing was put
all_put : (piped piped' : Buffer ℕ) (old new : Feeding) → Finishes Finished piped piped' old new
    → new.put ≡ old.form.frames (ended old.feed)
all_put piped piped' old new is = is.most ∙ take_all (reach old piped) (old.form.frames (ended old.feed)) is.tells

ends_go : (fills : List Fill) (last : Fill) (old new : Feeding) → AreEnds fills last old new
    → GoesOn [] (flat_map (λ (fill : Fill). fill.gained) (fills ++ last ∷ [])) old new × (new.put ≡ old.form.frames (ended old.feed))
ends_go [] last old new is = (
  record {
    form = is.puts.form;
    bytes = ap (λ (f : Feed). f.bytes) is.feed ∙ sym (append-nil old.feed.bytes);
    put = gains last old new is.puts ∙ ap (λ (l : List ℕ). old.put ++ l) (sym (append-nil last.gained));
  },
  all_put last.piped (filled last) old new is,
)
ends_go (fill ∷ fills) last old new is =
    let step = is.1 in
    let later = ends_go fills last is.0 new is.2 in
    let here : GoesOn [] fill.gained old is.0 = record {
      form = step.puts.form;
      bytes = ap (λ (f : Feed). f.bytes) step.feed ∙ sym (append-nil old.feed.bytes);
      put = gains fill old is.0 step.puts;
    } in (
      joins [] fill.gained [] _ old is.0 new here later.0,
      later.1 ∙ ap₂ (λ (form : Form) (feed : Feed). form.frames (ended feed)) step.puts.form step.feed,
    )

-- what the answer's framing is
framed_is : (file : List ℕ → List ℕ) (q : Request) (a : Answer) (bytes : List ℕ) → SendsListing q a bytes → chunked bytes ≡ framed file q a
framed_is file q a bytes is = sym (
    ap (λ (b : Bool). if b then [] else framed_by q.version (known_length a.choice) (if b then [] else content_of file a.choice)) is.some
    ∙ ap₂ (λ (v : Version) (c : Choice). framed_by v (known_length c) (content_of file c)) is.version is.choice)

frames_listing : FramesListing
frames_listing = λ writes fills last fed_all done writing ending file q a is.
    let w = writes_go writes (unfed blocks_in_chunks) fed_all writing in
    let e = ends_go fills last fed_all done ending in
    let before = flat_map (λ (w : Write). w.fill.gained) writes in
    let after = flat_map (λ (fill : Fill). fill.gained) (fills ++ last ∷ []) in
    let put : done.put ≡ before ++ after = e.0.put ∙ ap (λ (l : List ℕ). l ++ after) w.put in
    sym put ∙ e.1
    ∙ ap₂ (λ (form : Form) (bytes : List ℕ). form.frames (record { sizes = fed_all.feed.sizes; bytes = bytes; finished = true })) w.form w.bytes
    ∙ frames_whole.whole (record { sizes = fed_all.feed.sizes; bytes = bytes_fed writes; finished = false })
    ∙ framed_is file q a (bytes_fed writes) is

of_bytes : IsOfBytes plain
of_bytes = record { frames = λ feed. refl; may_end = λ feed. refl }

-- blocks around chunks around bytes as they are
pub opens_listing : (plainly in_chunks in_blocks : Feeding → Type 0)
    → Opens plainly plain → OpensAroundBytes plainly chunking.chunked in_chunks → OpensAround in_chunks buffered in_blocks
    → OpensListing in_blocks
opens_listing plainly in_chunks in_blocks first second third = record {
  opens = third (chunking.chunked plain) (second plain first of_bytes);
  may_end = frames_whole.may_end;
  framed = frames_listing;
}
