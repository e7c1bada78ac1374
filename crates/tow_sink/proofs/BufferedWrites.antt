-- A write to a sink of blocks, in steps.
use Rattle.std.proofs.Common.{◌≡◌, ℕ, zero, suc, ◌+◌, ◌-◌, ◌*◌, ◌/◌, ◌<◌, ◌≤◌, Bool, true, false, ◌==◌, List, [], ◌++◌, length, take, drop, min, refl, sym, ap, ◌∙◌, subst, arith, append_assoc, append-nil, length-append, ◌⊎◌, inl, inr}
use Rattle.std.proofs.lemmas.Bool.Decides.{eqb_tells}
use Rattle.circular_buffer.specs.Buffer.{Buffer, buffer}
use Rattle.tow_model.specs.declared.limits.TheConstants.{BLOCK_LEN}
use Rattle.tow_sink.specs.Feeds.{Feed, IsGrowing, Feeding, fed, all_fed}
use Rattle.tow_sink.specs.Calls.{Writes, OnWrite}
use Rattle.tow_sink.specs.Steps.{Pokes, Goes, Holds}
use Rattle.tow_sink.specs.BufferedFeeding.{whole_part, in_blocks, FeedsBuffered, HandsOn}
use Rattle.tow_sink.proofs.Fronts.{reach_stays, clash}
use Rattle.tow_sink.proofs.Goings.{goes_then, writes_end}
use Rattle.tow_sink.proofs.BlockFeeds.{block_more, whole_length, whole_of, whole_all, grows}
use Rattle.tow_sink.proofs.BufferedCalls.{hands_on}

pub grows_of : (feeds : Feeding → Type 0) (held : Buffer ℕ) (b : Bool) (f : Feeding) → FeedsBuffered feeds held b f → IsGrowing f.form
grows_of feeds held b f is = subst IsGrowing (sym is.form) (grows is.inner.form is.grows)

-- how the bytes were cut is not seen
same_bytes : (feeds : Feeding → Type 0) (held : Buffer ℕ) (b : Bool) (f : Feeding) (feed : Feed) → feed.bytes ≡ f.feed.bytes → feed.finished ≡ f.feed.finished
    → FeedsBuffered feeds held b f → FeedsBuffered feeds held b record { form = f.form; feed = feed; put = f.put }
same_bytes feeds held b f feed bytes finished is = record {
  inner = is.inner;
  after = is.after;
  grows = is.grows;
  form = is.form;
  put = is.put;
  capacity = is.capacity;
  bytes = is.bytes ∙ sym bytes;
  some = is.some;
  handing = λ yes.
      let h = is.handing yes in
      (h.0 ∙ ap (in_blocks false) (sym bytes), λ un. ap whole_part bytes ∙ h.1 (sym finished ∙ un) ∙ sym bytes);
  holding = λ no un.
      let h = is.holding no (sym finished ∙ un) in
      (h.0 ∙ ap (λ (l : List ℕ). in_blocks false (whole_part l)) (sym bytes), h.1);
  ended = λ no fin. let h = is.ended no (sym finished ∙ fin) in (h.0, h.1 ∙ ap (in_blocks true) (sym bytes));
}

-- before the first step
pub starts : (feeds : Feeding → Type 0) (held : Buffer ℕ) (b : Bool) (from : List ℕ) (piped : Buffer ℕ)
    → OnWrite (FeedsBuffered feeds held b) (FeedsBuffered feeds held b) (Goes from 0 piped piped)
starts feeds held b from piped = λ old is un. (
  record { form = old.form; feed = fed old.feed from 0; put = old.put },
  same_bytes feeds held b old (fed old.feed from 0) (append-nil old.feed.bytes) refl is,
  record {
    gained = [];
    into = sym (append-nil piped.items);
    room = refl;
    put = sym (append-nil old.put);
    form = refl;
    feed = refl;
    reached = refl;
  },
)

-- the block that is due is handed on no further
pub holds_none : (before after : Feeding → Type 0) (b b' : Bool) (held held' piped piped' : Buffer ℕ) (from : List ℕ) → HandsOn before after b b' held held' piped piped'
    → b' ≡ true → OnWrite (FeedsBuffered before held b) (FeedsBuffered after held' b') (Holds 0 from piped piped')
holds_none before after b b' held held' piped piped' from h on = λ old is un.
    let one = hands_on before after b b' held held' piped piped' h old is un in (
      one.0,
      one.1,
      record {
        goes = λ some. absurd (omega (arith, some));
        stays = λ _ _. subst (λ (t : Bool). Pokes t piped piped' old one.0) on one.2;
      },
    )

-- more bytes are held, where nothing is to be handed on
more : (feeds : Feeding → Type 0) (b : Bool) (held held' : Buffer ℕ) (count room : ℕ) (from : List ℕ) (f : Feeding)
    → FeedsBuffered feeds held false f → f.feed.finished ≡ false → count ≤ length from → count ≤ held.capacity - length held.items
    → held' ≡ buffer (held.items ++ take count from) held.capacity → room + length held'.items ≡ held'.capacity → b ≡ (room == 0)
    → FeedsBuffered feeds held' b record { form = f.form; feed = fed f.feed from count; put = f.put }
more feeds b held held' count room from f is un le fits after left full =
    let a = whole_part f.feed.bytes in
    let k = length f.feed.bytes / BLOCK_LEN in
    let holds = is.holding refl un in
    let len : length a ≡ k * BLOCK_LEN = whole_length f.feed.bytes in
    let items : held'.items ≡ held.items ++ take count from = ap (λ (h : Buffer ℕ). h.items) after in
    let capacity : held'.capacity ≡ BLOCK_LEN = ap (λ (h : Buffer ℕ). h.capacity) after ∙ is.capacity in
    let split : a ++ held.items ≡ f.feed.bytes = ap (λ (g : Feed). g.bytes ++ held.items) (sym holds.0) ∙ is.bytes in
    let now : a ++ held'.items ≡ f.feed.bytes ++ take count from =
    ap (λ (l : List ℕ). a ++ l) items ∙ sym (append_assoc a held.items (take count from)) ∙ ap (λ (l : List ℕ). l ++ take count from) split in
    let bytes : is.inner.feed.bytes ++ held'.items ≡ f.feed.bytes ++ take count from =
    ap (λ (g : Feed). g.bytes ++ held'.items) holds.0 ∙ now in
    record {
      inner = is.inner;
      after = is.after;
      grows = is.grows;
      form = is.form;
      put = is.put;
      capacity = capacity;
      bytes = bytes;
      some = λ yes. let n = whole yes in omega (arith, n, left, capacity, lit);
      handing = λ yes.
          let n : length held'.items ≡ BLOCK_LEN = let z = whole yes in omega (arith, z, left, capacity) in (
            ap (λ (g : Feed). all_fed g held'.items) holds.0
                ∙ block_more k a held'.items len (omega (arith, n, lit)) (omega (arith, n))
                ∙ ap (in_blocks false) now,
            λ _. ap whole_part (sym now)
                ∙ whole_all (k + 1) (a ++ held'.items) (omega (arith, length-append a held'.items, len, n))
                ∙ now,
          );
      holding = λ no _.
          let n : length held'.items < BLOCK_LEN = let z = part no in omega (arith, z, left, capacity) in (
            holds.0 ∙ ap (in_blocks false) (sym (whole_of k a held'.items len n) ∙ ap whole_part now),
            n,
          );
      ended = λ _ fin. absurd (clash (sym un ∙ fin));
    }
  where
    lit : 0 < BLOCK_LEN
    lit = omega arith

    whole : b ≡ true → room ≡ 0
    whole is = by (eqb_tells room 0)
      where
        by : (((room == 0) ≡ true) × (room ≡ 0)) ⊎ (((room == 0) ≡ false) × (room ≡ 0 → ⊥)) → room ≡ 0
        by (inl (_, z)) = z
        by (inr (nay, _)) = absurd (clash (sym nay ∙ sym full ∙ is))

    part : b ≡ false → 0 < room
    part not' = by (eqb_tells room 0)
      where
        some : (k : ℕ) → room ≡ k → (room ≡ 0 → ⊥) → 0 < room
        some zero z apart = absurd (apart z)
        some (suc k) z apart = omega (arith, z)

        by : (((room == 0) ≡ true) × (room ≡ 0)) ⊎ (((room == 0) ≡ false) × (room ≡ 0 → ⊥)) → 0 < room
        by (inl (is, _)) = absurd (clash (sym not' ∙ full ∙ is))
        by (inr (_, apart)) = some room refl apart

-- the block that was due is handed on, and bytes are held
pub holds_more : (before after : Feeding → Type 0) (b b' b'' : Bool) (held held' held'' piped piped' : Buffer ℕ) (count room : ℕ) (from : List ℕ)
    → HandsOn before after b b' held held' piped piped' → b' ≡ false → count ≡ min (length from) (held'.capacity - length held'.items)
    → held'' ≡ buffer (held'.items ++ take count from) held'.capacity → room + length held''.items ≡ held''.capacity → b'' ≡ (room == 0)
    → OnWrite (FeedsBuffered before held b) (FeedsBuffered after held'' b'') (Holds count from piped piped')
holds_more before after b b' b'' held held' held'' piped piped' count room from h off is_count after' left full = λ old is un.
    let one = hands_on before after b b' held held' piped piped' h old is un in
    let mid = one.0 in
    let pokes = one.2 in
    let there : FeedsBuffered after held' false mid = subst (λ (t : Bool). FeedsBuffered after held' t mid) off one.1 in
    let un' : mid.feed.finished ≡ false = ap (λ (f : Feed). f.finished) pokes.feed ∙ un in
    let short : length held'.items < BLOCK_LEN = (there.holding refl un').1 in (
      record { form = mid.form; feed = fed mid.feed from count; put = mid.put },
      more after b'' held' held'' count room from mid there un' (omega (arith, is_count)) (omega (arith, is_count)) after' left full,
      record {
        goes = λ _. record {
          gained = pokes.puts.gained;
          into = pokes.puts.into;
          room = pokes.puts.room;
          put = pokes.puts.put;
          form = pokes.puts.form;
          feed = ap (λ (f : Feed). fed f from count) pokes.feed;
          reached = reach_stays old mid piped piped' (old.form.frames old.feed) pokes.puts pokes.most;
        };
        stays = λ none some. absurd (omega (arith, none, some, is_count, short, there.capacity));
      },
    )

-- one step more
pub goes_on : (before middle after : Feeding → Type 0) (b b' b'' : Bool) (held held' held'' : Buffer ℕ) (from : List ℕ) (count next : ℕ) (piped piped' piped'' : Buffer ℕ)
    → OnWrite (FeedsBuffered before held b) (FeedsBuffered middle held' b') (Goes from count piped piped')
    → OnWrite (FeedsBuffered middle held' b') (FeedsBuffered after held'' b'') (Holds next (drop count from) piped' piped'')
    → count ≤ length from → 0 < next → OnWrite (FeedsBuffered before held b) (FeedsBuffered after held'' b'') (Goes from (count + next) piped piped'')
goes_on before middle after b b' b'' held held' held'' from count next piped piped' piped'' law law' le some = λ old is un.
    let one = law old is un in
    let un' : one.0.feed.finished ≡ false = ap (λ (f : Feed). f.finished) one.2.feed ∙ un in
    let two = law' one.0 one.1 un' in
    (two.0, two.1, goes_then from count next piped piped' piped'' old one.0 two.0 le one.2 (two.2.goes some))

-- no more can be held
pub ends_short : (before middle after : Feeding → Type 0) (b b' b'' : Bool) (held held' held'' : Buffer ℕ) (from : List ℕ) (count next : ℕ) (piped piped' piped'' : Buffer ℕ)
    → OnWrite (FeedsBuffered before held b) (FeedsBuffered middle held' b') (Goes from count piped piped')
    → OnWrite (FeedsBuffered middle held' b') (FeedsBuffered after held'' b'') (Holds next (drop count from) piped' piped'')
    → count < length from → 0 < length (drop count from) → next ≡ 0 → OnWrite (FeedsBuffered before held b) (FeedsBuffered after held'' b'') (Writes count from piped piped'')
ends_short before middle after b b' b'' held held' held'' from count next piped piped' piped'' law law' less some none = λ old is un.
    let one = law old is un in
    let un' : one.0.feed.finished ≡ false = ap (λ (f : Feed). f.finished) one.2.feed ∙ un in
    let two = law' one.0 one.1 un' in (
      two.0,
      two.1,
      writes_end from count true piped piped' piped'' old one.0 two.0 one.2 (two.2.stays none some) (grows_of before held b old is) un
          (omega (arith, less)) (λ _. refl),
    )

-- all is held or handed on
pub ends_whole : (before middle after : Feeding → Type 0) (b b' b'' : Bool) (held held' held'' : Buffer ℕ) (from : List ℕ) (count : ℕ) (piped piped' piped'' : Buffer ℕ)
    → OnWrite (FeedsBuffered before held b) (FeedsBuffered middle held' b') (Goes from count piped piped')
    → HandsOn middle after b' b'' held' held'' piped' piped'' → count ≡ length from
    → OnWrite (FeedsBuffered before held b) (FeedsBuffered after held'' b'') (Writes count from piped piped'')
ends_whole before middle after b b' b'' held held' held'' from count piped piped' piped'' law h all = λ old is un.
    let one = law old is un in
    let un' : one.0.feed.finished ≡ false = ap (λ (f : Feed). f.finished) one.2.feed ∙ un in
    let two = hands_on middle after b' b'' held' held'' piped' piped'' h one.0 one.1 un' in (
      two.0,
      two.1,
      writes_end from count b'' piped piped' piped'' old one.0 two.0 one.2 two.2 (grows_of before held b old is) un
          (omega (arith, all)) (λ less. absurd (omega (arith, less, all))),
    )
