-- What a sink of blocks hands on.
use Rattle.std.proofs.Common.{◌≡◌, ℕ, ◌+◌, ◌-◌, ◌<◌, Bool, true, false, nat_lt, if◌then◌else◌, List, [], ◌++◌, length, take, drop, refl, sym, ap, ap₂, ◌∙◌, subst, arith, append_assoc, length-drop, take-append-drop, ◌⊎◌, inl, inr}
use Rattle.std.specs.Prelude.{not}
use Rattle.std.proofs.lemmas.Bool.Decides.{nat_tests}
use Rattle.circular_buffer.specs.Buffer.{Buffer, buffer}
use Rattle.tow_model.specs.declared.limits.TheConstants.{BLOCK_LEN}
use Rattle.tow_model.specs.Lists.{IsPrefix}
use Rattle.tow_sink.specs.Feeds.{Feed, Form, IsLonger, IsGrowing, Feeding, fed, all_fed}
use Rattle.tow_sink.specs.Calls.{Writes, Puts, PassesLength, OnWrite, reach}
use Rattle.tow_sink.specs.BufferedFeeding.{whole_part, in_blocks, handed_on, buffered, FeedsBuffered, HandsOn}
use Rattle.tow_sink.proofs.Fronts.{front_same, clash, fed_rest}
use Rattle.tow_sink.proofs.BlockFeeds.{nothing_fed, handed_longer}
use Rattle.tow_sink.specs.Steps.{Pokes}

pub frames_of : (f g : Form) (feed : Feed) → f ≡ buffered g → f.frames feed ≡ g.frames (handed_on feed)
frames_of f g feed is = ap (λ (h : Form). h.frames feed) is

pub ends_of : (f g : Form) (feed : Feed) → f ≡ buffered g → f.may_end feed ≡ g.may_end (handed_on feed)
ends_of f g feed is = ap (λ (h : Form). h.may_end feed) is

handed_open : (feed : Feed) → feed.finished ≡ false → handed_on feed ≡ in_blocks false (whole_part feed.bytes)
handed_open feed un = ap (λ (t : Bool). in_blocks t (if t then feed.bytes else whole_part feed.bytes)) un

-- what the inner sink put is put
pub puts_same : (f g g' : Feeding) (piped piped' : Buffer ℕ) (feed : Feed) → f.form ≡ buffered g.form → f.put ≡ g.put
    → IsPrefix g'.put (g.form.frames (handed_on feed)) → Puts piped piped' g g' → Puts piped piped' f record { form = f.form; feed = feed; put = g'.put }
puts_same f g g' piped piped' feed form put front p = record {
  gained = p.gained;
  into = p.into;
  room = p.room;
  put = p.put ∙ ap (λ (l : List ℕ). l ++ p.gained) (sym put);
  form = refl;
  front = front_same g'.put (g.form.frames (handed_on feed)) (f.form.frames feed) front (sym (frames_of f.form g.form feed form));
}

pub passes_inner : (f g : Form) (w v : Feed) → f ≡ buffered g → handed_on w ≡ v → PassesLength g v → PassesLength f w
passes_inner f g w v form is p = record {
  same = λ h l un. frames_of f g h form ∙ p.same (handed_on h) (longer h l) un ∙ sym (frames_of f g w form ∙ ap (λ (x : Feed). g.frames x) is);
  no_end = λ h l. ends_of f g h form ∙ p.no_end (handed_on h) (longer h l);
}
  where
    longer : (h : Feed) → IsLonger w h → IsLonger v (handed_on h)
    longer h l = subst (λ (x : Feed). IsLonger x (handed_on h)) is (handed_longer w h l)

-- One handing on of x, with which the inner sink was fed all that is handed on.
one : (before after : Feeding → Type 0) (b b' : Bool) (held held' : Buffer ℕ) (count : ℕ) (x : List ℕ) (piped piped' : Buffer ℕ)
    → OnWrite before after (Writes count x piped piped') → held' ≡ buffer (drop count held.items) held.capacity
    → (old : Feeding) (is : FeedsBuffered before held b old) → old.feed.finished ≡ false
    → is.inner.feed.finished ≡ false
    → all_fed is.inner.feed x ≡ in_blocks false (whole_part old.feed.bytes)
    → ((g' : Feeding) → g'.feed ≡ fed is.inner.feed x count → g'.feed.bytes ++ held'.items ≡ old.feed.bytes)
    → ((g' : Feeding) → g'.feed ≡ fed is.inner.feed x count → b' ≡ true
    → (all_fed g'.feed held'.items ≡ in_blocks false old.feed.bytes) × (old.feed.finished ≡ false → whole_part old.feed.bytes ≡ old.feed.bytes))
    → ((g' : Feeding) → g'.feed ≡ fed is.inner.feed x count → b' ≡ false
    → (g'.feed ≡ in_blocks false (whole_part old.feed.bytes)) × (length held'.items < BLOCK_LEN))
    → (b' ≡ true → count < length x) → (b' ≡ true → 0 < length held'.items)
    → (new : Feeding) × FeedsBuffered after held' b' new × Pokes b' piped piped' old new
one before after b b' held held' count x piped piped' law rest old is un un' whole bytes handing holding less some =
    let g = is.inner in
    let call = law g is.after un' in
    let g' = call.0 in
    let step = call.2 in
    let on : handed_on old.feed ≡ all_fed g.feed x = handed_open old.feed un ∙ sym whole in
    let framed : old.form.frames old.feed ≡ g.form.frames (all_fed g.feed x) =
    frames_of old.form g.form old.feed is.form ∙ ap (λ (f : Feed). g.form.frames f) on in
    let reached : reach g piped ≡ reach old piped = ap (λ (l : List ℕ). length l + (piped.capacity - length piped.items)) (sym is.put) in
    let most : g'.put ≡ take (reach old piped) (old.form.frames old.feed) =
    step.most ∙ ap₂ (λ (k : ℕ) (l : List ℕ). take k l) reached (sym framed) in
    let front : IsPrefix g'.put (g.form.frames (handed_on old.feed)) = (
      drop (reach old piped) (old.form.frames old.feed),
      sym (frames_of old.form g.form old.feed is.form) ∙ sym (take-append-drop (reach old piped) (old.form.frames old.feed))
          ∙ ap (λ (l : List ℕ). l ++ drop (reach old piped) (old.form.frames old.feed)) (sym most),
    ) in (
      record { form = old.form; feed = old.feed; put = g'.put },
      record {
        inner = g';
        after = call.1;
        grows = subst IsGrowing (sym step.puts.form) is.grows;
        form = is.form ∙ ap buffered (sym step.puts.form);
        put = refl;
        capacity = ap (λ (h : Buffer ℕ). h.capacity) rest ∙ is.capacity;
        bytes = bytes g' step.feed;
        some = λ yes. some yes;
        handing = λ yes. handing g' step.feed yes;
        holding = λ no a. holding g' step.feed no;
        ended = λ no over. absurd (clash (sym un ∙ over));
      },
      record {
        puts = puts_same old g g' piped piped' old.feed is.form is.put front step.puts;
        feed = refl;
        most = most;
        short = λ yes. onto old is framed reached on (step.short (less yes));
      },
    )
  where
    onto : (old : Feeding) (is : FeedsBuffered before held b old) → old.form.frames old.feed ≡ is.inner.form.frames (all_fed is.inner.feed x)
        → reach is.inner piped ≡ reach old piped → handed_on old.feed ≡ all_fed is.inner.feed x
        → (reach is.inner piped < length (is.inner.form.frames (all_fed is.inner.feed x))) ⊎ PassesLength is.inner.form (all_fed is.inner.feed x)
        → (reach old piped < length (old.form.frames old.feed)) ⊎ PassesLength old.form old.feed
    onto old is framed reached on (inl r) = inl (let n = ap (λ (l : List ℕ). length l) framed in omega (arith, r, n, reached))
    onto old is framed reached on (inr p) = inr (passes_inner old.form is.inner.form old.feed (all_fed is.inner.feed x) is.form on p)

pub lt_true : (n : ℕ) → nat_lt 0 n ≡ true → 0 < n
lt_true n e = grind (arith, nat_tests, e)

pub lt_false : (n : ℕ) → nat_lt 0 n ≡ false → n ≡ 0
lt_false n e = grind (arith, nat_tests, e)

-- one handing on, before `finish`
pub hands_on : (before after : Feeding → Type 0) (b b' : Bool) (held held' piped piped' : Buffer ℕ) → HandsOn before after b b' held held' piped piped'
    → OnWrite (FeedsBuffered before held b) (FeedsBuffered after held' b') (Pokes b' piped piped')
hands_on before after false b' held held' piped piped' h = λ old is un.
    let none : h.count ≡ 0 = omega (arith, h.within) in
    let holds = is.holding refl un in
    let same : held'.items ≡ held.items = ap (λ (k : Buffer ℕ). k.items) h.rest ∙ ap (λ (k : ℕ). drop k held.items) none in
    let all : all_fed is.inner.feed [] ≡ in_blocks false (whole_part old.feed.bytes) =
    ap (λ (f : Feed). all_fed f []) holds.0 ∙ nothing_fed (whole_part old.feed.bytes) in
    let feed : fed is.inner.feed [] h.count ≡ in_blocks false (whole_part old.feed.bytes) =
    ap (λ (k : ℕ). fed is.inner.feed [] k) none ∙ all in
    one before after false b' held held' h.count [] piped piped' h.law h.rest old is un (ap (λ (f : Feed). f.finished) holds.0) all
    (λ g' fd. ap (λ (f : Feed). f.bytes ++ held'.items) (fd ∙ feed ∙ sym holds.0) ∙ ap (λ (l : List ℕ). is.inner.feed.bytes ++ l) same ∙ is.bytes)
    (λ g' fd yes. absurd (clash (sym h.goes_on ∙ yes)))
    (λ g' fd no. (fd ∙ feed, subst (λ (l : List ℕ). length l < BLOCK_LEN) (sym same) holds.1))
    (λ yes. absurd (clash (sym h.goes_on ∙ yes)))
    (λ yes. absurd (clash (sym h.goes_on ∙ yes)))
hands_on before after true b' held held' piped piped' h = λ old is un.
    let x = held.items in
    let f = is.inner.feed in
    let hands = is.handing refl in
    let rest : held'.items ≡ drop h.count x = ap (λ (k : Buffer ℕ). k.items) h.rest in
    let whole : whole_part old.feed.bytes ≡ old.feed.bytes = hands.1 un in
    let all : all_fed f x ≡ in_blocks false (whole_part old.feed.bytes) = hands.0 ∙ ap (in_blocks false) (sym whole) in
    let left : length held'.items ≡ length x - h.count = ap (λ (l : List ℕ). length l) rest ∙ length-drop h.count x in
    one before after true b' held held' h.count x piped piped' h.law h.rest old is un (ap (λ (f : Feed). f.finished) hands.0) all
    (λ g' fd. ap (λ (f : Feed). f.bytes ++ held'.items) fd ∙ ap (λ (l : List ℕ). (f.bytes ++ take h.count x) ++ l) rest
    ∙ append_assoc f.bytes (take h.count x) (drop h.count x)
    ∙ ap (λ (l : List ℕ). f.bytes ++ l) (take-append-drop h.count x) ∙ is.bytes)
    (λ g' fd yes. (ap₂ (λ (f : Feed) (l : List ℕ). all_fed f l) fd rest ∙ fed_rest f x h.count h.within ∙ hands.0, λ a. whole))
    (λ g' fd no.
    let n : length held'.items ≡ 0 = lt_false (length held'.items) (sym h.goes_on ∙ no) in
    let c : h.count ≡ length x = omega (arith, n, left, h.within) in (
      fd ∙ ap (λ (k : ℕ). fed f x k) c ∙ all,
      omega (arith, n),
    ))
    (λ yes. let n : 0 < length held'.items = lt_true (length held'.items) (sym h.goes_on ∙ yes) in omega (arith, n, left))
    (λ yes. lt_true (length held'.items) (sym h.goes_on ∙ yes))

pub on_of : (t : Bool) → false ≡ not t → t ≡ true
on_of true e = refl
on_of false e = absurd (clash e)

pub off_of : (t : Bool) → true ≡ not t → t ≡ false
off_of true e = absurd (clash (sym e))
off_of false e = refl
