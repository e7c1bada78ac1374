-- The calls of a sink of a known length.
use Rattle.std.proofs.Common.{◌≡◌, ℕ, ◌+◌, ◌-◌, ◌<◌, ◌≤◌, true, false, ◌==◌, ◌&&◌, List, ◌++◌, length, take, min, nat_le, refl, sym, ap, ap₂, ◌∙◌, subst, arith, length-append, length-take, ◌⊎◌, inl, inr}
use Rattle.std.specs.Prelude.{sum}
use Rattle.std.proofs.lemmas.Bool.{and_left, and_right}
use Rattle.std.proofs.lemmas.Bool.Decides.{nat_tests, leb_tells}
use Rattle.circular_buffer.specs.Buffer.{Buffer}
use Rattle.tow_sink.specs.declared.finish.Finish.{Finish}
use Rattle.tow_sink.specs.Feeds.{Form, Feed, Feeding, IsLonger, IsGrowing, fed, all_fed, ended, beyond, one_block}
use Rattle.tow_sink.specs.Calls.{Writes, Finishes, Puts, PassesLength, OnWrite, OnFinish, Tells, reach}
use Rattle.tow_sink.specs.FixedFeeding.{cut_feed, fixed, FeedsFixed}
use Rattle.tow_sink.proofs.Fronts.{front_same, right_true, sum_append, sum_one_block, beyond_all}
use Rattle.tow_sink.proofs.FixedForm.{cut_longer, cut_same, fed_cut}

frames_of : (f g : Form) (len : ℕ) (feed : Feed) → f ≡ fixed len g → f.frames feed ≡ g.frames (cut_feed len feed)
frames_of f g len feed is = ap (λ (h : Form). h.frames feed) is

ends_of : (f g : Form) (len : ℕ) (feed : Feed) → f ≡ fixed len g → f.may_end feed ≡ (length feed.bytes == len && g.may_end (cut_feed len feed))
ends_of f g len feed is = ap (λ (h : Form). h.may_end feed) is

-- what the inner sink put is put
puts_same : (len : ℕ) (f g : Feeding) (piped piped' : Buffer ℕ) (g' : Feeding) (feed : Feed) → f.form ≡ fixed len g.form → f.put ≡ g.put
    → g'.feed ≡ cut_feed len feed → Puts piped piped' g g' → Puts piped piped' f record { form = f.form; feed = feed; put = g'.put }
puts_same len f g piped piped' g' feed form put is p = record {
  gained = p.gained;
  into = p.into;
  room = p.room;
  put = p.put ∙ ap (λ (l : List ℕ). l ++ p.gained) (sym put);
  form = refl;
  front = front_same g'.put (g'.form.frames g'.feed) (f.form.frames feed) p.front
      (ap₂ (λ (h : Form) (x : Feed). h.frames x) p.form is ∙ sym (frames_of f.form g.form len feed form));
}

-- the bytes go beyond the length
passes : (len left : ℕ) (f : Form) (g : Form) (feed : Feed) (from : List ℕ) → f ≡ fixed len g → feed.finished ≡ false
    → length feed.bytes + left ≡ len → left < length from → PassesLength f (all_fed feed from)
passes len left f g feed from form unfinished count less =
    let w = all_fed feed from in
    let bytes : length w.bytes ≡ length feed.bytes + length from =
    omega (arith, length-append feed.bytes (take (length from) from), length-take (length from) from) in
    let sizes : length feed.bytes + length from ≤ sum w.sizes =
    omega (
      arith,
      sum_append feed.sizes (one_block (beyond (sum feed.sizes) (length feed.bytes + length from) (length feed.bytes + length from))),
      sum_one_block (beyond (sum feed.sizes) (length feed.bytes + length from) (length feed.bytes + length from)),
      beyond_all (sum feed.sizes) (length feed.bytes + length from),
    ) in
    record {
      same = λ h l un.
          frames_of f g len h form
          ∙ ap (λ (x : Feed). g.frames x) (cut_same len w h l un (omega (arith, sizes, count, less)) (omega (arith, bytes, count, less)))
          ∙ sym (frames_of f g len w form);
      no_end = λ h l.
          let n : length h.bytes ≡ length w.bytes + length l.bytes.0 = ap (λ (x : List ℕ). length x) l.bytes.1 ∙ length-append w.bytes l.bytes.0 in
          let over : len < length h.bytes = omega (arith, n, bytes, count, less) in
          ends_of f g len h form ∙ and_left (length h.bytes == len) (g.may_end (cut_feed len h)) (not_same (length h.bytes) len over);
    }
  where
    not_same : (a b : ℕ) → b < a → (a == b) ≡ false
    not_same a b less = grind (arith, nat_tests)

-- the inner sink has its length
passes_inner : (len : ℕ) (f g : Form) (w v : Feed) → f ≡ fixed len g → cut_feed len w ≡ v → PassesLength g v → PassesLength f w
passes_inner len f g w v form is p = record {
  same = λ h l un.
      frames_of f g len h form ∙ p.same (cut_feed len h) (longer h l) un
      ∙ sym (frames_of f g len w form ∙ ap (λ (x : Feed). g.frames x) is);
  no_end = λ h l.
      ends_of f g len h form ∙ and_right (length h.bytes == len) (g.may_end (cut_feed len h)) (p.no_end (cut_feed len h) (longer h l));
}
  where
    longer : (h : Feed) → IsLonger w h → IsLonger v (cut_feed len h)
    longer h l = subst (λ (x : Feed). IsLonger x (cut_feed len h)) is (cut_longer len w h l)

pub writes : (inner inner' : Feeding → Type 0) (left left' count : ℕ) (from : List ℕ) (piped piped' : Buffer ℕ)
    → OnWrite inner inner' (Writes count (take (min left (length from)) from) piped piped')
    → count ≤ min left (length from) → left' ≡ left - count
    → OnWrite (FeedsFixed inner left) (FeedsFixed inner' left') (Writes count from piped piped')
writes inner inner' left left' count from piped piped' law fits less = λ old is unfinished.
    let most = min left (length from) in
    let g = is.inner in
    let call = law g is.after (ap (λ (f : Feed). f.finished) is.feed ∙ unfinished) in
    let g' = call.0 in
    let step = call.2 in
    let one : min left count ≡ count = omega (arith, fits) in
    let here : cut_feed is.len (fed old.feed from count) ≡ fed (cut_feed is.len old.feed) (take most from) count =
    fed_cut is.len left count old.feed from is.count (omega (arith, fits))
    ∙ ap (λ (k : ℕ). fed (cut_feed is.len old.feed) (take most from) k) one in
    let all : cut_feed is.len (all_fed old.feed from) ≡ all_fed g.feed (take most from) =
    let n : most ≡ length (take most from) = omega (arith, length-take most from) in
    fed_cut is.len left (length from) old.feed from is.count (omega arith)
    ∙ ap₂ (λ (x : Feed) (k : ℕ). fed x (take most from) k) (sym is.feed) n in
    let feed : g'.feed ≡ cut_feed is.len (fed old.feed from count) =
    step.feed ∙ ap (λ (x : Feed). fed x (take most from) count) is.feed ∙ sym here in
    let framed : old.form.frames (all_fed old.feed from) ≡ g.form.frames (all_fed g.feed (take most from)) =
    frames_of old.form g.form is.len (all_fed old.feed from) is.form ∙ ap (λ (x : Feed). g.form.frames x) all in
    let reached : reach g piped ≡ reach old piped = ap (λ (l : List ℕ). length l + (piped.capacity - length piped.items)) (sym is.put) in
    let short : count < length from
    → (reach old piped < length (old.form.frames (all_fed old.feed from))) ⊎ PassesLength old.form (all_fed old.feed from) =
    λ s. by old is.len g s is.form is.count unfinished framed reached all (leb_tells (length from) left) step.short in (
      record { form = old.form; feed = fed old.feed from count; put = g'.put },
      record {
        len = is.len;
        inner = g';
        after = call.1;
        grows = subst IsGrowing (sym step.puts.form) is.grows;
        form = is.form ∙ ap (fixed is.len) (sym step.puts.form);
        feed = feed;
        put = refl;
        count = let n : length (old.feed.bytes ++ take count from) ≡ length old.feed.bytes + count =
            omega (arith, length-append old.feed.bytes (take count from), length-take count from, fits) in omega (arith, n, is.count, less, fits);
      },
      record {
        puts = puts_same is.len old g piped piped' g' (fed old.feed from count) is.form is.put feed step.puts;
        feed = refl;
        most = step.most ∙ ap₂ (λ (k : ℕ) (l : List ℕ). take k l) reached (sym framed);
        short = short;
      },
    )
  where
    by : (old : Feeding) (len : ℕ) (g : Feeding) → count < length from → old.form ≡ fixed len g.form → length old.feed.bytes + left ≡ len → old.feed.finished ≡ false
        → old.form.frames (all_fed old.feed from) ≡ g.form.frames (all_fed g.feed (take (min left (length from)) from))
        → reach g piped ≡ reach old piped
        → cut_feed len (all_fed old.feed from) ≡ all_fed g.feed (take (min left (length from)) from)
        → ((nat_le (length from) left ≡ true) × (length from ≤ left)) ⊎ ((nat_le (length from) left ≡ false) × (left < length from))
        → (count < length (take (min left (length from)) from)
        → (reach g piped < length (g.form.frames (all_fed g.feed (take (min left (length from)) from)))) ⊎ PassesLength g.form (all_fed g.feed (take (min left (length from)) from)))
        → (reach old piped < length (old.form.frames (all_fed old.feed from))) ⊎ PassesLength old.form (all_fed old.feed from)
    by old len g s form is un framed reached all (inr (_, over)) inner = inr (passes len left old.form g.form old.feed from form un is over)
    by old len g s form is un framed reached all (inl (_, fit)) inner =
        onto (inner (omega (arith, s, fit, length-take (min left (length from)) from)))
      where
        onto : (reach g piped < length (g.form.frames (all_fed g.feed (take (min left (length from)) from)))) ⊎ PassesLength g.form (all_fed g.feed (take (min left (length from)) from))
            → (reach old piped < length (old.form.frames (all_fed old.feed from))) ⊎ PassesLength old.form (all_fed old.feed from)
        onto (inl r) = inl (let n = ap (λ (l : List ℕ). length l) framed in omega (arith, r, n, reached))
        onto (inr p) = inr (passes_inner len old.form g.form (all_fed old.feed from) (all_fed g.feed (take (min left (length from)) from)) form all p)

tells_same : (answer : Finish) (n m : ℕ) (a b : List ℕ) → n ≡ m → a ≡ b → Tells answer n a → Tells answer m b
tells_same answer n m a b e d is = subst (λ (k : ℕ). Tells answer k b) e (subst (λ (l : List ℕ). Tells answer n l) d is)

pub finishes : (inner inner' : Feeding → Type 0) (left : ℕ) (answer : Finish) (piped piped' : Buffer ℕ)
    → OnFinish inner inner' (Finishes answer piped piped')
    → OnFinish (FeedsFixed inner left) (FeedsFixed inner' left) (Finishes answer piped piped')
finishes inner inner' left answer piped piped' law = λ old is may.
    let g = is.inner in
    let same : cut_feed is.len (ended old.feed) ≡ ended g.feed = ap ended (sym is.feed) in
    let may_inner : g.form.may_end (ended g.feed) ≡ true =
    ap (λ (x : Feed). g.form.may_end x) (sym same)
    ∙ right_true (length old.feed.bytes == is.len) (g.form.may_end (cut_feed is.len (ended old.feed))) (sym (ends_of old.form g.form is.len (ended old.feed) is.form) ∙ may) in
    let call = law g is.after may_inner in
    let g' = call.0 in
    let step = call.2 in
    let feed : g'.feed ≡ cut_feed is.len (ended old.feed) = step.feed ∙ sym same in
    let framed : g.form.frames (ended g.feed) ≡ old.form.frames (ended old.feed) =
    ap (λ (x : Feed). g.form.frames x) (sym same) ∙ sym (frames_of old.form g.form is.len (ended old.feed) is.form) in
    let reached : reach g piped ≡ reach old piped = ap (λ (l : List ℕ). length l + (piped.capacity - length piped.items)) (sym is.put) in (
      record { form = old.form; feed = ended old.feed; put = g'.put },
      record {
        len = is.len;
        inner = g';
        after = call.1;
        grows = subst IsGrowing (sym step.puts.form) is.grows;
        form = is.form ∙ ap (fixed is.len) (sym step.puts.form);
        feed = feed;
        put = refl;
        count = is.count;
      },
      record {
        puts = puts_same is.len old g piped piped' g' (ended old.feed) is.form is.put feed step.puts;
        feed = refl;
        most = step.most ∙ ap₂ (λ (k : ℕ) (l : List ℕ). take k l) reached framed;
        tells = tells_same answer _ _ _ _ reached framed step.tells;
      },
    )
