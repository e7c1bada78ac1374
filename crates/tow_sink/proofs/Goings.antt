-- A write in several steps.
use Rattle.std.proofs.Common.{◌≡◌, ℕ, ◌+◌, ◌-◌, ◌<◌, ◌≤◌, Bool, true, false, nat_le, if◌then◌else◌, List, [], ◌++◌, length, take, drop, refl, sym, ap, ap₂, ◌∙◌, subst, arith, append_assoc, append-nil, length-append, length-take, length-drop, take-append-drop, ◌⊎◌, inl, inr}
use Rattle.std.specs.Prelude.{sum}
use Rattle.std.proofs.lemmas.List.{take_all, take-take}
use Rattle.std.proofs.lemmas.Bool.Decides.{leb_tells}
use Rattle.circular_buffer.specs.Buffer.{Buffer}
use Rattle.tow_model.specs.Lists.{IsPrefix}
use Rattle.tow_sink.specs.declared.finish.Finish.{Finish}
use Rattle.tow_sink.specs.declared.finish.Finish.TheVariants.{Full}
use Rattle.tow_sink.specs.Feeds.{Feed, Form, IsLonger, IsGrowing, Feeding, one_block, beyond, fed, all_fed, ended}
use Rattle.tow_sink.specs.Calls.{Writes, Finishes, Puts, PassesLength, Tells, reach}
use Rattle.tow_sink.specs.Steps.{Pokes, Goes}
use Rattle.tow_sink.proofs.Fronts.{feed_with, take_split, longer_then, beyond_all, beyond_none, beyond_under, fed_rest, fed_fed}

pub fed_longer : (f : Feed) (from : List ℕ) (count : ℕ) → f.finished ≡ false → count ≤ length from → IsLonger (fed f from count) (all_fed f from)
fed_longer f from count un le = record {
  unfinished = un;
  sizes = by (leb_tells s (b + count));
  bytes = (
    drop count from,
    ap (λ (l : List ℕ). f.bytes ++ l) (take_all (length from) from (omega arith) ∙ sym (take-append-drop count from))
        ∙ sym (append_assoc f.bytes (take count from) (drop count from)),
  );
}
  where
    s : ℕ
    s = sum f.sizes

    b : ℕ
    b = length f.bytes

    by : ((nat_le s (b + count) ≡ true) × (s ≤ b + count)) ⊎ ((nat_le s (b + count) ≡ false) × (b + count < s))
        → IsPrefix (f.sizes ++ one_block (beyond s (b + count) (b + length from))) (f.sizes ++ one_block (beyond s (b + length from) (b + length from)))
    by (inl (is, _)) =
        let k : beyond s (b + length from) (b + length from) ≡ beyond s (b + count) (b + length from) =
        beyond_all s (b + length from) ∙ sym (ap (λ (t : Bool). if t then b + length from - s else 0) is) in
        ([], ap (λ (n : ℕ). f.sizes ++ one_block n) k ∙ sym (append-nil (f.sizes ++ one_block (beyond s (b + count) (b + length from)))))
    by (inr (is, _)) =
        let k : beyond s (b + count) (b + length from) ≡ 0 = ap (λ (t : Bool). if t then b + length from - s else 0) is in (
          one_block (beyond s (b + length from) (b + length from)),
          ap (λ (l : List ℕ). l ++ one_block (beyond s (b + length from) (b + length from)))
              (sym (append-nil f.sizes) ∙ ap (λ (n : ℕ). f.sizes ++ one_block n) (sym k)),
        )

pub passes_longer : (form : Form) (f h : Feed) → IsLonger f h → h.finished ≡ false → PassesLength form f → PassesLength form h
passes_longer form f h l un p = record {
  same = λ m k open'. p.same m (longer_then f h m l k) open' ∙ sym (p.same h l un);
  no_end = λ m k. p.no_end m (longer_then f h m l k);
}

-- what fits of the framing of the bytes fed fits of that of all bytes handed in, since no more fit
pub most_of_all : (n : ℕ) (a w : List ℕ) → IsPrefix a w → n < length a → take n a ≡ take n w
most_of_all n a w p less =
    let z : n - length a ≡ 0 = omega (arith, less) in
    sym (ap (take n) p.1 ∙ take_split n a p.0 ∙ ap (λ (k : ℕ). take n a ++ take k p.0) z ∙ append-nil (take n a))

pub length_front : (a w : List ℕ) → IsPrefix a w → length a ≤ length w
length_front a w p = let n = ap (λ (l : List ℕ). length l) p.1 ∙ length-append a p.0 in omega (arith, n)

-- the end of such a write: what fits is put, and it is a short one or all was fed
pub writes_end : (from : List ℕ) (count : ℕ) (going : Bool) (piped piped' piped'' : Buffer ℕ) (old mid new : Feeding)
    → Goes from count piped piped' old mid → Pokes going piped' piped'' mid new → IsGrowing old.form → old.feed.finished ≡ false
    → count ≤ length from → (count < length from → going ≡ true) → Writes count from piped piped'' old new
writes_end from count going piped piped' piped'' old mid new goes pokes grows un le ends =
    let framed : mid.form.frames mid.feed ≡ old.form.frames (fed old.feed from count) = ap₂ (λ (f : Form) (x : Feed). f.frames x) goes.form goes.feed in
    let most : new.put ≡ take (reach old piped) (old.form.frames (fed old.feed from count)) =
    pokes.most ∙ ap₂ (λ (k : ℕ) (l : List ℕ). take k l) goes.reached framed in
    record {
      puts = record {
        gained = goes.gained ++ pokes.puts.gained;
        into = pokes.puts.into ∙ ap (λ (l : List ℕ). l ++ pokes.puts.gained) goes.into ∙ append_assoc piped.items goes.gained pokes.puts.gained;
        room = pokes.puts.room ∙ goes.room;
        put = pokes.puts.put ∙ ap (λ (l : List ℕ). l ++ pokes.puts.gained) goes.put ∙ append_assoc old.put goes.gained pokes.puts.gained;
        form = pokes.puts.form ∙ goes.form;
        front = pokes.puts.front;
      };
      feed = pokes.feed ∙ goes.feed;
      most = most ∙ by (leb_tells (length from) count) framed;
      short = λ less. shorter framed less (pokes.short (ends less));
    }
  where
    longer : IsLonger (fed old.feed from count) (all_fed old.feed from)
    longer = fed_longer old.feed from count un le

    on : (mid.form.frames mid.feed ≡ old.form.frames (fed old.feed from count))
        → (reach mid piped' < length (mid.form.frames mid.feed)) ⊎ PassesLength mid.form mid.feed
        → take (reach old piped) (old.form.frames (fed old.feed from count)) ≡ take (reach old piped) (old.form.frames (all_fed old.feed from))
    on framed (inl r) =
        let n = ap (λ (l : List ℕ). length l) framed in
        most_of_all (reach old piped) _ _ (grows _ _ longer) (omega (arith, r, n, goes.reached))
    on framed (inr p) =
        let q : PassesLength old.form (fed old.feed from count) = subst (λ (f : Form). PassesLength f (fed old.feed from count)) goes.form (subst (λ (x : Feed). PassesLength mid.form x) goes.feed p) in
        ap (take (reach old piped)) (sym (q.same (all_fed old.feed from) longer un))

    by : ((nat_le (length from) count ≡ true) × (length from ≤ count)) ⊎ ((nat_le (length from) count ≡ false) × (count < length from))
        → (mid.form.frames mid.feed ≡ old.form.frames (fed old.feed from count))
        → take (reach old piped) (old.form.frames (fed old.feed from count)) ≡ take (reach old piped) (old.form.frames (all_fed old.feed from))
    by (inl (_, all)) framed = let n : count ≡ length from = omega (arith, all, le) in ap (λ (k : ℕ). take (reach old piped) (old.form.frames (fed old.feed from k))) n
    by (inr (_, less)) framed = on framed (pokes.short (ends less))

    shorter : (mid.form.frames mid.feed ≡ old.form.frames (fed old.feed from count)) → count < length from
        → (reach mid piped' < length (mid.form.frames mid.feed)) ⊎ PassesLength mid.form mid.feed
        → (reach old piped < length (old.form.frames (all_fed old.feed from))) ⊎ PassesLength old.form (all_fed old.feed from)
    shorter framed less (inl r) =
        let n = ap (λ (l : List ℕ). length l) framed in
        let m = length_front _ _ (grows _ _ longer) in
        inl (omega (arith, r, n, m, goes.reached))
    shorter framed less (inr p) =
        inr (passes_longer old.form (fed old.feed from count) (all_fed old.feed from) longer un
        (subst (λ (f : Form). PassesLength f (fed old.feed from count)) goes.form (subst (λ (x : Feed). PassesLength mid.form x) goes.feed p)))

-- a write goes on with what is left of it
pub goes_then : (from : List ℕ) (n m : ℕ) (piped piped' piped'' : Buffer ℕ) (old mid new : Feeding) → n ≤ length from
    → Goes from n piped piped' old mid → Goes (drop n from) m piped' piped'' mid new → Goes from (n + m) piped piped'' old new
goes_then from n m piped piped' piped'' old mid new le a b = record {
  gained = a.gained ++ b.gained;
  into = b.into ∙ ap (λ (l : List ℕ). l ++ b.gained) a.into ∙ append_assoc piped.items a.gained b.gained;
  room = b.room ∙ a.room;
  put = b.put ∙ ap (λ (l : List ℕ). l ++ b.gained) a.put ∙ append_assoc old.put a.gained b.gained;
  form = b.form ∙ a.form;
  feed = b.feed ∙ ap (λ (f : Feed). fed f (drop n from) m) a.feed ∙ fed_fed old.feed from n m le;
  reached = b.reached ∙ a.reached;
}

pub goes_then_writes : (from : List ℕ) (n m : ℕ) (piped piped' piped'' : Buffer ℕ) (old mid new : Feeding) → n ≤ length from
    → Goes from n piped piped' old mid → Writes m (drop n from) piped' piped'' mid new → Writes (n + m) from piped piped'' old new
goes_then_writes from n m piped piped' piped'' old mid new le a w =
    let all : all_fed mid.feed (drop n from) ≡ all_fed old.feed from =
    ap (λ (f : Feed). all_fed f (drop n from)) a.feed ∙ fed_rest old.feed from n le in
    let framed : mid.form.frames (all_fed mid.feed (drop n from)) ≡ old.form.frames (all_fed old.feed from) =
    ap₂ (λ (f : Form) (x : Feed). f.frames x) a.form all in
    record {
      puts = record {
        gained = a.gained ++ w.puts.gained;
        into = w.puts.into ∙ ap (λ (l : List ℕ). l ++ w.puts.gained) a.into ∙ append_assoc piped.items a.gained w.puts.gained;
        room = w.puts.room ∙ a.room;
        put = w.puts.put ∙ ap (λ (l : List ℕ). l ++ w.puts.gained) a.put ∙ append_assoc old.put a.gained w.puts.gained;
        form = w.puts.form ∙ a.form;
        front = w.puts.front;
      };
      feed = w.feed ∙ ap (λ (f : Feed). fed f (drop n from) m) a.feed ∙ fed_fed old.feed from n m le;
      most = w.most ∙ ap₂ (λ (k : ℕ) (l : List ℕ). take k l) a.reached framed;
      short = λ less. by all framed (w.short (omega (arith, length-drop n from, less)));
    }
  where
    by : all_fed mid.feed (drop n from) ≡ all_fed old.feed from
        → mid.form.frames (all_fed mid.feed (drop n from)) ≡ old.form.frames (all_fed old.feed from)
        → (reach mid piped' < length (mid.form.frames (all_fed mid.feed (drop n from)))) ⊎ PassesLength mid.form (all_fed mid.feed (drop n from))
        → (reach old piped < length (old.form.frames (all_fed old.feed from))) ⊎ PassesLength old.form (all_fed old.feed from)
    by all framed (inl r) = inl (let k = ap (λ (l : List ℕ). length l) framed in omega (arith, r, k, a.reached))
    by all framed (inr p) =
        inr (subst (λ (f : Form). PassesLength f (all_fed old.feed from)) a.form (subst (λ (x : Feed). PassesLength mid.form x) all p))

-- a write of the first bytes, of which not all were fed, is one of all the bytes
pub writes_short : (from : List ℕ) (m count : ℕ) (piped piped' : Buffer ℕ) (old new : Feeding) → IsGrowing old.form → old.feed.finished ≡ false
    → count < m → m ≤ length from → length old.feed.bytes + m ≤ sum old.feed.sizes
    → Writes count (take m from) piped piped' old new → Writes count from piped piped' old new
writes_short from m count piped piped' old new grows un less fits under w =
    let b = length old.feed.bytes in
    let s = sum old.feed.sizes in
    let len : length (take m from) ≡ m = omega (arith, length-take m from, fits) in
    let first : beyond s (b + count) (b + length (take m from)) ≡ 0 = beyond_none s (b + count) (b + length (take m from)) (omega (arith, len, under)) in
    let second : beyond s (b + count) (b + length from) ≡ 0 = beyond_under s (b + count) (b + length from) (omega (arith, less, under)) in
    let whole : beyond s (b + length (take m from)) (b + length (take m from)) ≡ 0 =
    beyond_none s (b + length (take m from)) (b + length (take m from)) (omega (arith, len, under)) in
    let fed_same : fed old.feed (take m from) count ≡ fed old.feed from count =
    ap₂ (λ (k : ℕ) (l : List ℕ). feed_with (old.feed.sizes ++ one_block k) (old.feed.bytes ++ l) old.feed.finished) (first ∙ sym second)
    (take-take count m from (omega (arith, less))) in
    let longer : IsLonger (all_fed old.feed (take m from)) (all_fed old.feed from) =
    record {
      unfinished = un;
      sizes = (
        one_block (beyond s (b + length from) (b + length from)),
        ap (λ (l : List ℕ). l ++ one_block (beyond s (b + length from) (b + length from)))
            (sym (append-nil old.feed.sizes) ∙ ap (λ (n : ℕ). old.feed.sizes ++ one_block n) (sym whole)),
      );
      bytes = (
        drop m from,
        ap (λ (l : List ℕ). old.feed.bytes ++ l)
            (take_all (length from) from (omega arith) ∙ sym (take-append-drop m from)
            ∙ ap (λ (l : List ℕ). l ++ drop m from) (sym (take_all (length (take m from)) (take m from) (omega arith))))
            ∙ sym (append_assoc old.feed.bytes (take (length (take m from)) (take m from)) (drop m from)),
      );
    } in
    record {
      puts = w.puts;
      feed = w.feed ∙ fed_same;
      most = w.most ∙ most longer (w.short (omega (arith, less, len)));
      short = λ _. short longer (w.short (omega (arith, less, len)));
    }
  where
    most : IsLonger (all_fed old.feed (take m from)) (all_fed old.feed from)
        → (reach old piped < length (old.form.frames (all_fed old.feed (take m from)))) ⊎ PassesLength old.form (all_fed old.feed (take m from))
        → take (reach old piped) (old.form.frames (all_fed old.feed (take m from))) ≡ take (reach old piped) (old.form.frames (all_fed old.feed from))
    most longer (inl r) = most_of_all (reach old piped) _ _ (grows _ _ longer) r
    most longer (inr p) = ap (take (reach old piped)) (sym (p.same (all_fed old.feed from) longer un))

    short : IsLonger (all_fed old.feed (take m from)) (all_fed old.feed from)
        → (reach old piped < length (old.form.frames (all_fed old.feed (take m from)))) ⊎ PassesLength old.form (all_fed old.feed (take m from))
        → (reach old piped < length (old.form.frames (all_fed old.feed from))) ⊎ PassesLength old.form (all_fed old.feed from)
    short longer (inl r) = inl (let n = length_front _ _ (grows _ _ longer) in omega (arith, r, n))
    short longer (inr p) = inr (passes_longer old.form (all_fed old.feed (take m from)) (all_fed old.feed from) longer un p)

-- ---- the end of a feed

-- the inner sink may be finished now, and what it then frames is what is due
pub record IsReady (piped piped' : Buffer ℕ) (old mid : Feeding) : Type 0 where
  pub gained : List ℕ
  pub into : piped'.items ≡ piped.items ++ gained
  pub room : piped'.capacity ≡ piped.capacity
  pub put : mid.put ≡ old.put ++ gained
  pub reached : reach mid piped' ≡ reach old piped
  pub framed : mid.form.frames (ended mid.feed) ≡ old.form.frames (ended old.feed)

pub front_of_most : (put : List ℕ) (n : ℕ) (w : List ℕ) → put ≡ take n w → IsPrefix put w
front_of_most put n w most = (drop n w, sym (take-append-drop n w) ∙ ap (λ (l : List ℕ). l ++ drop n w) (sym most))

pub finishes_ready : (answer : Finish) (piped piped' piped'' : Buffer ℕ) (old mid new : Feeding) → IsReady piped piped' old mid
    → Finishes answer piped' piped'' mid new → Finishes answer piped piped'' old record { form = old.form; feed = ended old.feed; put = new.put }
finishes_ready answer piped piped' piped'' old mid new a f =
    let most : new.put ≡ take (reach old piped) (old.form.frames (ended old.feed)) =
    f.most ∙ ap₂ (λ (k : ℕ) (l : List ℕ). take k l) a.reached a.framed in
    record {
      puts = record {
        gained = a.gained ++ f.puts.gained;
        into = f.puts.into ∙ ap (λ (l : List ℕ). l ++ f.puts.gained) a.into ∙ append_assoc piped.items a.gained f.puts.gained;
        room = f.puts.room ∙ a.room;
        put = f.puts.put ∙ ap (λ (l : List ℕ). l ++ f.puts.gained) a.put ∙ append_assoc old.put a.gained f.puts.gained;
        form = refl;
        front = front_of_most new.put (reach old piped) (old.form.frames (ended old.feed)) most;
      };
      feed = refl;
      most = most;
      tells = subst (λ (k : ℕ). Tells answer k (old.form.frames (ended old.feed))) a.reached
          (subst (λ (l : List ℕ). Tells answer (reach mid piped') l) a.framed f.tells);
    }

-- not all that is due fits
pub finishes_full : (piped piped' : Buffer ℕ) (old g g' : Feeding) → old.put ≡ g.put → Puts piped piped' g g'
    → g'.put ≡ take (reach old piped) (old.form.frames (ended old.feed)) → reach old piped < length (old.form.frames (ended old.feed))
    → Finishes Full piped piped' old record { form = old.form; feed = ended old.feed; put = g'.put }
finishes_full piped piped' old g g' put p most less = record {
  puts = record {
    gained = p.gained;
    into = p.into;
    room = p.room;
    put = p.put ∙ ap (λ (l : List ℕ). l ++ p.gained) (sym put);
    form = refl;
    front = front_of_most g'.put (reach old piped) (old.form.frames (ended old.feed)) most;
  };
  feed = refl;
  most = most;
  tells = less;
}
