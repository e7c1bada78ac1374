-- Texts that are handed on to a sink whose framing depends on the bytes alone.
use Rattle.std.proofs.Common.{◌≡◌, ℕ, ◌+◌, ◌-◌, ◌<◌, ◌≤◌, Bool, false, List, [], ◌++◌, length, take, refl, sym, ap, ap₂, ◌∙◌, subst, arith, append_assoc, append-nil, length-append, length-take, take_all, ◌⊎◌, inl, inr}
use Rattle.std.proofs.lemmas.List.{take-append-le}
use Rattle.circular_buffer.specs.Buffer.{Buffer}
use Rattle.tow_model.specs.Lists.{IsPrefix}
use Rattle.tow_sink.specs.Feeds.{Feed, Form, Feeding, IsLonger, IsGrowing, IsOfBytes, all_fed}
use Rattle.tow_sink.specs.Calls.{Writes, Puts, PassesLength, reach}
use Rattle.tow_sink.proofs.Fronts.{feed_with, take_split, reach_stays}
use Rattle.tow_sink.proofs.Goings.{most_of_all, length_front, passes_longer}

-- these bytes, so far
abbrev pub so_far : List ℕ → Feed
so_far bytes = feed_with [] bytes false

-- all of the text is put that fits, and so many bytes of it are fed
pub record Hands (text : List ℕ) (count : ℕ) (piped piped' : Buffer ℕ) (old new : Feeding) : Type 0 where
  pub puts : Puts piped piped' old new
  pub bytes : new.feed.bytes ≡ old.feed.bytes ++ take count text
  pub unfinished : new.feed.finished ≡ false
  pub within : count ≤ length text
  pub most : new.put ≡ take (reach old piped) (old.form.frames (so_far (old.feed.bytes ++ text)))
  pub short : count < length text
      → (reach old piped < length (old.form.frames (so_far (old.feed.bytes ++ text)))) ⊎ PassesLength old.form (so_far (old.feed.bytes ++ text))

passes_so_far : (form : Form) (f : Feed) (b : List ℕ) → IsOfBytes form → f.finished ≡ false → f.bytes ≡ b → PassesLength form f → PassesLength form (so_far b)
passes_so_far form f b of un is p = record {
  same = λ h l open'.
      of.frames h ∙ sym (of.frames (with_sizes h)) ∙ p.same (with_sizes h) (longer h l) open' ∙ of.frames f
      ∙ ap₂ (λ (x : List ℕ) (t : Bool). form.frames (feed_with [] x t)) is un;
  no_end = λ h l. of.may_end h ∙ sym (of.may_end (with_sizes h)) ∙ p.no_end (with_sizes h) (longer h l);
}
  where
    with_sizes : Feed → Feed
    with_sizes h = feed_with f.sizes h.bytes h.finished

    longer : (h : Feed) → IsLonger (so_far b) h → IsLonger f (feed_with f.sizes h.bytes h.finished)
    longer h l = record {
      unfinished = un;
      sizes = ([], sym (append-nil f.sizes));
      bytes = (l.bytes.0, l.bytes.1 ∙ ap (λ (x : List ℕ). x ++ l.bytes.0) (sym is));
    }

pub hands_of : (text : List ℕ) (count : ℕ) (piped piped' : Buffer ℕ) (old new : Feeding) → IsOfBytes old.form → old.feed.finished ≡ false
    → count ≤ length text → Writes count text piped piped' old new → Hands text count piped piped' old new
hands_of text count piped piped' old new of un le w =
    let all : old.feed.bytes ++ take (length text) text ≡ old.feed.bytes ++ text =
    ap (λ (l : List ℕ). old.feed.bytes ++ l) (take_all (length text) text (omega arith)) in
    let same : old.form.frames (all_fed old.feed text) ≡ old.form.frames (so_far (old.feed.bytes ++ text)) =
    of.frames (all_fed old.feed text) ∙ ap₂ (λ (x : List ℕ) (t : Bool). old.form.frames (feed_with [] x t)) all un in
    record {
      puts = w.puts;
      bytes = ap (λ (f : Feed). f.bytes) w.feed;
      unfinished = ap (λ (f : Feed). f.finished) w.feed ∙ un;
      within = le;
      most = w.most ∙ ap (take (reach old piped)) same;
      short = λ less. by same all (w.short less);
    }
  where
    by : old.form.frames (all_fed old.feed text) ≡ old.form.frames (so_far (old.feed.bytes ++ text))
        → old.feed.bytes ++ take (length text) text ≡ old.feed.bytes ++ text
        → (reach old piped < length (old.form.frames (all_fed old.feed text))) ⊎ PassesLength old.form (all_fed old.feed text)
        → (reach old piped < length (old.form.frames (so_far (old.feed.bytes ++ text)))) ⊎ PassesLength old.form (so_far (old.feed.bytes ++ text))
    by same all (inl r) = inl (let n = ap (λ (l : List ℕ). length l) same in omega (arith, r, n))
    by same all (inr p) = inr (passes_so_far old.form (all_fed old.feed text) (old.feed.bytes ++ text) of un all p)

-- one text after the other
pub hands_then : (a b : List ℕ) (n m : ℕ) (piped piped' piped'' : Buffer ℕ) (old mid new : Feeding)
    → Hands a n piped piped' old mid → Hands b m piped' piped'' mid new → Hands (take n a ++ b) (n + m) piped piped'' old new
hands_then a b n m piped piped' piped'' old mid new p q =
    let len : length (take n a) ≡ n = omega (arith, length-take n a, p.within) in
    let less : n - length (take n a) ≡ 0 = omega (arith, len) in
    let front : take (n + m) (take n a ++ b) ≡ take n a ++ take m b =
    take_split (n + m) (take n a) b
    ∙ ap₂ (λ (x : List ℕ) (k : ℕ). x ++ take k b) (take_all (n + m) (take n a) (omega (arith, len))) (omega (arith, len)) in
    let all : mid.feed.bytes ++ b ≡ old.feed.bytes ++ (take n a ++ b) =
    ap (λ (l : List ℕ). l ++ b) p.bytes ∙ append_assoc old.feed.bytes (take n a) b in
    let framed : mid.form.frames (so_far (mid.feed.bytes ++ b)) ≡ old.form.frames (so_far (old.feed.bytes ++ (take n a ++ b))) =
    ap₂ (λ (f : Form) (l : List ℕ). f.frames (so_far l)) p.puts.form all in
    let reached : reach mid piped' ≡ reach old piped = reach_stays old mid piped piped' (old.form.frames (so_far (old.feed.bytes ++ a))) p.puts p.most in
    record {
      puts = record {
        gained = p.puts.gained ++ q.puts.gained;
        into = q.puts.into ∙ ap (λ (l : List ℕ). l ++ q.puts.gained) p.puts.into ∙ append_assoc piped.items p.puts.gained q.puts.gained;
        room = q.puts.room ∙ p.puts.room;
        put = q.puts.put ∙ ap (λ (l : List ℕ). l ++ q.puts.gained) p.puts.put ∙ append_assoc old.put p.puts.gained q.puts.gained;
        form = q.puts.form ∙ p.puts.form;
        front = q.puts.front;
      };
      bytes = q.bytes ∙ ap (λ (l : List ℕ). l ++ take m b) p.bytes ∙ append_assoc old.feed.bytes (take n a) (take m b)
          ∙ ap (λ (l : List ℕ). old.feed.bytes ++ l) (sym front);
      unfinished = q.unfinished;
      within = omega (arith, length-append (take n a) b, len, q.within);
      most = q.most ∙ ap₂ (λ (k : ℕ) (l : List ℕ). take k l) reached framed;
      short = λ short. by all framed reached (q.short (omega (arith, length-append (take n a) b, len, short)));
    }
  where
    by : mid.feed.bytes ++ b ≡ old.feed.bytes ++ (take n a ++ b)
        → mid.form.frames (so_far (mid.feed.bytes ++ b)) ≡ old.form.frames (so_far (old.feed.bytes ++ (take n a ++ b)))
        → reach mid piped' ≡ reach old piped
        → (reach mid piped' < length (mid.form.frames (so_far (mid.feed.bytes ++ b)))) ⊎ PassesLength mid.form (so_far (mid.feed.bytes ++ b))
        → (reach old piped < length (old.form.frames (so_far (old.feed.bytes ++ (take n a ++ b))))) ⊎ PassesLength old.form (so_far (old.feed.bytes ++ (take n a ++ b)))
    by all framed reached (inl r) = inl (let n = ap (λ (l : List ℕ). length l) framed in omega (arith, r, n, reached))
    by all framed reached (inr w) =
        inr (subst (λ (f : Form). PassesLength f (so_far (old.feed.bytes ++ (take n a ++ b)))) p.puts.form
        (subst (λ (l : List ℕ). PassesLength mid.form (so_far l)) all w))

-- a text of which not all was fed is a front of a longer one of which no more was
pub hands_short : (a b : List ℕ) (n : ℕ) (piped piped' : Buffer ℕ) (old new : Feeding)
    → Hands a n piped piped' old new → n < length a → IsGrowing old.form → Hands (a ++ b) n piped piped' old new
hands_short a b n piped piped' old new p less grows =
    let longer : IsLonger (so_far (old.feed.bytes ++ a)) (so_far (old.feed.bytes ++ (a ++ b))) =
    record { unfinished = refl; sizes = ([], refl); bytes = (b, sym (append_assoc old.feed.bytes a b)) } in
    let front = grows (so_far (old.feed.bytes ++ a)) (so_far (old.feed.bytes ++ (a ++ b))) longer in
    record {
      puts = p.puts;
      bytes = p.bytes ∙ ap (λ (l : List ℕ). old.feed.bytes ++ l) (sym (take-append-le n a b p.within));
      unfinished = p.unfinished;
      within = omega (arith, length-append a b, less);
      most = p.most ∙ most front longer (p.short less);
      short = λ _. short front longer (p.short less);
    }
  where
    most : IsPrefix (old.form.frames (so_far (old.feed.bytes ++ a))) (old.form.frames (so_far (old.feed.bytes ++ (a ++ b))))
        → IsLonger (so_far (old.feed.bytes ++ a)) (so_far (old.feed.bytes ++ (a ++ b)))
        → (reach old piped < length (old.form.frames (so_far (old.feed.bytes ++ a)))) ⊎ PassesLength old.form (so_far (old.feed.bytes ++ a))
        → take (reach old piped) (old.form.frames (so_far (old.feed.bytes ++ a))) ≡ take (reach old piped) (old.form.frames (so_far (old.feed.bytes ++ (a ++ b))))
    most front longer (inl r) = most_of_all (reach old piped) _ _ front r
    most front longer (inr q) = ap (take (reach old piped)) (sym (q.same (so_far (old.feed.bytes ++ (a ++ b))) longer refl))

    short : IsPrefix (old.form.frames (so_far (old.feed.bytes ++ a))) (old.form.frames (so_far (old.feed.bytes ++ (a ++ b))))
        → IsLonger (so_far (old.feed.bytes ++ a)) (so_far (old.feed.bytes ++ (a ++ b)))
        → (reach old piped < length (old.form.frames (so_far (old.feed.bytes ++ a)))) ⊎ PassesLength old.form (so_far (old.feed.bytes ++ a))
        → (reach old piped < length (old.form.frames (so_far (old.feed.bytes ++ (a ++ b))))) ⊎ PassesLength old.form (so_far (old.feed.bytes ++ (a ++ b)))
    short front longer (inl r) = inl (let m = length_front _ _ front in omega (arith, r, m))
    short front longer (inr q) = inr (passes_longer old.form (so_far (old.feed.bytes ++ a)) (so_far (old.feed.bytes ++ (a ++ b))) longer refl q)
