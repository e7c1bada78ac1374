-- The calls of a sink of chunks.
use Rattle.std.proofs.Common.{◌≡◌, ℕ, ◌+◌, ◌-◌, ◌<◌, ◌≤◌, Bool, true, false, ◌&&◌, if◌then◌else◌, List, [], ◌++◌, length, take, drop, refl, sym, ap, ap₂, ◌∙◌, subst, arith, append_assoc, append-nil, length-append, length-take, take_all, ◌⊎◌, inl, inr}
use Rattle.std.specs.Prelude.{sum}
use Rattle.httparse.specs.Ascii.{crlf_bytes}
use Rattle.circular_buffer.specs.Buffer.{Buffer}
use Rattle.tow_model.specs.Lists.{IsPrefix}
use Rattle.tow_wire.specs.Answers.{last_chunk}
use Rattle.tow_sink.specs.Feeds.{Feed, Form, Feeding, IsLonger, IsGrowing, IsOfBytes, one_block, handed_in, fed, all_fed}
use Rattle.tow_sink.specs.Calls.{Writes, PassesLength, reach}
use Rattle.tow_sink.specs.ChunkedFeeding.{chunks, chunked_text, text_feed, is_whole, chunked, UnderWay, FeedsChunked}
use Rattle.tow_sink.proofs.Fronts.{feed_with, front_same, front_then, beyond_none, clash}
use Rattle.tow_sink.proofs.Hands.{so_far, Hands}
use Rattle.tow_sink.proofs.ChunkedForm.{chunks_more, text_longer, closing}

pub frames_of : (f g : Form) (feed : Feed) → f ≡ chunked g → f.frames feed ≡ g.frames (text_feed feed)
frames_of f g feed is = ap (λ (h : Form). h.frames feed) is

pub ends_of : (f g : Form) (feed : Feed) → f ≡ chunked g → f.may_end feed ≡ (is_whole feed && g.may_end (text_feed feed))
ends_of f g feed is = ap (λ (h : Form). h.may_end feed) is

pub grows_of : (f g : Form) → f ≡ chunked g → IsGrowing g → IsGrowing f
grows_of f g is grows = λ a b l.
    subst (λ (h : Form). IsPrefix (h.frames a) (h.frames b)) (sym is) (grows (text_feed a) (text_feed b) (text_longer a b l))

and_false : (t : Bool) → (t && false) ≡ false
and_false true = refl
and_false false = refl

passes_outer : (f g : Form) (w : Feed) (text : List ℕ) → f ≡ chunked g → w.finished ≡ false → text ≡ chunked_text w
    → PassesLength g (so_far text) → PassesLength f w
passes_outer f g w text form un is p = record {
  same = λ h l open'.
      frames_of f g h form ∙ p.same (text_feed h) (longer h l) open'
      ∙ ap₂ (λ (l : List ℕ) (t : Bool). g.frames (feed_with [] l t)) is (sym un) ∙ sym (frames_of f g w form);
  no_end = λ h l. ends_of f g h form ∙ ap (λ (t : Bool). is_whole h && t) (p.no_end (text_feed h) (longer h l)) ∙ and_false (is_whole h);
}
  where
    longer : (h : Feed) → IsLonger w h → IsLonger (so_far text) (text_feed h)
    longer h l = record {
      unfinished = refl;
      sizes = ([], refl);
      bytes = let m = text_longer w h l in (m.bytes.0, m.bytes.1 ∙ ap (λ (x : List ℕ). x ++ m.bytes.0) (sym is));
    }

pub same_sizes : (f : Feed) (x : List ℕ) (n : ℕ) → length f.bytes + length x ≤ sum f.sizes
    → handed_in f.sizes (length f.bytes + n) (length f.bytes + length x) ≡ f.sizes
same_sizes f x n le =
    ap (λ (k : ℕ). f.sizes ++ one_block k) (beyond_none (sum f.sizes) (length f.bytes + n) (length f.bytes + length x) le) ∙ append-nil f.sizes

pub open_text : (f : Feed) → f.finished ≡ false → chunked_text f ≡ chunks f.sizes f.bytes
open_text f un = ap (λ (t : Bool). chunks f.sizes f.bytes ++ (if t then last_chunk else [])) un ∙ append-nil (chunks f.sizes f.bytes)

-- the text of some bytes more of the block under way
chunks_fed : (f : Feed) (from : List ℕ) (n left : ℕ) → f.finished ≡ false → length f.bytes + left ≡ sum f.sizes
    → (0 < left → UnderWay f.sizes f.bytes left) → length from ≤ left → n ≤ length from
    → chunked_text (fed f from n) ≡ chunked_text f ++ (take n from ++ closing left (take n from))
chunks_fed f from n left un is under fits le =
    let sizes = same_sizes f from n (omega (arith, is, fits)) in
    let short : length (take n from) ≤ left = omega (arith, length-take n from, fits) in
    open_text (fed f from n) un
    ∙ ap (λ (s : List ℕ). chunks s (f.bytes ++ take n from)) sizes
    ∙ chunks_more f.sizes f.bytes (take n from) left under short
    ∙ ap (λ (l : List ℕ). l ++ (take n from ++ closing left (take n from))) (sym (open_text f un))

-- bytes of the block under way are handed on after what is owed, and the line end after the last of them
pub record GoesOn (owed from : List ℕ) (left count : ℕ) (owed' : List ℕ) (piped piped' : Buffer ℕ) (old new : Feeding) : Type 0 where
  pub handed : ℕ
  pub hands : Hands (owed ++ (from ++ closing left from)) handed piped piped' old new
  pub rest : take handed (owed ++ (from ++ closing left from)) ++ owed' ≡ owed ++ (take count from ++ closing left (take count from))
  pub short : count < length from → handed < length (owed ++ (from ++ closing left from))

pub gone_on : (before after : Feeding → Type 0) (owed owed' from : List ℕ) (left left' count : ℕ) (over over' : Bool) (piped piped' : Buffer ℕ)
    → length from ≤ left → count ≤ length from → left' + count ≡ left → over' ≡ over
    → (old : Feeding) (is : FeedsChunked before owed left over old) → old.feed.finished ≡ false
    → (new : Feeding) → after new → GoesOn owed from left count owed' piped piped' is.inner new
    → (left' ≡ 0 → (n : ℕ) × (owed' ≡ drop n crlf_bytes))
    → (f : Feeding) × FeedsChunked after owed' left' over' f × Writes count from piped piped' old f
gone_on before after owed owed' from left left' count over over' piped piped' fits le less keeps old is un new there s tail =
    let g = is.inner in
    let whole = owed ++ (from ++ closing left from) in
    let part = take count from ++ closing left (take count from) in
    let fed_text : chunked_text (fed old.feed from count) ≡ chunked_text old.feed ++ part =
    chunks_fed old.feed from count left un is.left is.under fits le in
    let all_text : chunked_text (all_fed old.feed from) ≡ chunked_text old.feed ++ (from ++ closing left from) =
    chunks_fed old.feed from (length from) left un is.left is.under fits (omega arith)
    ∙ ap (λ (l : List ℕ). chunked_text old.feed ++ (l ++ closing left l)) (take_all (length from) from (omega arith)) in
    let all : g.feed.bytes ++ whole ≡ chunked_text (all_fed old.feed from) =
    sym (append_assoc g.feed.bytes owed (from ++ closing left from)) ∙ ap (λ (l : List ℕ). l ++ (from ++ closing left from)) is.text ∙ sym all_text in
    let text : new.feed.bytes ++ owed' ≡ chunked_text (fed old.feed from count) =
    ap (λ (l : List ℕ). l ++ owed') s.hands.bytes ∙ append_assoc g.feed.bytes (take s.handed whole) owed'
    ∙ ap (λ (l : List ℕ). g.feed.bytes ++ l) s.rest
    ∙ sym (append_assoc g.feed.bytes owed part) ∙ ap (λ (l : List ℕ). l ++ part) is.text ∙ sym fed_text in
    let framed : old.form.frames (all_fed old.feed from) ≡ g.form.frames (so_far (g.feed.bytes ++ whole)) =
    frames_of old.form g.form (all_fed old.feed from) is.form ∙ ap₂ (λ (l : List ℕ) (t : Bool). g.form.frames (feed_with [] l t)) (sym all) un in
    let reached : reach g piped ≡ reach old piped = ap (λ (l : List ℕ). length l + (piped.capacity - length piped.items)) (sym is.put) in
    let longer : IsLonger (so_far new.feed.bytes) (so_far (new.feed.bytes ++ owed')) =
    record { unfinished = refl; sizes = ([], refl); bytes = (owed', refl) } in
    let here : new.form.frames new.feed ≡ g.form.frames (so_far new.feed.bytes) =
    ap (λ (f : Form). f.frames new.feed) s.hands.puts.form ∙ is.of_bytes.frames new.feed
    ∙ ap (λ (t : Bool). g.form.frames (feed_with [] new.feed.bytes t)) s.hands.unfinished in
    let there' : g.form.frames (so_far (new.feed.bytes ++ owed')) ≡ old.form.frames (fed old.feed from count) =
    ap₂ (λ (l : List ℕ) (t : Bool). g.form.frames (feed_with [] l t)) text (sym un) ∙ sym (frames_of old.form g.form (fed old.feed from count) is.form) in
    let front : IsPrefix new.put (old.form.frames (fed old.feed from count)) =
    front_same new.put (g.form.frames (so_far (new.feed.bytes ++ owed'))) (old.form.frames (fed old.feed from count))
    (front_then new.put (g.form.frames (so_far new.feed.bytes)) (g.form.frames (so_far (new.feed.bytes ++ owed')))
    (front_same new.put (new.form.frames new.feed) (g.form.frames (so_far new.feed.bytes)) s.hands.puts.front here)
    (is.grows (so_far new.feed.bytes) (so_far (new.feed.bytes ++ owed')) longer))
    there' in
    let sizes = same_sizes old.feed from count (omega (arith, is.left, fits)) in
    let len : length (old.feed.bytes ++ take count from) ≡ length old.feed.bytes + count =
    omega (arith, length-append old.feed.bytes (take count from), length-take count from, le) in (
      record { form = old.form; feed = fed old.feed from count; put = new.put },
      record {
        inner = new;
        after = there;
        grows = subst IsGrowing (sym s.hands.puts.form) is.grows;
        of_bytes = subst IsOfBytes (sym s.hands.puts.form) is.of_bytes;
        form = is.form ∙ ap chunked (sym s.hands.puts.form);
        put = refl;
        text = text;
        left = let n : length (old.feed.bytes ++ take count from) + left' ≡ sum old.feed.sizes = omega (arith, len, is.left, less) in
            n ∙ sym (ap sum sizes);
        under = λ some.
            let u = is.under (omega (arith, some, less)) in
            subst (λ (z : List ℕ). UnderWay z (old.feed.bytes ++ take count from) left') (sym sizes)
            record { before = u.before; size = u.size; blocks = u.blocks; all = omega (arith, u.all, len, less); within = omega (arith, u.within, less) };
        rest = λ z _. tail z;
        ended = is.ended ∙ sym keeps;
        unfinished = λ fin. absurd (clash (sym s.hands.unfinished ∙ fin));
      },
      record {
        puts = record {
          gained = s.hands.puts.gained;
          into = s.hands.puts.into;
          room = s.hands.puts.room;
          put = s.hands.puts.put ∙ ap (λ (l : List ℕ). l ++ s.hands.puts.gained) (sym is.put);
          form = refl;
          front = front;
        };
        feed = refl;
        most = s.hands.most ∙ ap₂ (λ (k : ℕ) (l : List ℕ). take k l) reached (sym framed);
        short = λ fewer. short is framed all reached (s.hands.short (s.short fewer));
      },
    )
  where
    short : (is : FeedsChunked before owed left over old)
        → old.form.frames (all_fed old.feed from) ≡ is.inner.form.frames (so_far (is.inner.feed.bytes ++ (owed ++ (from ++ closing left from))))
        → is.inner.feed.bytes ++ (owed ++ (from ++ closing left from)) ≡ chunked_text (all_fed old.feed from)
        → reach is.inner piped ≡ reach old piped
        → (reach is.inner piped < length (is.inner.form.frames (so_far (is.inner.feed.bytes ++ (owed ++ (from ++ closing left from))))))
        ⊎ PassesLength is.inner.form (so_far (is.inner.feed.bytes ++ (owed ++ (from ++ closing left from))))
        → (reach old piped < length (old.form.frames (all_fed old.feed from))) ⊎ PassesLength old.form (all_fed old.feed from)
    short is framed all reached (inl r) = inl (let n = ap (λ (l : List ℕ). length l) framed in omega (arith, r, n, reached))
    short is framed all reached (inr p) =
        inr (passes_outer old.form is.inner.form (all_fed old.feed from) (is.inner.feed.bytes ++ (owed ++ (from ++ closing left from))) is.form un all p)
