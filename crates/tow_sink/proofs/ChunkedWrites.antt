-- A write to a sink of chunks: to the end of the block under way, and then of a further block.
use Rattle.std.proofs.Common.{◌≡◌, ℕ, zero, suc, ◌+◌, ◌-◌, ◌<◌, ◌≤◌, Bool, true, false, nat_le, List, [], ◌∷◌, ◌++◌, length, take, drop, min, refl, sym, ap, ap₂, ◌∙◌, subst, arith, append_assoc, append-nil, length-append, length-take, length-drop, take_all, ◌⊎◌, inl, inr}
use Rattle.std.specs.Prelude.{sum}
use Rattle.std.proofs.lemmas.List.{drop_all, take-take}
use Rattle.std.proofs.lemmas.Bool.Decides.{leb_tells}
use Rattle.httparse.specs.Ascii.{crlf_bytes}
use Rattle.circular_buffer.specs.Buffer.{Buffer}
use Rattle.tow_sink.specs.Feeds.{Feed, Feeding, one_block, beyond, handed_in, fed, all_fed}
use Rattle.tow_sink.specs.Calls.{Writes, OnWrite}
use Rattle.tow_sink.specs.ChunkedFeeding.{size_line, chunks, chunked_text, UnderWay, FeedsChunked}
use Rattle.tow_sink.proofs.Fronts.{feed_with, sum_append, sum_one_block, beyond_none, beyond_over, reach_stays, clash}
use Rattle.tow_sink.specs.Steps.{Goes}
use Rattle.tow_sink.proofs.Goings.{goes_then_writes, writes_short}
use Rattle.tow_sink.proofs.ChunkedForm.{chunks_append, one_open}
use Rattle.tow_sink.proofs.ChunkedCalls.{grows_of, open_text}

abbrev empty : List ℕ
empty = []

-- the rest of a line end is told by its length
pub tail_is : (x : List ℕ) (n : ℕ) → x ≡ drop n crlf_bytes → drop (2 - length x) crlf_bytes ≡ x
tail_is x zero is = ap (λ (l : List ℕ). drop (2 - length l) crlf_bytes) is ∙ sym is
tail_is x (suc zero) is = ap (λ (l : List ℕ). drop (2 - length l) crlf_bytes) is ∙ sym is
tail_is x (suc (suc n)) is =
    let none : x ≡ empty = is ∙ drop_all n empty (omega arith) in
    ap (λ (l : List ℕ). drop (2 - length l) crlf_bytes) none ∙ sym none

some_block : (n : ℕ) → 0 < n → one_block n ≡ n ∷ []
some_block zero some = absurd (omega (arith, some))
some_block (suc n) some = refl

-- a further block begins
begins : (feeds : Feeding → Type 0) (owed owed' from : List ℕ) (left left' : ℕ) (over : Bool) (f : Feeding) → FeedsChunked feeds owed left over f
    → f.feed.finished ≡ false → left ≡ 0 → left' ≡ length from → 0 < length from → owed' ≡ drop (2 - length owed) crlf_bytes ++ size_line (length from)
    → FeedsChunked feeds owed' left' over record { form = f.form; feed = fed f.feed from 0; put = f.put }
begins feeds owed owed' from left left' over f is un whole size some text =
    let n = length from in
    let b = length f.feed.bytes in
    let s = f.feed.sizes in
    let fits : sum s ≡ b = omega (arith, is.left, whole) in
    let further : beyond (sum s) (b + 0) (b + n) ≡ n = beyond_over (sum s) (b + 0) (b + n) (omega (arith, fits)) ∙ omega (arith, fits) in
    let sizes : handed_in s (b + 0) (b + n) ≡ s ++ (n ∷ []) =
    ap (λ (k : ℕ). s ++ one_block k) further ∙ ap (λ (l : List ℕ). s ++ l) (some_block n some) in
    let bytes : f.feed.bytes ++ [] ≡ f.feed.bytes = append-nil f.feed.bytes in
    let t = is.rest whole (sym is.ended ∙ un) in
    let line : owed' ≡ owed ++ size_line n = text ∙ ap (λ (l : List ℕ). l ++ size_line n) (tail_is owed t.0 t.1) in
    let here : is.inner.feed.bytes ++ owed' ≡ chunks s f.feed.bytes ++ size_line n =
    ap (λ (l : List ℕ). is.inner.feed.bytes ++ l) line ∙ sym (append_assoc is.inner.feed.bytes owed (size_line n))
    ∙ ap (λ (l : List ℕ). l ++ size_line n) (is.text ∙ open_text f.feed un) in
    let there : chunked_text (fed f.feed from 0) ≡ chunks s f.feed.bytes ++ size_line n =
    open_text (fed f.feed from 0) un ∙ ap (λ (l : List ℕ). chunks l (f.feed.bytes ++ [])) sizes
    ∙ chunks_append s (n ∷ []) f.feed.bytes [] (sym fits)
    ∙ ap (λ (l : List ℕ). chunks s f.feed.bytes ++ l) (one_open n [] some ∙ append-nil (size_line n)) in
    let total : sum (s ++ (n ∷ [])) ≡ sum s + n =
    omega (arith, sum_append s (n ∷ []), ap sum (some_block n some), sum_one_block n) in
    let len : length (f.feed.bytes ++ []) ≡ b = ap (λ (l : List ℕ). length l) bytes in
    record {
      inner = is.inner;
      after = is.after;
      grows = is.grows;
      of_bytes = is.of_bytes;
      form = is.form;
      put = is.put;
      text = here ∙ sym there;
      left = let m : length (f.feed.bytes ++ []) + left' ≡ sum (s ++ (n ∷ [])) = omega (arith, len, size, total, fits) in
          m ∙ sym (ap sum sizes);
      under = λ _. subst (λ (z : List ℕ). UnderWay z (f.feed.bytes ++ []) left') (sym sizes)
          record { before = s; size = n; blocks = refl; all = omega (arith, len, size, fits); within = omega (arith, size) };
      rest = λ z _. absurd (omega (arith, z, size, some));
      ended = is.ended;
      unfinished = λ fin. absurd (clash (sym un ∙ is.ended ∙ (is.unfinished fin).0));
    }

-- the feed where it has begun
fed_begin : (f : Feed) (from : List ℕ) (n : ℕ) → n ≤ length from → length f.bytes + n ≡ sum f.sizes → fed (fed f (take n from) n) (drop n from) 0 ≡ fed f from n
fed_begin f from n le is =
    let b = length f.bytes in
    let s = sum f.sizes in
    let len : length (take n from) ≡ n = omega (arith, length-take n from, le) in
    let none : beyond s (b + n) (b + length (take n from)) ≡ 0 = beyond_none s (b + n) (b + length (take n from)) (omega (arith, len, is)) in
    let sizes : handed_in f.sizes (b + n) (b + length (take n from)) ≡ f.sizes = ap (λ (k : ℕ). f.sizes ++ one_block k) none ∙ append-nil f.sizes in
    let bytes : f.bytes ++ take n (take n from) ≡ f.bytes ++ take n from = ap (λ (l : List ℕ). f.bytes ++ l) (take-take n n from (omega arith)) in
    let first : fed f (take n from) n ≡ feed_with f.sizes (f.bytes ++ take n from) f.finished =
    ap₂ (λ (x y : List ℕ). feed_with x y f.finished) sizes bytes in
    let reached : length (f.bytes ++ take n from) + 0 ≡ b + n = omega (arith, length-append f.bytes (take n from), len) in
    let total : length (f.bytes ++ take n from) + length (drop n from) ≡ b + length from =
    omega (arith, length-append f.bytes (take n from), len, length-drop n from, le) in
    ap (λ (g : Feed). fed g (drop n from) 0) first
    ∙ ap₂ (λ (r t : ℕ). feed_with (f.sizes ++ one_block (beyond s r t)) ((f.bytes ++ take n from) ++ []) f.finished) reached total
    ∙ ap (λ (l : List ℕ). feed_with (handed_in f.sizes (b + n) (b + length from)) l f.finished) (append-nil (f.bytes ++ take n from))

-- a write that stays in the block under way
pub write_stays : (before after : Feeding → Type 0) (owed owed' from : List ℕ) (left left' first count : ℕ) (over over' : Bool) (piped piped' : Buffer ℕ)
    → OnWrite (FeedsChunked before owed left over) (FeedsChunked after owed' left' over') (Writes count (take first from) piped piped')
    → first ≡ min left (length from) → count ≤ first → left' + count ≡ left → (0 < left') ⊎ (count ≡ length from)
    → OnWrite (FeedsChunked before owed left over) (FeedsChunked after owed' left' over') (Writes count from piped piped')
write_stays before after owed owed' from left left' first count over over' piped piped' law is_first le less stays = λ old is un.
    let call = law old is un in (call.0, call.1, by (leb_tells (length from) left) old call.0 is un call.2)
  where
    fewer : left < length from → (0 < left') ⊎ (count ≡ length from) → count < left
    fewer long (inl some) = omega (arith, some, less)
    fewer long (inr all) = absurd (omega (arith, long, all, le, is_first))

    by : ((nat_le (length from) left ≡ true) × (length from ≤ left)) ⊎ ((nat_le (length from) left ≡ false) × (left < length from))
        → (old new : Feeding) → FeedsChunked before owed left over old → old.feed.finished ≡ false → Writes count (take first from) piped piped' old new
        → Writes count from piped piped' old new
    by (inl (_, fits)) old new is un w =
        subst (λ (l : List ℕ). Writes count l piped piped' old new) (take_all first from (omega (arith, is_first, fits))) w
    by (inr (_, long)) old new is un w =
        let m : first ≡ left = omega (arith, is_first, long) in
        writes_short from first count piped piped' old new (grows_of old.form is.inner.form is.form is.grows) un
        (let c = fewer long stays in omega (arith, c, m)) (omega (arith, m, long)) (omega (arith, m, is.left)) w

-- a write of the rest of the block under way, and of a further block
pub write_further : (before middle after : Feeding → Type 0) (owed owed' owed'' owed₃ from : List ℕ) (left left' left'' left₃ first count count' : ℕ)
    (over over' over'' : Bool) (piped piped' piped'' : Buffer ℕ)
    → OnWrite (FeedsChunked before owed left over) (FeedsChunked middle owed' left' over') (Writes count (take first from) piped piped')
    → first ≡ min left (length from) → count ≤ first → left' + count ≡ left → left' ≡ 0 → (count ≡ length from → ⊥)
    → owed'' ≡ drop (2 - length owed') crlf_bytes ++ size_line (length (drop first from)) → left'' ≡ length (drop first from)
    → OnWrite (FeedsChunked middle owed'' left'' over') (FeedsChunked after owed₃ left₃ over'') (Writes count' (drop first from) piped' piped'')
    → OnWrite (FeedsChunked before owed left over) (FeedsChunked after owed₃ left₃ over'') (Writes (count + count') from piped piped'')
write_further before middle after owed owed' owed'' owed₃ from left left' left'' left₃ first count count' over over' over'' piped piped' piped'' law is_first le less none more text size law' = λ old is un.
    let one = law old is un in
    let mid = one.0 in
    let w = one.2 in
    let is_count : count ≡ first = omega (arith, less, none, le, is_first) in
    let is_left : first ≡ left = omega (arith, is_count, less, none) in
    let within : first ≤ length from = omega (arith, is_first) in
    let some : 0 < length (drop first from) = by (length (drop first from)) refl within is_count in
    let un' : mid.feed.finished ≡ false = ap (λ (f : Feed). f.finished) w.feed ∙ un in
    let begun : Feeding = record { form = mid.form; feed = fed mid.feed (drop first from) 0; put = mid.put } in
    let going : FeedsChunked middle owed'' left'' over' begun =
    begins middle owed' owed'' (drop first from) left' left'' over' mid one.1 un' none size some text in
    let two = law' begun going un' in
    let feed : fed mid.feed (drop first from) 0 ≡ fed old.feed from first =
    ap (λ (f : Feed). fed f (drop first from) 0) (w.feed ∙ ap (λ (k : ℕ). fed old.feed (take first from) k) is_count)
    ∙ fed_begin old.feed from first within (omega (arith, is.left, is_left)) in
    let step : Goes from first piped piped' old begun =
    record {
      gained = w.puts.gained;
      into = w.puts.into;
      room = w.puts.room;
      put = w.puts.put;
      form = w.puts.form;
      feed = feed;
      reached = reach_stays old mid piped piped' (old.form.frames (all_fed old.feed (take first from))) w.puts w.most;
    } in (
      two.0,
      two.1,
      subst (λ (k : ℕ). Writes (k + count') from piped piped'' old two.0) (sym is_count)
          (goes_then_writes from first count' piped piped' piped'' old begun two.0 within step two.2),
    )
  where
    by : (k : ℕ) → length (drop first from) ≡ k → first ≤ length from → count ≡ first → 0 < length (drop first from)
    by zero e within is_count = absurd (more (omega (arith, length-drop first from, e, within, is_count)))
    by (suc k) e within is_count = omega (arith, e)
