-- The end of a feed to a sink of chunks.
use Rattle.std.proofs.Common.{◌≡◌, ℕ, ◌+◌, ◌-◌, ◌<◌, ◌≤◌, Bool, true, false, nat_le, if◌then◌else◌, List, [], ◌++◌, length, take, drop, refl, sym, ap, ap₂, ◌∙◌, subst, arith, append_assoc, append-nil, length-drop, take-append-drop, take_all, ◌⊎◌, inl, inr}
use Rattle.std.specs.Prelude.{sum}
use Rattle.std.proofs.lemmas.Bool.Decides.{leb_tells}
use Rattle.httparse.specs.Ascii.{crlf_bytes}
use Rattle.circular_buffer.specs.Buffer.{Buffer}
use Rattle.tow_wire.specs.Answers.{last_chunk}
use Rattle.tow_sink.specs.declared.finish.Finish.{Finish}
use Rattle.tow_sink.specs.declared.finish.Finish.TheVariants.{Full}
use Rattle.tow_sink.specs.Feeds.{Feed, Form, Feeding, IsLonger, IsGrowing, IsOfBytes, ended}
use Rattle.tow_sink.specs.Calls.{Finishes, PassesLength, OnFinish, reach}
use Rattle.tow_sink.specs.ChunkedFeeding.{chunks, chunked_text, text_feed, chunked, FeedsChunked, HandsText}
use Rattle.tow_sink.proofs.Fronts.{feed_with, left_true, right_true, reach_stays, clash}
use Rattle.tow_sink.proofs.Hands.{so_far, hands_of}
use Rattle.tow_sink.proofs.Goings.{finishes_ready, finishes_full, most_of_all, length_front}
use Rattle.tow_sink.proofs.ChunkedCalls.{frames_of, ends_of, open_text}
use Rattle.tow_sink.proofs.ChunkedGoings.{drop_whole, none_left}
use Rattle.tow_sink.proofs.ChunkedWrites.{tail_is}

-- what is owed at the end
abbrev pub owed_last : Bool → List ℕ → List ℕ
owed_last over owed = if over then owed else drop (2 - length owed) crlf_bytes ++ last_chunk

le_of : (a b : ℕ) → nat_le a b ≡ true → a ≤ b
le_of a b is = by (leb_tells a b)
  where
    by : ((nat_le a b ≡ true) × (a ≤ b)) ⊎ ((nat_le a b ≡ false) × (b < a)) → a ≤ b
    by (inl (_, le)) = le
    by (inr (nay, _)) = absurd (clash (sym nay ∙ is))

-- the chunk under way was fed whole
whole_at_end : (feeds : Feeding → Type 0) (owed : List ℕ) (left : ℕ) (over : Bool) (f : Feeding) (is : FeedsChunked feeds owed left over f)
    → f.form.may_end (ended f.feed) ≡ true → left ≡ 0
whole_at_end feeds owed left over f is may =
    let both = sym (ends_of f.form is.inner.form (ended f.feed) is.form) ∙ may in
    let le : sum f.feed.sizes ≤ length f.feed.bytes = le_of (sum f.feed.sizes) (length f.feed.bytes) (left_true _ _ both) in
    omega (arith, le, is.left)

may_inner : (feeds : Feeding → Type 0) (owed : List ℕ) (left : ℕ) (over : Bool) (f : Feeding) (is : FeedsChunked feeds owed left over f)
    → f.form.may_end (ended f.feed) ≡ true → is.inner.form.may_end (text_feed (ended f.feed)) ≡ true
may_inner feeds owed left over f is may = right_true _ _ (sym (ends_of f.form is.inner.form (ended f.feed) is.form) ∙ may)

-- what was handed on, and what is owed, is all that is due
last_text : (feeds : Feeding → Type 0) (owed : List ℕ) (left : ℕ) (over : Bool) (f : Feeding) (is : FeedsChunked feeds owed left over f)
    → left ≡ 0 → is.inner.feed.bytes ++ owed_last over owed ≡ chunked_text (ended f.feed)
last_text feeds owed left over f is none = by over refl
  where
    by : (t : Bool) → over ≡ t → is.inner.feed.bytes ++ owed_last over owed ≡ chunked_text (ended f.feed)
    by true e =
        ap (λ (t : Bool). is.inner.feed.bytes ++ (if t then owed else drop (2 - length owed) crlf_bytes ++ last_chunk)) e
        ∙ is.text ∙ ap (λ (t : Bool). chunks f.feed.sizes f.feed.bytes ++ (if t then last_chunk else [])) (is.ended ∙ e)
    by false e =
        let t = is.rest none e in
        ap (λ (t : Bool). is.inner.feed.bytes ++ (if t then owed else drop (2 - length owed) crlf_bytes ++ last_chunk)) e
        ∙ ap (λ (l : List ℕ). is.inner.feed.bytes ++ (l ++ last_chunk)) (tail_is owed t.0 t.1)
        ∙ sym (append_assoc is.inner.feed.bytes owed last_chunk)
        ∙ ap (λ (l : List ℕ). l ++ last_chunk) (is.text ∙ open_text f.feed (is.ended ∙ e))

-- the inner sink is open while anything is owed
open_while : (feeds : Feeding → Type 0) (owed : List ℕ) (left : ℕ) (over : Bool) (f : Feeding) (is : FeedsChunked feeds owed left over f)
    → 0 < length (owed_last over owed) → is.inner.feed.finished ≡ false
open_while feeds owed left over f is some = by is.inner.feed.finished refl
  where
    by : (t : Bool) → is.inner.feed.finished ≡ t → is.inner.feed.finished ≡ false
    by false e = e
    by true e =
        let u = is.unfinished e in
        let none : owed_last over owed ≡ [] =
        ap (λ (t : Bool). if t then owed else drop (2 - length owed) crlf_bytes ++ last_chunk) u.0 ∙ u.1 in
        let zero' : length (owed_last over owed) ≡ 0 = ap (λ (l : List ℕ). length l) none in
        absurd (omega (arith, some, zero'))

-- the text that is due does not all fit
pub stays_full : (before after : Feeding → Type 0) (owed owed' owed'' : List ℕ) (left left' : ℕ) (over over' : Bool) (piped piped' : Buffer ℕ)
    → owed' ≡ owed_last over owed → HandsText before after owed' owed'' piped piped' → 0 < length owed'' → left' ≡ left → over' ≡ true
    → OnFinish (FeedsChunked before owed left over) (FeedsChunked after owed'' left' over') (Finishes Full piped piped')
stays_full before after owed owed' owed'' left left' over over' piped piped' last h some same over_is = λ old is may.
    let g = is.inner in
    let none : left ≡ 0 = whole_at_end before owed left over old is may in
    let due = chunked_text (ended old.feed) in
    let text : g.feed.bytes ++ owed' ≡ due = ap (λ (l : List ℕ). g.feed.bytes ++ l) last ∙ last_text before owed left over old is none in
    let less : h.count < length owed' = omega (arith, length-drop h.count owed', ap (λ (l : List ℕ). length l) h.rest, some) in
    let un : g.feed.finished ≡ false = open_while before owed left over old is (let n = ap (λ (l : List ℕ). length l) last in omega (arith, n, less)) in
    let call = h.law g is.after un in
    let p = hands_of owed' h.count piped piped' g call.0 is.of_bytes un h.within call.2 in
    let framed : old.form.frames (ended old.feed) ≡ g.form.frames (feed_with [] due true) = frames_of old.form g.form (ended old.feed) is.form in
    let reached : reach g piped ≡ reach old piped = ap (λ (l : List ℕ). length l + (piped.capacity - length piped.items)) (sym is.put) in
    let longer : IsLonger (so_far due) (feed_with [] due true) =
    record { unfinished = refl; sizes = ([], refl); bytes = ([], sym (append-nil due)) } in
    let short : reach g piped < length (g.form.frames (so_far due)) =
    by g due (may_inner before owed left over old is may) longer
    (subst (λ (l : List ℕ). (reach g piped < length (g.form.frames (so_far l))) ⊎ PassesLength g.form (so_far l)) text (p.short less)) in
    let front = is.grows (so_far due) (feed_with [] due true) longer in
    let most : call.0.put ≡ take (reach old piped) (old.form.frames (ended old.feed)) =
    p.most ∙ ap (λ (l : List ℕ). take (reach g piped) (g.form.frames (so_far l))) text
    ∙ most_of_all (reach g piped) _ _ front short
    ∙ ap₂ (λ (k : ℕ) (l : List ℕ). take k l) reached (sym framed) in
    let rest : call.0.feed.bytes ++ owed'' ≡ due =
    ap₂ (λ (a b : List ℕ). a ++ b) p.bytes h.rest ∙ append_assoc g.feed.bytes (take h.count owed') (drop h.count owed')
    ∙ ap (λ (l : List ℕ). g.feed.bytes ++ l) (take-append-drop h.count owed') ∙ text in (
      record { form = old.form; feed = ended old.feed; put = call.0.put },
      record {
        inner = call.0;
        after = call.1;
        grows = subst IsGrowing (sym p.puts.form) is.grows;
        of_bytes = subst IsOfBytes (sym p.puts.form) is.of_bytes;
        form = is.form ∙ ap chunked (sym p.puts.form);
        put = refl;
        text = rest;
        left = let n : length old.feed.bytes + left' ≡ sum old.feed.sizes = omega (arith, is.left, same) in n;
        under = λ begun. absurd (omega (arith, begun, same, none));
        rest = λ z no. absurd (clash (sym no ∙ over_is));
        ended = sym over_is;
        unfinished = λ fin. absurd (clash (sym p.unfinished ∙ fin));
      },
      finishes_full piped piped' old g call.0 is.put p.puts most
          (let n = ap (λ (l : List ℕ). length l) framed in let m = length_front _ _ front in omega (arith, n, m, short, reached)),
    )
  where
    by : (g : Feeding) (due : List ℕ) → g.form.may_end (feed_with [] due true) ≡ true → IsLonger (so_far due) (feed_with [] due true)
        → (reach g piped < length (g.form.frames (so_far due))) ⊎ PassesLength g.form (so_far due)
        → reach g piped < length (g.form.frames (so_far due))
    by g due may longer (inl r) = r
    by g due may longer (inr q) = absurd (clash (sym (q.no_end (feed_with [] due true) longer) ∙ may))

-- all the text is handed on, and the inner sink finishes
finish_inner : (middle after : Feeding → Type 0) (left' : ℕ) (over' : Bool) (owed'' : List ℕ) (answer : Finish) (piped piped' piped'' : Buffer ℕ) (old mid : Feeding)
    (inner : Form) → old.form ≡ chunked inner → mid.form ≡ inner → IsGrowing inner → IsOfBytes inner → middle mid
    → mid.feed.bytes ≡ chunked_text (ended old.feed) → inner.may_end (text_feed (ended old.feed)) ≡ true
    → (gained : List ℕ) → piped'.items ≡ piped.items ++ gained → piped'.capacity ≡ piped.capacity → mid.put ≡ old.put ++ gained → reach mid piped' ≡ reach old piped
    → OnFinish middle after (Finishes answer piped' piped'')
    → length old.feed.bytes + left' ≡ sum old.feed.sizes → left' ≡ 0 → over' ≡ true → owed'' ≡ []
    → (new : Feeding) × FeedsChunked after owed'' left' over' new × Finishes answer piped piped'' old new
finish_inner middle after left' over' owed'' answer piped piped' piped'' old mid inner form same grows of there text may gained into room put reached law left none over_is empty =
    let due = chunked_text (ended old.feed) in
    let of' = subst IsOfBytes (sym same) of in
    let may' : mid.form.may_end (ended mid.feed) ≡ true =
    of'.may_end (ended mid.feed) ∙ ap₂ (λ (f : Form) (l : List ℕ). f.may_end (feed_with [] l true)) same text ∙ may in
    let call = law mid there may' in
    let framed : mid.form.frames (ended mid.feed) ≡ old.form.frames (ended old.feed) =
    of'.frames (ended mid.feed) ∙ ap₂ (λ (f : Form) (l : List ℕ). f.frames (feed_with [] l true)) same text
    ∙ sym (frames_of old.form inner (ended old.feed) form) in
    let form' : call.0.form ≡ inner = call.2.puts.form ∙ same in (
      record { form = old.form; feed = ended old.feed; put = call.0.put },
      record {
        inner = call.0;
        after = call.1;
        grows = subst IsGrowing (sym form') grows;
        of_bytes = subst IsOfBytes (sym form') of;
        form = form ∙ ap chunked (sym form');
        put = refl;
        text = ap₂ (λ (f : Feed) (l : List ℕ). f.bytes ++ l) call.2.feed empty ∙ append-nil mid.feed.bytes ∙ text;
        left = left;
        under = λ begun. absurd (omega (arith, begun, none));
        rest = λ z no. absurd (clash (sym no ∙ over_is));
        ended = sym over_is;
        unfinished = λ _. (over_is, empty);
      },
      finishes_ready answer piped piped' piped'' old mid call.0
          record { gained = gained; into = into; room = room; put = put; reached = reached; framed = framed }
          call.2,
    )

-- nothing is owed any more
pub finishes_at_once : (before after : Feeding → Type 0) (owed owed' : List ℕ) (left left' : ℕ) (over over' : Bool) (answer : Finish) (piped piped' : Buffer ℕ)
    → owed' ≡ owed_last over owed → length owed' ≡ 0 → OnFinish before after (Finishes answer piped piped') → left' ≡ left → over' ≡ true
    → OnFinish (FeedsChunked before owed left over) (FeedsChunked after owed' left' over') (Finishes answer piped piped')
finishes_at_once before after owed owed' left left' over over' answer piped piped' last none law same over_is = λ old is may.
    let zero' : left ≡ 0 = whole_at_end before owed left over old is may in
    let empty : owed' ≡ [] = none_left owed' none in
    let text : is.inner.feed.bytes ≡ chunked_text (ended old.feed) =
    sym (append-nil is.inner.feed.bytes) ∙ ap (λ (l : List ℕ). is.inner.feed.bytes ++ l) (sym empty ∙ last) ∙ last_text before owed left over old is zero' in
    finish_inner before after left' over' owed' answer piped piped piped' old is.inner is.inner.form is.form refl is.grows is.of_bytes is.after text
    (may_inner before owed left over old is may)
    [] (sym (append-nil piped.items)) refl (sym is.put ∙ sym (append-nil old.put))
    (ap (λ (l : List ℕ). length l + (piped.capacity - length piped.items)) (sym is.put))
    law (omega (arith, is.left, same)) (omega (arith, same, zero')) over_is empty

-- what is owed is handed on, and the inner sink finishes
pub finishes_after : (before middle after : Feeding → Type 0) (owed owed' owed'' : List ℕ) (left left' : ℕ) (over over' : Bool) (answer : Finish) (piped piped' piped'' : Buffer ℕ)
    → owed' ≡ owed_last over owed → 0 < length owed' → HandsText before middle owed' owed'' piped piped' → length owed'' ≡ 0
    → OnFinish middle after (Finishes answer piped' piped'') → left' ≡ left → over' ≡ true
    → OnFinish (FeedsChunked before owed left over) (FeedsChunked after owed'' left' over') (Finishes answer piped piped'')
finishes_after before middle after owed owed' owed'' left left' over over' answer piped piped' piped'' last some h none law same over_is = λ old is may.
    let g = is.inner in
    let zero' : left ≡ 0 = whole_at_end before owed left over old is may in
    let un : g.feed.finished ≡ false = open_while before owed left over old is (let n = ap (λ (l : List ℕ). length l) last in omega (arith, n, some)) in
    let call = h.law g is.after un in
    let p = hands_of owed' h.count piped piped' g call.0 is.of_bytes un h.within call.2 in
    let all : h.count ≡ length owed' = drop_whole h.count owed' h.within (ap (λ (l : List ℕ). length l) (sym h.rest) ∙ none) in
    let text : call.0.feed.bytes ≡ chunked_text (ended old.feed) =
    p.bytes ∙ ap (λ (l : List ℕ). g.feed.bytes ++ l) (ap (λ (k : ℕ). take k owed') all ∙ take_all (length owed') owed' (omega arith) ∙ last)
    ∙ last_text before owed left over old is zero' in
    let reached : reach call.0 piped' ≡ reach g piped = reach_stays g call.0 piped piped' (g.form.frames (so_far (g.feed.bytes ++ owed'))) p.puts p.most in
    finish_inner middle after left' over' owed'' answer piped piped' piped'' old call.0 g.form is.form p.puts.form is.grows is.of_bytes call.1 text
    (may_inner before owed left over old is may)
    p.puts.gained p.puts.into p.puts.room (p.puts.put ∙ ap (λ (l : List ℕ). l ++ p.puts.gained) (sym is.put))
    (reached ∙ ap (λ (l : List ℕ). length l + (piped.capacity - length piped.items)) (sym is.put))
    law (omega (arith, is.left, same)) (omega (arith, same, zero')) over_is (none_left owed'' none)
