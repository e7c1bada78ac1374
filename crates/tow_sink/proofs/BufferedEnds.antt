-- The end of a feed to a sink of blocks.
use Rattle.std.proofs.Common.{◌≡◌, ℕ, ◌+◌, ◌-◌, ◌/◌, ◌<◌, Bool, true, false, List, [], ◌∷◌, ◌++◌, length, take, drop, refl, sym, ap, ap₂, ◌∙◌, subst, arith, append_assoc, append-nil, length-drop, take-append-drop, ◌⊎◌, inl, inr}
use Rattle.circular_buffer.specs.Buffer.{Buffer}
use Rattle.tow_model.specs.declared.limits.TheConstants.{BLOCK_LEN}
use Rattle.tow_sink.specs.declared.finish.Finish.{Finish}
use Rattle.tow_sink.specs.declared.finish.Finish.TheVariants.{Full}
use Rattle.tow_sink.specs.Feeds.{Feed, Form, Feeding, IsLonger, IsGrowing, fed, all_fed, ended}
use Rattle.tow_sink.specs.Calls.{Finishes, PassesLength, OnFinish, reach}
use Rattle.tow_sink.specs.BufferedFeeding.{whole_part, in_blocks, buffered, FeedsBuffered, HandsOn}
use Rattle.tow_sink.proofs.Fronts.{fed_rest, reach_stays, clash}
use Rattle.tow_sink.proofs.Goings.{finishes_ready, finishes_full, most_of_all, length_front}
use Rattle.tow_sink.proofs.BlockFeeds.{block_more, whole_length}
use Rattle.tow_sink.proofs.BufferedCalls.{frames_of, ends_of, lt_true, lt_false}

none_left : (x : List ℕ) → length x ≡ 0 → x ≡ []
none_left [] is = refl
none_left (c ∷ x) is = absurd (omega (arith, is))

-- with what is held, all is handed on
last_block : (feeds : Feeding → Type 0) (held : Buffer ℕ) (b : Bool) (f : Feeding) (is : FeedsBuffered feeds held b f)
    → 0 < length held.items → all_fed is.inner.feed held.items ≡ in_blocks false f.feed.bytes
last_block feeds held b f is some = by b f.feed.finished refl refl
  where
    by : (t u : Bool) → b ≡ t → f.feed.finished ≡ u → all_fed is.inner.feed held.items ≡ in_blocks false f.feed.bytes
    by true u e un = (is.handing e).0
    by false false e un =
        let holds = is.holding e un in
        let k = length f.feed.bytes / BLOCK_LEN in
        ap (λ (g : Feed). all_fed g held.items) holds.0
        ∙ block_more k (whole_part f.feed.bytes) held.items (whole_length f.feed.bytes) some (omega (arith, holds.1))
        ∙ ap (in_blocks false) (ap (λ (g : Feed). g.bytes ++ held.items) (sym holds.0) ∙ is.bytes)
    by false true e fin = let n = ap (λ (l : List ℕ). length l) (is.ended e fin).0 in absurd (omega (arith, some, n))

-- where nothing is held, all was handed on
nothing_held : (feeds : Feeding → Type 0) (held : Buffer ℕ) (b : Bool) (f : Feeding) (is : FeedsBuffered feeds held b f)
    → held.items ≡ [] → ended is.inner.feed ≡ in_blocks true f.feed.bytes
nothing_held feeds held b f is none = by b f.feed.finished refl refl
  where
    by : (t u : Bool) → b ≡ t → f.feed.finished ≡ u → ended is.inner.feed ≡ in_blocks true f.feed.bytes
    by true u e un = let n = ap (λ (l : List ℕ). length l) none in let m = is.some e in absurd (omega (arith, n, m))
    by false false e un =
        let holds = is.holding e un in
        let all : whole_part f.feed.bytes ≡ f.feed.bytes =
        sym (append-nil (whole_part f.feed.bytes)) ∙ ap (λ (l : List ℕ). whole_part f.feed.bytes ++ l) (sym none)
        ∙ ap (λ (g : Feed). g.bytes ++ held.items) (sym holds.0) ∙ is.bytes in
        ap ended holds.0 ∙ ap (in_blocks true) all
    by false true e fin = (is.ended e fin).1

longer_end : (bytes : List ℕ) → IsLonger (in_blocks false bytes) (in_blocks true bytes)
longer_end bytes = record {
  unfinished = refl;
  sizes = ([], sym (append-nil (in_blocks false bytes).sizes));
  bytes = ([], sym (append-nil bytes));
}

-- the last block does not all fit
pub stays_full : (before after : Feeding → Type 0) (b b' : Bool) (held held' piped piped' : Buffer ℕ)
    → HandsOn before after true b' held held' piped piped' → 0 < length held.items → b' ≡ true
    → OnFinish (FeedsBuffered before held b) (FeedsBuffered after held' b') (Finishes Full piped piped')
stays_full before after b b' held held' piped piped' h some on = λ old is may.
    let g = is.inner in
    let bytes = old.feed.bytes in
    let all : all_fed g.feed held.items ≡ in_blocks false bytes = last_block before held b old is some in
    let un : g.feed.finished ≡ false = ap (λ (f : Feed). f.finished) all in
    let call = h.law g is.after un in
    let step = call.2 in
    let rest : held'.items ≡ drop h.count held.items = ap (λ (k : Buffer ℕ). k.items) h.rest in
    let more : 0 < length held'.items = lt_true (length held'.items) (sym h.goes_on ∙ on) in
    let less : h.count < length held.items = omega (arith, ap (λ (l : List ℕ). length l) rest, length-drop h.count held.items, more) in
    let framed : old.form.frames (ended old.feed) ≡ g.form.frames (in_blocks true bytes) = frames_of old.form g.form (ended old.feed) is.form in
    let may' : g.form.may_end (in_blocks true bytes) ≡ true = sym (ends_of old.form g.form (ended old.feed) is.form) ∙ may in
    let reached : reach g piped ≡ reach old piped = ap (λ (l : List ℕ). length l + (piped.capacity - length piped.items)) (sym is.put) in
    let short : reach g piped < length (g.form.frames (in_blocks false bytes)) =
    by g bytes may'
    (subst (λ (f : Feed). (reach g piped < length (g.form.frames f)) ⊎ PassesLength g.form f) all (step.short less)) in
    let front = is.grows (in_blocks false bytes) (in_blocks true bytes) (longer_end bytes) in
    let most : call.0.put ≡ take (reach old piped) (old.form.frames (ended old.feed)) =
    step.most ∙ ap (λ (f : Feed). take (reach g piped) (g.form.frames f)) all
    ∙ most_of_all (reach g piped) _ _ front short
    ∙ ap₂ (λ (k : ℕ) (l : List ℕ). take k l) reached (sym framed) in (
      record { form = old.form; feed = ended old.feed; put = call.0.put },
      record {
        inner = call.0;
        after = call.1;
        grows = subst IsGrowing (sym step.puts.form) is.grows;
        form = is.form ∙ ap buffered (sym step.puts.form);
        put = refl;
        capacity = ap (λ (k : Buffer ℕ). k.capacity) h.rest ∙ is.capacity;
        bytes = ap₂ (λ (f : Feed) (l : List ℕ). f.bytes ++ l) step.feed rest
            ∙ append_assoc g.feed.bytes (take h.count held.items) (drop h.count held.items)
            ∙ ap (λ (l : List ℕ). g.feed.bytes ++ l) (take-append-drop h.count held.items) ∙ is.bytes;
        some = λ _. more;
        handing = λ _. (
          ap₂ (λ (f : Feed) (l : List ℕ). all_fed f l) step.feed rest ∙ fed_rest g.feed held.items h.count h.within ∙ all,
          λ no. absurd (clash (sym no)),
        );
        holding = λ no _. absurd (clash (sym no ∙ on));
        ended = λ no _. absurd (clash (sym no ∙ on));
      },
      finishes_full piped piped' old g call.0 is.put step.puts most
          (let n = ap (λ (l : List ℕ). length l) framed in let m = length_front _ _ front in omega (arith, n, m, short, reached)),
    )
  where
    by : (g : Feeding) (bytes : List ℕ) → g.form.may_end (in_blocks true bytes) ≡ true
        → (reach g piped < length (g.form.frames (in_blocks false bytes))) ⊎ PassesLength g.form (in_blocks false bytes)
        → reach g piped < length (g.form.frames (in_blocks false bytes))
    by g bytes may (inl r) = r
    by g bytes may (inr q) = absurd (clash (sym (q.no_end (in_blocks true bytes) (longer_end bytes)) ∙ may))

-- all is handed on, and the inner sink finishes
finish_inner : (middle after : Feeding → Type 0) (b : Bool) (held : Buffer ℕ) (answer : Finish) (piped piped' piped'' : Buffer ℕ) (old mid : Feeding) (inner : Form)
    → old.form ≡ buffered inner → mid.form ≡ inner → IsGrowing inner → middle mid → ended mid.feed ≡ in_blocks true old.feed.bytes
    → old.form.may_end (ended old.feed) ≡ true
    → (gained : List ℕ) → piped'.items ≡ piped.items ++ gained → piped'.capacity ≡ piped.capacity → mid.put ≡ old.put ++ gained → reach mid piped' ≡ reach old piped
    → OnFinish middle after (Finishes answer piped' piped'') → held.items ≡ [] → held.capacity ≡ BLOCK_LEN → b ≡ false
    → (new : Feeding) × FeedsBuffered after held b new × Finishes answer piped piped'' old new
finish_inner middle after b held answer piped piped' piped'' old mid inner form same grows there all may gained into room put reached law none capacity off =
    let bytes = old.feed.bytes in
    let may' : mid.form.may_end (ended mid.feed) ≡ true =
    ap₂ (λ (f : Form) (x : Feed). f.may_end x) same all ∙ sym (ends_of old.form inner (ended old.feed) form) ∙ may in
    let call = law mid there may' in
    let framed : mid.form.frames (ended mid.feed) ≡ old.form.frames (ended old.feed) =
    ap₂ (λ (f : Form) (x : Feed). f.frames x) same all ∙ sym (frames_of old.form inner (ended old.feed) form) in
    let form' : call.0.form ≡ inner = call.2.puts.form ∙ same in
    let fed' : call.0.feed ≡ in_blocks true bytes = call.2.feed ∙ all in (
      record { form = old.form; feed = ended old.feed; put = call.0.put },
      record {
        inner = call.0;
        after = call.1;
        grows = subst IsGrowing (sym form') grows;
        form = form ∙ ap buffered (sym form');
        put = refl;
        capacity = capacity;
        bytes = ap₂ (λ (f : Feed) (l : List ℕ). f.bytes ++ l) fed' none ∙ append-nil bytes;
        some = λ yes. absurd (clash (sym off ∙ yes));
        handing = λ yes. absurd (clash (sym off ∙ yes));
        holding = λ _ no. absurd (clash (sym no));
        ended = λ _ _. (none, ap ended fed');
      },
      finishes_ready answer piped piped' piped'' old mid call.0
          record { gained = gained; into = into; room = room; put = put; reached = reached; framed = framed }
          call.2,
    )

-- nothing is held
pub finishes_at_once : (before after : Feeding → Type 0) (b : Bool) (held : Buffer ℕ) (answer : Finish) (piped piped' : Buffer ℕ)
    → length held.items ≡ 0 → OnFinish before after (Finishes answer piped piped')
    → OnFinish (FeedsBuffered before held b) (FeedsBuffered after held b) (Finishes answer piped piped')
finishes_at_once before after b held answer piped piped' none law = λ old is may.
    let empty : held.items ≡ [] = none_left held.items none in
    finish_inner before after b held answer piped piped piped' old is.inner is.inner.form is.form refl is.grows is.after
    (nothing_held before held b old is empty) may
    [] (sym (append-nil piped.items)) refl (sym is.put ∙ sym (append-nil old.put))
    (ap (λ (l : List ℕ). length l + (piped.capacity - length piped.items)) (sym is.put))
    law empty is.capacity (off b refl old is)
  where
    off : (t : Bool) → b ≡ t → (f : Feeding) → FeedsBuffered before held b f → b ≡ false
    off false e f is = e
    off true e f is = let m = is.some e in absurd (omega (arith, none, m))

-- the last block is handed on, and the inner sink finishes
pub finishes_after : (before middle after : Feeding → Type 0) (b b' : Bool) (held held' : Buffer ℕ) (answer : Finish) (piped piped' piped'' : Buffer ℕ)
    → HandsOn before middle true b' held held' piped piped' → 0 < length held.items → b' ≡ false → OnFinish middle after (Finishes answer piped' piped'')
    → OnFinish (FeedsBuffered before held b) (FeedsBuffered after held' b') (Finishes answer piped piped'')
finishes_after before middle after b b' held held' answer piped piped' piped'' h some off law = λ old is may.
    let g = is.inner in
    let all : all_fed g.feed held.items ≡ in_blocks false old.feed.bytes = last_block before held b old is some in
    let un : g.feed.finished ≡ false = ap (λ (f : Feed). f.finished) all in
    let call = h.law g is.after un in
    let step = call.2 in
    let rest : held'.items ≡ drop h.count held.items = ap (λ (k : Buffer ℕ). k.items) h.rest in
    let none : length held'.items ≡ 0 = lt_false (length held'.items) (sym h.goes_on ∙ off) in
    let count : h.count ≡ length held.items = omega (arith, ap (λ (l : List ℕ). length l) rest, length-drop h.count held.items, none, h.within) in
    let whole : call.0.feed ≡ in_blocks false old.feed.bytes = step.feed ∙ ap (λ (k : ℕ). fed g.feed held.items k) count ∙ all in
    let reached : reach call.0 piped' ≡ reach g piped = reach_stays g call.0 piped piped' (g.form.frames (all_fed g.feed held.items)) step.puts step.most in
    finish_inner middle after b' held' answer piped piped' piped'' old call.0 g.form is.form step.puts.form is.grows call.1
    (ap ended whole) may
    step.puts.gained step.puts.into step.puts.room (step.puts.put ∙ ap (λ (l : List ℕ). l ++ step.puts.gained) (sym is.put))
    (reached ∙ ap (λ (l : List ℕ). length l + (piped.capacity - length piped.items)) (sym is.put))
    law (none_left held'.items none) (ap (λ (k : Buffer ℕ). k.capacity) h.rest ∙ is.capacity) off
