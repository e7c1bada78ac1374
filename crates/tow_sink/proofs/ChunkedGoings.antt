-- How bytes of a block are handed on: the text that is owed, the bytes, and the line end after the last of them.
use Rattle.std.proofs.Common.{◌≡◌, ℕ, zero, suc, ◌+◌, ◌-◌, ◌<◌, ◌≤◌, Bool, true, false, ◌==◌, nat_le, List, [], ◌∷◌, ◌++◌, length, take, drop, refl, sym, ap, ap₂, ◌∙◌, subst, arith, append_assoc, append-nil, length-append, length-take, length-drop, take-append-drop, take_all, ◌⊎◌, inl, inr}
use Rattle.std.proofs.lemmas.List.{take-append-le, drop-drop}
use Rattle.std.proofs.lemmas.Bool.Decides.{leb_tells, eqb_tells}
use Rattle.httparse.specs.Ascii.{crlf_bytes}
use Rattle.circular_buffer.specs.Buffer.{Buffer}
use Rattle.tow_sink.specs.Feeds.{Feeding, IsOfBytes}
use Rattle.tow_sink.specs.Calls.{Writes, OnWrite}
use Rattle.tow_sink.specs.ChunkedFeeding.{FeedsChunked, HandsText}
use Rattle.tow_sink.proofs.Fronts.{take_split, clash}
use Rattle.tow_sink.proofs.Hands.{Hands, hands_of, hands_then, hands_short}
use Rattle.tow_sink.proofs.ChunkedForm.{closing, closing_nothing, closing_none, closing_all}
use Rattle.tow_sink.proofs.ChunkedCalls.{gone_on}

pub drop_whole : (n : ℕ) (x : List ℕ) → n ≤ length x → length (drop n x) ≡ 0 → n ≡ length x
drop_whole n x le none = omega (arith, length-drop n x, le, none)

pub none_left : (x : List ℕ) → length x ≡ 0 → x ≡ []
none_left [] is = refl
none_left (c ∷ x) is = absurd (omega (arith, is))

take_beyond : (a b : List ℕ) (n : ℕ) → take (length a + n) (a ++ b) ≡ a ++ take n b
take_beyond a b n =
    let z : length a + n - length a ≡ n = omega arith in
    take_split (length a + n) a b ∙ ap₂ (λ (x : List ℕ) (k : ℕ). x ++ take k b) (take_all (length a + n) a (omega arith)) z

pub inner_open : (before : Feeding → Type 0) (owed : List ℕ) (left : ℕ) (over : Bool) (old : Feeding) (is : FeedsChunked before owed left over old)
    → old.feed.finished ≡ false → is.inner.feed.finished ≡ false
inner_open before owed left over old is un = by is.inner.feed.finished refl
  where
    by : (t : Bool) → is.inner.feed.finished ≡ t → is.inner.feed.finished ≡ false
    by false e = e
    by true e = absurd (clash (sym un ∙ is.ended ∙ (is.unfinished e).0))

-- what is owed is not all handed on
pub stops : (before after : Feeding → Type 0) (owed owed' from : List ℕ) (left left' : ℕ) (over over' : Bool) (piped piped' : Buffer ℕ)
    → HandsText before after owed owed' piped piped' → 0 < length owed' → length from ≤ left → left' ≡ left → over' ≡ over
    → OnWrite (FeedsChunked before owed left over) (FeedsChunked after owed' left' over') (Writes 0 from piped piped')
stops before after owed owed' from left left' over over' piped piped' h some fits same keeps = λ old is un.
    let un' : is.inner.feed.finished ≡ false = inner_open before owed left over old is un in
    let call = h.law is.inner is.after un' in
    let tail = from ++ closing left from in
    let less : h.count < length owed = omega (arith, length-drop h.count owed, ap (λ (l : List ℕ). length l) h.rest, some) in
    let p = hands_of owed h.count piped piped' is.inner call.0 is.of_bytes un' h.within call.2 in
    gone_on before after owed owed' from left left' 0 over over' piped piped' fits (omega arith) (omega (arith, same)) keeps old is un call.0 call.1
    record {
      handed = h.count;
      hands = hands_short owed tail h.count piped piped' is.inner call.0 p less is.grows;
      rest = ap₂ (λ (a b : List ℕ). a ++ b) (take-append-le h.count owed tail h.within) h.rest
          ∙ take-append-drop h.count owed ∙ sym (append-nil owed)
          ∙ ap (λ (l : List ℕ). owed ++ ([] ++ l)) (sym (closing_nothing left));
      short = λ _. omega (arith, length-append owed tail, less);
    }
    (λ none.
    let t = is.rest (omega (arith, none, same)) (sym is.ended ∙ un) in
    (t.0 + h.count, h.rest ∙ ap (drop h.count) t.1 ∙ drop-drop h.count t.0 crlf_bytes))

-- what is owed is handed on, and then bytes that do not fill the block
pub goes : (before middle after : Feeding → Type 0) (owed owed' from : List ℕ) (left left' count : ℕ) (over over' : Bool) (piped piped' piped'' : Buffer ℕ)
    → HandsText before middle owed owed' piped piped' → length owed' ≡ 0 → OnWrite middle after (Writes count from piped' piped'')
    → length from ≤ left → count ≤ length from → left' + count ≡ left → over' ≡ over → (0 < count → left' ≡ 0 → ⊥)
    → OnWrite (FeedsChunked before owed left over) (FeedsChunked after owed' left' over') (Writes count from piped piped'')
goes before middle after owed owed' from left left' count over over' piped piped' piped'' h none law fits le less keeps going = λ old is un.
    let un' : is.inner.feed.finished ≡ false = inner_open before owed left over old is un in
    let first = h.law is.inner is.after un' in
    let p = hands_of owed h.count piped piped' is.inner first.0 is.of_bytes un' h.within first.2 in
    let second = law first.0 first.1 p.unfinished in
    let of = subst IsOfBytes (sym p.puts.form) is.of_bytes in
    let q = hands_of from count piped' piped'' first.0 second.0 of p.unfinished le second.2 in
    let all : h.count ≡ length owed = drop_whole h.count owed h.within (ap (λ (l : List ℕ). length l) (sym h.rest) ∙ none) in
    let taken : take h.count owed ≡ owed = ap (λ (k : ℕ). take k owed) all ∙ take_all (length owed) owed (omega arith) in
    let both : Hands (owed ++ from) (length owed + count) piped piped'' is.inner second.0 =
    subst (λ (l : List ℕ). Hands (l ++ from) (length owed + count) piped piped'' is.inner second.0) taken
    (subst (λ (k : ℕ). Hands (take h.count owed ++ from) (k + count) piped piped'' is.inner second.0) all
    (hands_then owed from h.count count piped piped' piped'' is.inner first.0 second.0 p q)) in
    let empty : owed' ≡ [] = none_left owed' none in
    gone_on before after owed owed' from left left' count over over' piped piped'' fits le less keeps old is un second.0 second.1
    record {
      handed = length owed + count;
      hands = on (leb_tells (length from) count) old is second.0 both;
      rest = ap₂ (λ (a b : List ℕ). a ++ b) (take_beyond owed (from ++ closing left from) count) empty
          ∙ append-nil (owed ++ take count (from ++ closing left from))
          ∙ ap (λ (l : List ℕ). owed ++ l) (take-append-le count from (closing left from) le ∙ sym (append-nil (take count from))
          ∙ ap (λ (l : List ℕ). take count from ++ l) (sym (no_end count refl)));
      short = λ fewer. omega (arith, length-append owed (from ++ closing left from), length-append from (closing left from), fewer);
    }
    (λ _. (2, empty))
  where
    some_left : (k : ℕ) → left' ≡ k → 0 < count → 0 < left'
    some_left zero z some = absurd (going some z)
    some_left (suc k) z some = omega (arith, z)

    no_end : (k : ℕ) → count ≡ k → closing left (take count from) ≡ []
    no_end zero z = ap (λ (n : ℕ). closing left (take n from)) z ∙ closing_nothing left
    no_end (suc k) z =
        closing_none left (take count from) (omega (arith, length-take count from, less, some_left left' refl (omega (arith, z))))

    ends_not : (k : ℕ) → count ≡ k → length from ≤ count → closing left from ≡ []
    ends_not zero z all = ap (closing left) (none_left from (omega (arith, z, all))) ∙ closing_nothing left
    ends_not (suc k) z all = closing_none left from (omega (arith, fits, less, le, all, some_left left' refl (omega (arith, z))))

    on : ((nat_le (length from) count ≡ true) × (length from ≤ count)) ⊎ ((nat_le (length from) count ≡ false) × (count < length from))
        → (old : Feeding) (is : FeedsChunked before owed left over old) (new : Feeding) → Hands (owed ++ from) (length owed + count) piped piped'' is.inner new
        → Hands (owed ++ (from ++ closing left from)) (length owed + count) piped piped'' is.inner new
    on (inl (_, all)) old is new both =
        subst (λ (l : List ℕ). Hands (owed ++ l) (length owed + count) piped piped'' is.inner new)
        (sym (append-nil from) ∙ ap (λ (l : List ℕ). from ++ l) (sym (ends_not count refl all))) both
    on (inr (_, fewer)) old is new both =
        subst (λ (l : List ℕ). Hands l (length owed + count) piped piped'' is.inner new) (append_assoc owed from (closing left from))
        (hands_short (owed ++ from) (closing left from) (length owed + count) piped piped'' is.inner new both
        (omega (arith, length-append owed from, fewer)) is.grows)

-- what is owed, the bytes to the block's end, and its line end
pub ends : (before middle later after : Feeding → Type 0) (owed middling crlf owed' from : List ℕ) (left left' count : ℕ) (over over' : Bool) (piped piped' piped'' piped₃ : Buffer ℕ)
    → HandsText before middle owed middling piped piped' → length middling ≡ 0 → OnWrite middle later (Writes count from piped' piped'')
    → crlf ≡ crlf_bytes → HandsText later after crlf owed' piped'' piped₃
    → length from ≤ left → count ≤ length from → left' + count ≡ left → over' ≡ over → 0 < count → left' ≡ 0
    → OnWrite (FeedsChunked before owed left over) (FeedsChunked after owed' left' over') (Writes count from piped piped₃)
ends before middle later after owed middling crlf owed' from left left' count over over' piped piped' piped'' piped₃ h none law line e fits le less keeps some filled = λ old is un.
    let un' : is.inner.feed.finished ≡ false = inner_open before owed left over old is un in
    let first = h.law is.inner is.after un' in
    let p = hands_of owed h.count piped piped' is.inner first.0 is.of_bytes un' h.within first.2 in
    let second = law first.0 first.1 p.unfinished in
    let of = subst IsOfBytes (sym p.puts.form) is.of_bytes in
    let q = hands_of from count piped' piped'' first.0 second.0 of p.unfinished le second.2 in
    let third = e.law second.0 second.1 q.unfinished in
    let of' = subst IsOfBytes (sym q.puts.form) of in
    let r = hands_of crlf e.count piped'' piped₃ second.0 third.0 of' q.unfinished e.within third.2 in
    let all : h.count ≡ length owed = drop_whole h.count owed h.within (ap (λ (l : List ℕ). length l) (sym h.rest) ∙ none) in
    let taken : take h.count owed ≡ owed = ap (λ (k : ℕ). take k owed) all ∙ take_all (length owed) owed (omega arith) in
    let whole : count ≡ length from = omega (arith, less, filled, fits, le) in
    let taken' : take (h.count + count) (owed ++ from) ≡ owed ++ from =
    take_all (h.count + count) (owed ++ from) (omega (arith, length-append owed from, all, whole)) in
    let two : Hands (owed ++ from) (h.count + count) piped piped'' is.inner second.0 =
    subst (λ (l : List ℕ). Hands (l ++ from) (h.count + count) piped piped'' is.inner second.0) taken
    (hands_then owed from h.count count piped piped' piped'' is.inner first.0 second.0 p q) in
    let line' : crlf ≡ closing left from = line ∙ sym (closing_all left from (omega (arith, some, less)) (omega (arith, less, filled, whole))) in
    let joined : (owed ++ from) ++ crlf ≡ owed ++ (from ++ closing left from) =
    append_assoc owed from crlf ∙ ap (λ (l : List ℕ). owed ++ (from ++ l)) line' in
    let three : Hands (owed ++ (from ++ closing left from)) (h.count + count + e.count) piped piped₃ is.inner third.0 =
    subst (λ (l : List ℕ). Hands l (h.count + count + e.count) piped piped₃ is.inner third.0) joined
    (subst (λ (l : List ℕ). Hands (l ++ crlf) (h.count + count + e.count) piped piped₃ is.inner third.0) taken'
    (hands_then (owed ++ from) crlf (h.count + count) e.count piped piped'' piped₃ is.inner second.0 third.0 two r)) in
    let len : h.count + count ≡ length (owed ++ from) = omega (arith, length-append owed from, all, whole) in
    let front : take (h.count + count + e.count) (owed ++ (from ++ closing left from)) ≡ (owed ++ from) ++ take e.count crlf =
    ap₂ (λ (k : ℕ) (l : List ℕ). take (k + e.count) l) len (sym joined) ∙ take_beyond (owed ++ from) crlf e.count in
    let taken₃ : take count from ≡ from = ap (λ (k : ℕ). take k from) whole ∙ take_all (length from) from (omega arith) in
    gone_on before after owed owed' from left left' count over over' piped piped₃ fits le less keeps old is un third.0 third.1
    record {
      handed = h.count + count + e.count;
      hands = three;
      rest = ap₂ (λ (a b : List ℕ). a ++ b) front e.rest ∙ append_assoc (owed ++ from) (take e.count crlf) (drop e.count crlf)
          ∙ ap (λ (l : List ℕ). (owed ++ from) ++ l) (take-append-drop e.count crlf) ∙ joined
          ∙ ap (λ (l : List ℕ). owed ++ (l ++ closing left l)) (sym taken₃);
      short = λ fewer. absurd (omega (arith, fewer, whole));
    }
    (λ _. (e.count, e.rest ∙ ap (drop e.count) line))

pub some_of : (n : ℕ) → false ≡ (n == 0) → 0 < n
some_of n is = by (eqb_tells n 0)
  where
    some : (k : ℕ) → n ≡ k → (n ≡ 0 → ⊥) → 0 < n
    some zero z apart = absurd (apart z)
    some (suc k) z apart = omega (arith, z)

    by : (((n == 0) ≡ true) × (n ≡ 0)) ⊎ (((n == 0) ≡ false) × (n ≡ 0 → ⊥)) → 0 < n
    by (inl (also, _)) = absurd (clash (is ∙ also))
    by (inr (_, apart)) = some n refl apart

pub none_of : (n : ℕ) → true ≡ (n == 0) → n ≡ 0
none_of n is = by (eqb_tells n 0)
  where
    by : (((n == 0) ≡ true) × (n ≡ 0)) ⊎ (((n == 0) ≡ false) × (n ≡ 0 → ⊥)) → n ≡ 0
    by (inl (_, z)) = z
    by (inr (nay, _)) = absurd (clash (sym nay ∙ sym is))
