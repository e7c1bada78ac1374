-- Blocks of a longer text, as feeds.
use Rattle.std.proofs.Common.{◌≡◌, ℕ, zero, suc, ◌+◌, ◌-◌, ◌*◌, ◌/◌, ◌<◌, ◌≤◌, Bool, true, false, if◌then◌else◌, List, [], ◌∷◌, ◌++◌, length, map, take, drop, refl, sym, ap, ap₂, ◌∙◌, subst, arith, append_assoc, append-nil, length-append, length-take, length-drop, take_at, take-append-drop, take_all, lit<}
use Rattle.std.specs.Prelude.{sum}
use Rattle.std.proofs.lemmas.List.{drop_at, drop_all}
use Rattle.std.proofs.Math.Seq.{take-append-add}
use Rattle.tow_model.specs.declared.limits.TheConstants.{BLOCK_LEN}
use Rattle.tow_model.specs.Lists.{IsPrefix}
use Rattle.tow_wire.specs.Answers.{cut, blocks}
use Rattle.tow_sink.specs.Feeds.{Feed, Form, IsLonger, IsGrowing, Feeding, OpensAround, one_block, beyond, all_fed, unfed}
use Rattle.tow_sink.specs.BufferedFeeding.{whole_part, in_blocks, handed_on, buffered, FeedsBuffered}
use Rattle.circular_buffer.specs.Buffer.{Buffer, buffer}
use Rattle.tow_sink.proofs.Fronts.{feed_with, sum_cons, beyond_all, clash}

-- more pieces than there are bytes change nothing
cut_same : (size n m : ℕ) (bytes : List ℕ) → 0 < size → length bytes ≤ n → length bytes ≤ m → cut size n bytes ≡ cut size m bytes
cut_same size zero zero [] some a b = refl
cut_same size zero (suc m) [] some a b = refl
cut_same size (suc n) zero [] some a b = refl
cut_same size (suc n) (suc m) [] some a b = refl
cut_same size zero m (x ∷ bytes) some a b = absurd (omega (arith, a))
cut_same size (suc n) zero (x ∷ bytes) some a b = absurd (omega (arith, b))
cut_same size (suc n) (suc m) (x ∷ bytes) some a b =
    let shorter : length (drop size (x ∷ bytes)) ≤ length bytes = omega (arith, length-drop size (x ∷ bytes), some) in
    ap (λ (l : List (List ℕ)). take size (x ∷ bytes) ∷ l)
    (cut_same size n m (drop size (x ∷ bytes)) some (omega (arith, a, shorter)) (omega (arith, b, shorter)))

pieces : ℕ → List ℕ → List (List ℕ)
pieces size bytes = cut size (length bytes) bytes

-- a whole piece at the front is cut off
first_piece : (size : ℕ) (a b : List ℕ) → 0 < size → length a ≡ size → pieces size (a ++ b) ≡ a ∷ pieces size b
unfolding pieces
first_piece size [] b some is = absurd (omega (arith, some, is))
first_piece size (x ∷ a) b some is =
    let left : drop size (x ∷ (a ++ b)) ≡ b = drop_at (x ∷ a) b size is in
    let n : length b ≤ length (a ++ b) = omega (arith, length-append a b) in
    ap₂ (λ (p : List ℕ) (l : List (List ℕ)). p ∷ l) (take_at (x ∷ a) b size is)
    (ap (cut size (length (a ++ b))) left ∙ cut_same size (length (a ++ b)) (length b) b some n (omega arith))

take_length : (a : List ℕ) (n : ℕ) → n ≤ length a → length (take n a) ≡ n
take_length a n fits = omega (arith, length-take n a, fits)

-- so are k of them
first_pieces : (size k : ℕ) (a b : List ℕ) → 0 < size → length a ≡ k * size → pieces size (a ++ b) ≡ pieces size a ++ pieces size b
unfolding pieces
first_pieces size zero [] b some is = refl
first_pieces size zero (x ∷ a) b some is = absurd (omega (arith, is))
first_pieces size (suc k) a b some is =
    let front = take size a in
    let rest = drop size a in
    let whole : front ++ rest ≡ a = take-append-drop size a in
    let len : length front ≡ size = take_length a size (omega (arith, is)) in
    let later = first_pieces size k rest b some (omega (arith, length-drop size a, is)) in
    ap (λ (l : List ℕ). pieces size (l ++ b)) (sym whole)
    ∙ ap (pieces size) (append_assoc front rest b)
    ∙ first_piece size front (rest ++ b) some len
    ∙ ap (λ (l : List (List ℕ)). front ∷ l) later
    ∙ ap (λ (l : List (List ℕ)). l ++ pieces size b) (sym (first_piece size front rest some len) ∙ ap (pieces size) whole)

-- a shorter piece is the only one
only_piece : (size : ℕ) (a : List ℕ) → 0 < size → 0 < length a → length a ≤ size → pieces size a ≡ a ∷ []
unfolding pieces
only_piece size [] some any fits = absurd (omega (arith, any))
only_piece size (x ∷ a) some any fits =
    ap₂ (λ (p : List ℕ) (l : List (List ℕ)). p ∷ l) (take_all size (x ∷ a) fits)
    (ap (cut size (length a)) (drop_all size (x ∷ a) fits) ∙ nothing (length a))
  where
    nothing : (n : ℕ) → cut size n [] ≡ []
    nothing zero = refl
    nothing (suc n) = refl

pieces_sum : (size n : ℕ) (bytes : List ℕ) → 0 < size → length bytes ≤ n → sum (map (λ (b : List ℕ). length b) (cut size n bytes)) ≡ length bytes
pieces_sum size zero [] some fits = refl
pieces_sum size (suc n) [] some fits = refl
pieces_sum size zero (x ∷ bytes) some fits = absurd (omega (arith, fits))
pieces_sum size (suc n) (x ∷ bytes) some fits =
    let later = pieces_sum size n (drop size (x ∷ bytes)) some (omega (arith, length-drop size (x ∷ bytes), some, fits)) in
    let l = sum_cons (length (take size (x ∷ bytes))) (map (λ (b : List ℕ). length b) (cut size n (drop size (x ∷ bytes)))) in
    omega (arith, l, later, length-drop size (x ∷ bytes), length-take size (x ∷ bytes))

pub blocks_sum : (bytes : List ℕ) → sum (map (λ (b : List ℕ). length b) (blocks bytes)) ≡ length bytes
blocks_sum bytes = pieces_sum BLOCK_LEN (length bytes) bytes (lit< tt) (omega arith)

lengths : List (List ℕ) → List ℕ
lengths bs = map (λ (b : List ℕ). length b) bs

lengths_append : (a b : List (List ℕ)) → lengths (a ++ b) ≡ lengths a ++ lengths b
unfolding lengths
lengths_append [] b = refl
lengths_append (x ∷ a) b = ap (λ (l : List ℕ). length x ∷ l) (lengths_append a b)

-- ---- feeds in blocks

pub blocks_longer : (k : ℕ) (a extra : List ℕ) (t : Bool) → length a ≡ k * BLOCK_LEN → IsLonger (in_blocks false a) (in_blocks t (a ++ extra))
unfolding pieces lengths
blocks_longer k a extra t is = record {
  unfinished = refl;
  sizes = (_, ap lengths (first_pieces BLOCK_LEN k a extra (lit< tt) is) ∙ lengths_append (blocks a) (blocks extra));
  bytes = (extra, refl);
}

-- a block more, or a shorter last one
pub block_more : (k : ℕ) (a h : List ℕ) → length a ≡ k * BLOCK_LEN → 0 < length h → length h ≤ BLOCK_LEN → all_fed (in_blocks false a) h ≡ in_blocks false (a ++ h)
unfolding pieces lengths
block_more k a h is some fits =
    let n : beyond (sum (lengths (blocks a))) (length a + length h) (length a + length h) ≡ length h =
    beyond_all (sum (lengths (blocks a))) (length a + length h) ∙ (let s = blocks_sum a in omega (arith, s)) in
    let one : one_block (length h) ≡ length h ∷ [] = just (length h) some in
    let sizes : lengths (blocks a) ++ one_block (beyond (sum (lengths (blocks a))) (length a + length h) (length a + length h)) ≡ lengths (blocks (a ++ h)) =
    ap (λ (k : ℕ). lengths (blocks a) ++ one_block k) n ∙ ap (λ (l : List ℕ). lengths (blocks a) ++ l) one
    ∙ ap (λ (l : List (List ℕ)). lengths (blocks a) ++ lengths l) (sym (only_piece BLOCK_LEN h (lit< tt) some fits))
    ∙ sym (ap lengths (first_pieces BLOCK_LEN k a h (lit< tt) is) ∙ lengths_append (blocks a) (blocks h)) in
    ap₂ (λ (x y : List ℕ). feed_with x (a ++ y) false) sizes (take_all (length h) h (omega arith))
  where
    just : (n : ℕ) → 0 < n → one_block n ≡ n ∷ []
    just zero some = absurd (omega (arith, some))
    just (suc n) some = refl

-- a write of nothing changes no feed of whole blocks
pub nothing_fed : (bytes : List ℕ) → all_fed (in_blocks false bytes) [] ≡ in_blocks false bytes
unfolding lengths
nothing_fed bytes =
    let n : beyond (sum (lengths (blocks bytes))) (length bytes + 0) (length bytes + 0) ≡ 0 =
    beyond_all (sum (lengths (blocks bytes))) (length bytes + 0) ∙ (let s = blocks_sum bytes in omega (arith, s)) in
    ap₂ (λ (x y : List ℕ). feed_with x (y) false)
    (ap (λ (k : ℕ). lengths (blocks bytes) ++ one_block k) n ∙ append-nil (lengths (blocks bytes))) (append-nil bytes)

-- ---- the whole blocks of some bytes

count_of : List ℕ → ℕ
count_of bytes = length bytes / BLOCK_LEN

pub whole_length : (bytes : List ℕ) → length (whole_part bytes) ≡ length bytes / BLOCK_LEN * BLOCK_LEN
whole_length bytes = take_length bytes (length bytes / BLOCK_LEN * BLOCK_LEN) (omega arith)

pub whole_of : (k : ℕ) (a h : List ℕ) → length a ≡ k * BLOCK_LEN → length h < BLOCK_LEN → whole_part (a ++ h) ≡ a
whole_of k a h is short =
    let n : length (a ++ h) / BLOCK_LEN * BLOCK_LEN ≡ length a = omega (arith, length-append a h, is, short) in
    ap (λ (k : ℕ). take k (a ++ h)) n ∙ take_at a h (length a) refl

pub whole_all : (k : ℕ) (a : List ℕ) → length a ≡ k * BLOCK_LEN → whole_part a ≡ a
whole_all k a is =
    ap whole_part (sym (append-nil a)) ∙ whole_of k a [] is (lit< tt)

pub whole_longer : (a more : List ℕ) → IsPrefix (whole_part a) (whole_part (a ++ more))
whole_longer a more =
    let n = length a / BLOCK_LEN * BLOCK_LEN in
    let m = length (a ++ more) / BLOCK_LEN * BLOCK_LEN in
    let fits : n ≤ length a = omega arith in
    let above : m ≡ n + (m - n) = omega (arith, length-append a more) in
    (_, ap (λ (k : ℕ). take k (a ++ more)) above ∙ front n (m - n) fits)
  where
    front : (n r : ℕ) → n ≤ length a → take (n + r) (a ++ more) ≡ take n a ++ take r (drop n a ++ more)
    front n r fits =
        let split : a ++ more ≡ take n a ++ (drop n a ++ more) =
        ap (λ (l : List ℕ). l ++ more) (sym (take-append-drop n a)) ∙ append_assoc (take n a) (drop n a) more in
        let len : length (take n a) ≡ n = take_length a n fits in
        ap (λ (l : List ℕ). take (n + r) l) split
        ∙ ap (λ (k : ℕ). take (k + r) (take n a ++ (drop n a ++ more))) (sym len)
        ∙ take-append-add (take n a) (drop n a ++ more) r

-- what is handed on of a longer feed is longer
pub handed_longer : (f h : Feed) → IsLonger f h → IsLonger (handed_on f) (handed_on h)
handed_longer f h l =
    subst (λ (t : Bool). IsLonger (in_blocks t (if t then f.bytes else whole_part f.bytes)) (handed_on h)) (sym l.unfinished) (to h.finished)
  where
    on : (t : Bool) (whole : List ℕ) → IsPrefix (whole_part f.bytes) whole → IsLonger (in_blocks false (whole_part f.bytes)) (in_blocks t whole)
    on t whole p =
        subst (λ (w : List ℕ). IsLonger (in_blocks false (whole_part f.bytes)) (in_blocks t w)) (sym p.1)
        (blocks_longer (length f.bytes / BLOCK_LEN) (whole_part f.bytes) p.0 t (whole_length f.bytes))

    all : IsPrefix (whole_part f.bytes) h.bytes
    all = (
      _,
      l.bytes.1 ∙ ap (λ (x : List ℕ). x ++ l.bytes.0) (sym (take-append-drop (length f.bytes / BLOCK_LEN * BLOCK_LEN) f.bytes))
          ∙ append_assoc (whole_part f.bytes) (drop (length f.bytes / BLOCK_LEN * BLOCK_LEN) f.bytes) l.bytes.0,
    )

    to : (t : Bool) → IsLonger (in_blocks false (whole_part f.bytes)) (in_blocks t (if t then h.bytes else whole_part h.bytes))
    to true = on true h.bytes all
    to false = on false (whole_part h.bytes)
        (subst (λ (x : List ℕ). IsPrefix (whole_part f.bytes) (whole_part x)) (sym l.bytes.1) (whole_longer f.bytes l.bytes.0))

pub grows : (form : Form) → IsGrowing form → IsGrowing (buffered form)
grows form is = λ f h l. is (handed_on f) (handed_on h) (handed_longer f h l)

pub opens : (inner : Feeding → Type 0) (held : Buffer ℕ) → held ≡ buffer [] BLOCK_LEN → OpensAround inner buffered (FeedsBuffered inner held false)
opens inner held is = λ form o. record {
  grows = grows form o.grows;
  unfed = record {
    inner = unfed form;
    after = o.unfed;
    grows = o.grows;
    form = refl;
    put = refl;
    capacity = ap (λ (b : Buffer ℕ). b.capacity) is;
    bytes = ap (λ (b : Buffer ℕ). b.items) is;
    some = λ no. absurd (clash no);
    handing = λ no. absurd (clash no);
    holding = λ a b. (ap (in_blocks false) (sym (whole_all 0 [] refl)), let n : length held.items ≡ 0 = ap (λ (b : Buffer ℕ). length b.items) is in omega (arith, n));
    ended = λ a no. absurd (clash no);
  };
}
