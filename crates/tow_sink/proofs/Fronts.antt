-- Fronts of lists, and feeds that go on.
use Rattle.std.proofs.Common.{◌≡◌, ℕ, zero, suc, ◌+◌, ◌-◌, ◌<◌, ◌≤◌, Bool, true, false, true≢false, List, [], ◌∷◌, ◌++◌, length, take, drop, min, nat_le, ◌&&◌, if◌then◌else◌, refl, sym, ap, ap₂, ◌∙◌, arith, append_assoc, append-nil, length-append, length-take, length-drop, take-append-drop, take_all, ◌⊎◌, inl, inr}
use Rattle.std.specs.Prelude.{sum}
use Rattle.std.specs.List.{fold}
use Rattle.std.proofs.lemmas.Bool.Decides.{leb_tells}
use Rattle.tow_model.specs.Lists.{IsPrefix}
use Rattle.circular_buffer.specs.Buffer.{Buffer}
use Rattle.tow_sink.specs.Calls.{Puts, reach}
use Rattle.tow_sink.specs.Feeds.{Feed, Feeding, IsLonger, one_block, beyond, handed_in, fed, all_fed}

abbrev pub feed_with : List ℕ → List ℕ → Bool → Feed
feed_with sizes bytes finished = record { sizes = sizes; bytes = bytes; finished = finished }

pub front_same : (a b c : List ℕ) → IsPrefix a b → b ≡ c → IsPrefix a c
front_same a b c p e = (p.0, sym e ∙ p.1)

pub front_then : (a b c : List ℕ) → IsPrefix a b → IsPrefix b c → IsPrefix a c
front_then a b c p q = (p.0 ++ q.0, q.1 ∙ ap (λ (l : List ℕ). l ++ q.0) p.1 ∙ append_assoc a p.0 q.0)

pub take_split : (n : ℕ) (a b : List ℕ) → take n (a ++ b) ≡ take n a ++ take (n - length a) b
take_split zero a b = let z : 0 ≡ 0 - length a = omega arith in ap (λ (k : ℕ). take k b) z
take_split (suc n) [] b = let z : suc n ≡ suc n - 0 = omega arith in ap (λ (k : ℕ). take k b) z
take_split (suc n) (x ∷ a) b =
    let z : n - length a ≡ suc n - suc (length a) = omega arith in
    ap (λ (l : List ℕ). x ∷ l) (take_split n a b) ∙ ap (λ (k : ℕ). x ∷ (take n a ++ take k b)) z

abbrev empty : List ℕ
empty = []

pub take_take : (n m : ℕ) (l : List ℕ) → take n (take m l) ≡ take (min n m) l
take_take zero m l = let z : 0 ≡ min 0 m = omega arith in ap (λ (k : ℕ). take k l) z
take_take (suc n) zero l = let z : 0 ≡ min (suc n) 0 = omega arith in ap (λ (k : ℕ). take k l) z
take_take (suc n) (suc m) [] = sym (none (min (suc n) (suc m)))
  where
    none : (k : ℕ) → take k empty ≡ empty
    none zero = refl
    none (suc k) = refl
take_take (suc n) (suc m) (x ∷ l) =
    let z : suc (min n m) ≡ min (suc n) (suc m) = omega arith in
    ap (λ (l : List ℕ). x ∷ l) (take_take n m l) ∙ ap (λ (k : ℕ). take k (x ∷ l)) z

fold_from : (n : ℕ) (a : List ℕ) → fold ◌+◌ n a ≡ n + fold ◌+◌ 0 a
fold_from n [] = omega arith
fold_from n (x ∷ a) = let l = fold_from (n + x) a in let r = fold_from (0 + x) a in omega (arith, l, r)

pub sum_cons : (x : ℕ) (a : List ℕ) → sum (x ∷ a) ≡ x + sum a
sum_cons x a = let e = fold_from (0 + x) a in omega (arith, e)

pub sum_append : (a b : List ℕ) → sum (a ++ b) ≡ sum a + sum b
sum_append [] b = omega arith
sum_append (x ∷ a) b =
    let l = sum_cons x (a ++ b) in
    let r = sum_cons x a in
    let e = sum_append a b in omega (arith, l, r, e)

pub sum_one_block : (n : ℕ) → sum (one_block n) ≡ n
sum_one_block zero = refl
sum_one_block (suc n) = let l = sum_cons (suc n) [] in omega (arith, l)

pub beyond_all : (before total : ℕ) → beyond before total total ≡ total - before
beyond_all before total = by (leb_tells before total)
  where
    by : ((nat_le before total ≡ true) × (before ≤ total)) ⊎ ((nat_le before total ≡ false) × (total < before)) → beyond before total total ≡ total - before
    by (inl (is, le)) = ap (λ (t : Bool). if t then total - before else 0) is
    by (inr (is, gt)) = let none : 0 ≡ total - before = omega (arith, gt) in ap (λ (t : Bool). if t then total - before else 0) is ∙ none

-- a feed of which all that was handed in was fed
pub all_longer : (f : Feed) (from : List ℕ) → f.finished ≡ false → IsLonger f (all_fed f from)
all_longer f from is = record { unfinished = is; sizes = (_, refl); bytes = (_, refl) }

pub longer_then : (f g h : Feed) → IsLonger f g → IsLonger g h → IsLonger f h
longer_then f g h a b = record {
  unfinished = a.unfinished;
  sizes = front_then f.sizes g.sizes h.sizes a.sizes b.sizes;
  bytes = front_then f.bytes g.bytes h.bytes a.bytes b.bytes;
}

pub clash : false ≡ true → ⊥
clash e = true≢false (sym e)

pub right_true : (a b : Bool) → (a && b) ≡ true → b ≡ true
right_true true b e = e
right_true false b e = absurd (clash e)

pub left_true : (a b : Bool) → (a && b) ≡ true → a ≡ true
left_true true b e = refl
left_true false b e = absurd (clash e)

-- what is left of a write is handed in again
pub fed_rest : (f : Feed) (x : List ℕ) (n : ℕ) → n ≤ length x → all_fed (fed f x n) (drop n x) ≡ all_fed f x
fed_rest f x n le =
    let s = sum f.sizes in
    let b = length f.bytes in
    let k = beyond s (b + n) (b + length x) in
    let reached : length (f.bytes ++ take n x) ≡ b + n = omega (arith, length-append f.bytes (take n x), length-take n x, le) in
    let total : length (f.bytes ++ take n x) + length (drop n x) ≡ b + length x = omega (arith, reached, length-drop n x, le) in
    let sum' : sum (f.sizes ++ one_block k) ≡ s + k = omega (arith, sum_append f.sizes (one_block k), sum_one_block k) in
    let sizes : handed_in (f.sizes ++ one_block k) (length (f.bytes ++ take n x) + length (drop n x)) (length (f.bytes ++ take n x) + length (drop n x))
    ≡ handed_in f.sizes (b + length x) (b + length x) =
    ap₂ (λ (r m : ℕ). (f.sizes ++ one_block k) ++ one_block (beyond m r r)) total sum'
    ∙ ap (λ (m : ℕ). (f.sizes ++ one_block k) ++ one_block m) (beyond_all (s + k) (b + length x))
    ∙ append_assoc f.sizes (one_block k) (one_block (b + length x - (s + k)))
    ∙ ap (λ (l : List ℕ). f.sizes ++ l) (by s b (leb_tells s (b + n)))
    ∙ ap (λ (m : ℕ). f.sizes ++ one_block m) (sym (beyond_all s (b + length x))) in
    let bytes : (f.bytes ++ take n x) ++ take (length (drop n x)) (drop n x) ≡ f.bytes ++ take (length x) x =
    ap (λ (l : List ℕ). (f.bytes ++ take n x) ++ l) (take_all (length (drop n x)) (drop n x) (omega arith))
    ∙ append_assoc f.bytes (take n x) (drop n x)
    ∙ ap (λ (l : List ℕ). f.bytes ++ l) (take-append-drop n x ∙ sym (take_all (length x) x (omega arith))) in
    ap₂ (λ (a c : List ℕ). feed_with a (c) f.finished) sizes bytes
  where
    by : (s b : ℕ) → ((nat_le s (b + n) ≡ true) × (s ≤ b + n)) ⊎ ((nat_le s (b + n) ≡ false) × (b + n < s))
        → one_block (beyond s (b + n) (b + length x)) ++ one_block (b + length x - (s + beyond s (b + n) (b + length x))) ≡ one_block (b + length x - s)
    by s b (inl (is, below)) =
        let k : beyond s (b + n) (b + length x) ≡ b + length x - s = ap (λ (t : Bool). if t then b + length x - s else 0) is in
        let none : b + length x - (s + beyond s (b + n) (b + length x)) ≡ 0 = omega (arith, k, below, le) in
        ap₂ (λ (u v : ℕ). one_block u ++ one_block v) k none ∙ append-nil (one_block (b + length x - s))
    by s b (inr (is, above)) =
        let k : beyond s (b + n) (b + length x) ≡ 0 = ap (λ (t : Bool). if t then b + length x - s else 0) is in
        let rest : b + length x - (s + beyond s (b + n) (b + length x)) ≡ b + length x - s = omega (arith, k) in
        ap₂ (λ (u v : ℕ). one_block u ++ one_block v) k rest

-- the reach of the pipe stays where it is filled
pub reach_stays : (old new : Feeding) (piped piped' : Buffer ℕ) (w : List ℕ) (puts : Puts piped piped' old new)
    → new.put ≡ take (reach old piped) w → reach new piped' ≡ reach old piped
reach_stays old new piped piped' w puts most =
    let n : length new.put ≡ length old.put + length puts.gained = ap (λ (l : List ℕ). length l) puts.put ∙ length-append old.put puts.gained in
    let m : length piped'.items ≡ length piped.items + length puts.gained = ap (λ (l : List ℕ). length l) puts.into ∙ length-append piped.items puts.gained in
    let t : length new.put ≡ length (take (reach old piped) w) = ap (λ (l : List ℕ). length l) most in
    omega (arith, n, m, puts.room, t, length-take (reach old piped) w)

pub take_more : (n m : ℕ) (l : List ℕ) → take n l ++ take m (drop n l) ≡ take (n + m) l
take_more zero m l = let z : m ≡ 0 + m = omega arith in ap (λ (k : ℕ). take k l) z
take_more (suc n) m [] = let z : suc (n + m) ≡ suc n + m = omega arith in none m ∙ ap (λ (k : ℕ). take k empty) z
  where
    none : (k : ℕ) → take k empty ≡ take (suc (n + m)) empty
    none zero = refl
    none (suc k) = refl
take_more (suc n) m (x ∷ l) =
    let z : suc (n + m) ≡ suc n + m = omega arith in
    ap (λ (t : List ℕ). x ∷ t) (take_more n m l) ∙ ap (λ (k : ℕ). take k (x ∷ l)) z

pub le_true : (a b : ℕ) → a ≤ b → nat_le a b ≡ true
le_true a b le = by (leb_tells a b)
  where
    by : ((nat_le a b ≡ true) × (a ≤ b)) ⊎ ((nat_le a b ≡ false) × (b < a)) → nat_le a b ≡ true
    by (inl (is, _)) = is
    by (inr (_, gt)) = absurd (omega (arith, le, gt))

pub le_false : (a b : ℕ) → b < a → nat_le a b ≡ false
le_false a b gt = by (leb_tells a b)
  where
    by : ((nat_le a b ≡ true) × (a ≤ b)) ⊎ ((nat_le a b ≡ false) × (b < a)) → nat_le a b ≡ false
    by (inl (_, le)) = absurd (omega (arith, le, gt))
    by (inr (is, _)) = is

-- nothing is beyond where no more was handed in than before
pub beyond_none : (before reached total : ℕ) → total ≤ before → beyond before reached total ≡ 0
beyond_none before reached total le = by (nat_le before reached)
  where
    by : (t : Bool) → (if t then total - before else 0) ≡ 0
    by true = omega (arith, le)
    by false = refl

pub beyond_under : (before reached total : ℕ) → reached < before → beyond before reached total ≡ 0
beyond_under before reached total less = ap (λ (t : Bool). if t then total - before else 0) (le_false before reached less)

pub beyond_over : (before reached total : ℕ) → before ≤ reached → beyond before reached total ≡ total - before
beyond_over before reached total le = ap (λ (t : Bool). if t then total - before else 0) (le_true before reached le)

-- a write goes on with what is left of the one before
pub fed_fed : (f : Feed) (x : List ℕ) (n m : ℕ) → n ≤ length x → fed (fed f x n) (drop n x) m ≡ fed f x (n + m)
fed_fed f x n m le =
    let s = sum f.sizes in
    let b = length f.bytes in
    let k = beyond s (b + n) (b + length x) in
    let reached : length (f.bytes ++ take n x) + m ≡ b + (n + m) = omega (arith, length-append f.bytes (take n x), length-take n x, le) in
    let total : length (f.bytes ++ take n x) + length (drop n x) ≡ b + length x = omega (arith, length-append f.bytes (take n x), length-take n x, length-drop n x, le) in
    let sum' : sum (f.sizes ++ one_block k) ≡ s + k = omega (arith, sum_append f.sizes (one_block k), sum_one_block k) in
    let sizes : handed_in (f.sizes ++ one_block k) (length (f.bytes ++ take n x) + m) (length (f.bytes ++ take n x) + length (drop n x))
    ≡ handed_in f.sizes (b + (n + m)) (b + length x) =
    ap₂ (λ (r t : ℕ). (f.sizes ++ one_block k) ++ one_block (beyond (sum (f.sizes ++ one_block k)) r t)) reached total
    ∙ ap (λ (t : ℕ). (f.sizes ++ one_block k) ++ one_block (beyond t (b + (n + m)) (b + length x))) sum'
    ∙ append_assoc f.sizes (one_block k) (one_block (beyond (s + k) (b + (n + m)) (b + length x)))
    ∙ ap (λ (l : List ℕ). f.sizes ++ l) (by s b (leb_tells s (b + n))) in
    let bytes : (f.bytes ++ take n x) ++ take m (drop n x) ≡ f.bytes ++ take (n + m) x =
    append_assoc f.bytes (take n x) (take m (drop n x)) ∙ ap (λ (l : List ℕ). f.bytes ++ l) (take_more n m x) in
    ap₂ (λ (a c : List ℕ). feed_with a (c) f.finished) sizes bytes
  where
    by : (s b : ℕ) → ((nat_le s (b + n) ≡ true) × (s ≤ b + n)) ⊎ ((nat_le s (b + n) ≡ false) × (b + n < s))
        → one_block (beyond s (b + n) (b + length x)) ++ one_block (beyond (s + beyond s (b + n) (b + length x)) (b + (n + m)) (b + length x))
        ≡ one_block (beyond s (b + (n + m)) (b + length x))
    by s b (inl (is, below)) =
        let k : beyond s (b + n) (b + length x) ≡ b + length x - s = beyond_over s (b + n) (b + length x) below in
        let none : beyond (s + beyond s (b + n) (b + length x)) (b + (n + m)) (b + length x) ≡ 0 =
        beyond_none (s + beyond s (b + n) (b + length x)) (b + (n + m)) (b + length x) (omega (arith, k, below, le)) in
        ap₂ (λ (u v : ℕ). one_block u ++ one_block v) k none ∙ append-nil (one_block (b + length x - s))
        ∙ ap one_block (sym (beyond_over s (b + (n + m)) (b + length x) (omega (arith, below))))
    by s b (inr (is, above)) =
        let k : beyond s (b + n) (b + length x) ≡ 0 = beyond_under s (b + n) (b + length x) above in
        let z : s + beyond s (b + n) (b + length x) ≡ s = omega (arith, k) in
        ap (λ (u : ℕ). one_block u ++ one_block (beyond (s + beyond s (b + n) (b + length x)) (b + (n + m)) (b + length x))) k
        ∙ ap (λ (u : ℕ). one_block (beyond u (b + (n + m)) (b + length x))) z
