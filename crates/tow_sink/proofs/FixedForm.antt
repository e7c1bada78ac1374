-- The first bytes of a feed, as it goes on.
use Rattle.std.proofs.Common.{◌≡◌, ℕ, zero, suc, ◌+◌, ◌-◌, ◌<◌, ◌≤◌, Bool, true, false, List, [], ◌∷◌, ◌++◌, length, take, min, nat_le, if◌then◌else◌, refl, sym, ap, ap₂, ◌∙◌, arith, length-take, ◌⊎◌, inl, inr, append-nil}
use Rattle.std.specs.Prelude.{sum}
use Rattle.std.proofs.lemmas.Bool.Decides.{leb_tells}
use Rattle.std.proofs.lemmas.List.{take_all}
use Rattle.tow_sink.specs.Feeds.{Feed, Form, Feeding, IsLonger, IsGrowing, OpensAround, one_block, beyond, handed_in, fed, unfed}
use Rattle.tow_sink.specs.FixedFeeding.{cut_sizes, cut_feed, fixed, FeedsFixed}
use Rattle.tow_sink.proofs.Fronts.{feed_with, take_split, take_take, sum_cons}

cut_none : (b : List ℕ) → cut_sizes 0 b ≡ []
cut_none [] = refl
cut_none (x ∷ b) = refl

cut_append : (len : ℕ) (a b : List ℕ) → cut_sizes len (a ++ b) ≡ cut_sizes len a ++ cut_sizes (len - sum a) b
cut_append len [] b = let z : len ≡ len - 0 = omega arith in ap (λ (k : ℕ). cut_sizes k b) z
cut_append zero (x ∷ a) b = let z : 0 ≡ 0 - sum (x ∷ a) = omega arith in sym (cut_none b) ∙ ap (λ (k : ℕ). cut_sizes k b) z
cut_append (suc n) (x ∷ a) b =
    let r = sum_cons x a in
    let z : (suc n - x) - sum a ≡ suc n - sum (x ∷ a) = omega (arith, r) in
    ap (λ (l : List ℕ). min (suc n) x ∷ l) (cut_append (suc n - x) a b)
    ∙ ap (λ (k : ℕ). min (suc n) x ∷ (cut_sizes (suc n - x) a ++ cut_sizes k b)) z

cut_sum : (len : ℕ) (a : List ℕ) → sum (cut_sizes len a) ≡ min len (sum a)
cut_sum len [] = let z : sum (cut_sizes len []) ≡ 0 = refl in let y : sum [] ≡ 0 = refl in omega (arith, z, y)
cut_sum zero (x ∷ a) = let z : sum (cut_sizes zero (x ∷ a)) ≡ 0 = refl in omega (arith, z)
cut_sum (suc n) (x ∷ a) =
    let l = sum_cons (min (suc n) x) (cut_sizes (suc n - x) a) in
    let r = sum_cons x a in
    let e = cut_sum (suc n - x) a in omega (arith, l, r, e)

cut_one : (m k : ℕ) → cut_sizes m (one_block k) ≡ one_block (min m k)
cut_one m zero = let z : 0 ≡ min m 0 = omega arith in ap one_block z
cut_one zero (suc k) = let z : 0 ≡ min 0 (suc k) = omega arith in ap one_block z
cut_one (suc m) (suc k) = whole (min (suc m) (suc k)) (omega arith)
  where
    whole : (n : ℕ) → 0 < n → n ∷ cut_sizes (suc m - suc k) [] ≡ one_block n
    whole zero some = absurd (omega (arith, some))
    whole (suc n) some = refl

pub cut_longer : (len : ℕ) (f h : Feed) → IsLonger f h → IsLonger (cut_feed len f) (cut_feed len h)
cut_longer len f h l = record {
  unfinished = l.unfinished;
  sizes = (_, ap (cut_sizes len) l.sizes.1 ∙ cut_append len f.sizes l.sizes.0);
  bytes = (_, ap (take len) l.bytes.1 ∙ take_split len f.bytes l.bytes.0);
}

-- a feed that has the length already: more bytes are cut off
pub cut_same : (len : ℕ) (f h : Feed) → IsLonger f h → h.finished ≡ false → len ≤ sum f.sizes → len ≤ length f.bytes → cut_feed len h ≡ cut_feed len f
cut_same len f h l un sizes bytes =
    let s : cut_sizes len h.sizes ≡ cut_sizes len f.sizes =
    let z : len - sum f.sizes ≡ 0 = omega (arith, sizes) in
    ap (cut_sizes len) l.sizes.1 ∙ cut_append len f.sizes l.sizes.0
    ∙ ap (λ (k : ℕ). cut_sizes len f.sizes ++ cut_sizes k l.sizes.0) z
    ∙ ap (λ (t : List ℕ). cut_sizes len f.sizes ++ t) (cut_none l.sizes.0) ∙ append-nil (cut_sizes len f.sizes) in
    let b : take len h.bytes ≡ take len f.bytes =
    let z : len - length f.bytes ≡ 0 = omega (arith, bytes) in
    ap (take len) l.bytes.1 ∙ take_split len f.bytes l.bytes.0
    ∙ ap (λ (k : ℕ). take len f.bytes ++ take k l.bytes.0) z ∙ append-nil (take len f.bytes) in
    ap₂ (λ (x y : List ℕ). feed_with x (y) h.finished) s b
    ∙ ap (λ (t : Bool). feed_with (cut_sizes len f.sizes) (take len f.bytes) t) (un ∙ sym l.unfinished)

cut_beyond : (len before reached total : ℕ) → reached ≤ total
    → min (len - before) (beyond before reached total) ≡ beyond (min len before) (min len reached) (min len total)
cut_beyond len before reached total le = by (leb_tells before reached) (leb_tells (min len before) (min len reached))
  where
    by : ((nat_le before reached ≡ true) × (before ≤ reached)) ⊎ ((nat_le before reached ≡ false) × (reached < before))
        → ((nat_le (min len before) (min len reached) ≡ true) × (min len before ≤ min len reached)) ⊎ ((nat_le (min len before) (min len reached) ≡ false) × (min len reached < min len before))
        → min (len - before) (beyond before reached total) ≡ beyond (min len before) (min len reached) (min len total)
    by (inl (a, x)) (inl (b, y)) =
        let l = ap (λ (t : Bool). min (len - before) (if t then total - before else 0)) a in
        let r = ap (λ (t : Bool). if t then min len total - min len before else 0) b in
        let same : min (len - before) (total - before) ≡ min len total - min len before = omega (arith, le, x, y) in
        l ∙ same ∙ sym r
    by (inl (a, x)) (inr (b, y)) = absurd (omega (arith, x, y))
    by (inr (a, x)) (inl (b, y)) =
        let l = ap (λ (t : Bool). min (len - before) (if t then total - before else 0)) a in
        let r = ap (λ (t : Bool). if t then min len total - min len before else 0) b in
        let same : min (len - before) 0 ≡ min len total - min len before = omega (arith, le, x, y) in
        l ∙ same ∙ sym r
    by (inr (a, x)) (inr (b, y)) =
        let l = ap (λ (t : Bool). min (len - before) (if t then total - before else 0)) a in
        let r = ap (λ (t : Bool). if t then min len total - min len before else 0) b in
        let same : min (len - before) 0 ≡ 0 = omega arith in
        l ∙ same ∙ sym r

-- the first bytes of a feed after a write
pub fed_cut : (len left count : ℕ) (f : Feed) (from : List ℕ) → length f.bytes + left ≡ len → count ≤ length from
    → cut_feed len (fed f from count) ≡ fed (cut_feed len f) (take (min left (length from)) from) (min left count)
fed_cut len left count f from is le =
    let most = min left (length from) in
    let short : take len f.bytes ≡ f.bytes = take_all len f.bytes (omega (arith, is)) in
    let n : length (take len f.bytes) ≡ length f.bytes = ap (λ (l : List ℕ). length l) short in
    let m : length (take most from) ≡ most = omega (arith, length-take most from) in
    let reached : min len (length f.bytes + count) ≡ length (take len f.bytes) + min left count = omega (arith, is, n) in
    let total : min len (length f.bytes + length from) ≡ length (take len f.bytes) + length (take most from) = omega (arith, is, n, m) in
    let sizes : cut_sizes len (handed_in f.sizes (length f.bytes + count) (length f.bytes + length from))
    ≡ handed_in (cut_sizes len f.sizes) (length (take len f.bytes) + min left count) (length (take len f.bytes) + length (take most from)) =
    cut_append len f.sizes _
    ∙ ap (λ (t : List ℕ). cut_sizes len f.sizes ++ t) (cut_one (len - sum f.sizes) (beyond (sum f.sizes) (length f.bytes + count) (length f.bytes + length from)))
    ∙ ap (λ (k : ℕ). cut_sizes len f.sizes ++ one_block k)
    (cut_beyond len (sum f.sizes) (length f.bytes + count) (length f.bytes + length from) (omega (arith, le))
    ∙ ap₂ (λ (r t : ℕ). beyond (min len (sum f.sizes)) r t) reached total
    ∙ ap (λ (s : ℕ). beyond s (length (take len f.bytes) + min left count) (length (take len f.bytes) + length (take most from))) (sym (cut_sum len f.sizes))) in
    let bytes : take len (f.bytes ++ take count from) ≡ take len f.bytes ++ take (min left count) (take most from) =
    let z : len - length f.bytes ≡ left = omega (arith, is) in
    let w : min left count ≡ min (min left count) most = omega (arith, le) in
    take_split len f.bytes (take count from)
    ∙ ap (λ (k : ℕ). take len f.bytes ++ take k (take count from)) z
    ∙ ap (λ (l : List ℕ). take len f.bytes ++ l)
    (take_take left count from ∙ ap (λ (k : ℕ). take k from) w ∙ sym (take_take (min left count) most from)) in
    ap₂ (λ (x y : List ℕ). feed_with x (y) f.finished) sizes bytes

pub grows : (len : ℕ) (form : Form) → IsGrowing form → IsGrowing (fixed len form)
grows len form is = λ f h l. is (cut_feed len f) (cut_feed len h) (cut_longer len f h l)

pub opens : (inner : Feeding → Type 0) (len : ℕ) → OpensAround inner (fixed len) (FeedsFixed inner len)
opens inner len = λ form o. record {
  grows = grows len form o.grows;
  unfed = record {
    len = len;
    inner = unfed form;
    after = o.unfed;
    grows = o.grows;
    form = refl;
    feed = let e = sym (take_all len [] (omega arith)) in
        ap (λ (l : List ℕ). feed_with [] (l) false) e;
    put = refl;
    count = omega arith;
  };
}
