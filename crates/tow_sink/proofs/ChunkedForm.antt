-- The chunks of a feed, as it goes on.
use Rattle.std.proofs.Common.{◌≡◌, ℕ, zero, suc, ◌+◌, ◌-◌, ◌<◌, ◌≤◌, Bool, true, false, nat_le, if◌then◌else◌, List, [], ◌∷◌, ◌++◌, length, take, drop, refl, sym, ap, ap₂, ◌∙◌, subst, arith, append_assoc, append-nil, length-append, length-take, length-drop, take-append-drop, take_all, ◌⊎◌, inl, inr}
use Rattle.std.specs.Prelude.{sum}
use Rattle.std.proofs.lemmas.List.{take-append-le}
use Rattle.std.proofs.lemmas.Bool.Decides.{leb_tells}
use Rattle.httparse.specs.Ascii.{crlf_bytes}
use Rattle.tow_model.specs.Lists.{IsPrefix}
use Rattle.tow_wire.specs.Answers.{last_chunk}
use Rattle.tow_sink.specs.Feeds.{Feed, Feeding, IsLonger, OpensAroundBytes, unfed}
use Rattle.tow_sink.specs.ChunkedFeeding.{size_line, chunks, chunked_text, text_feed, chunked, UnderWay, FeedsChunked}
use Rattle.tow_sink.proofs.Fronts.{front_same, front_then, take_split, sum_cons, le_true, le_false, clash}

drop_split : (n : ℕ) (a b : List ℕ) → n ≤ length a → drop n (a ++ b) ≡ drop n a ++ b
drop_split zero a b le = refl
drop_split (suc n) [] b le = absurd (omega (arith, le))
drop_split (suc n) (x ∷ a) b le = drop_split n a b (omega (arith, le))

chunks_front : (s r b q : List ℕ) → IsPrefix (chunks s b) (chunks (s ++ r) (b ++ q))
chunks_front [] r b q = (_, refl)
chunks_front (x ∷ s) r b q = by (leb_tells x (length b)) (leb_tells x (length (b ++ q))) (chunks_front s r (drop x b) q)
  where
    body : (t : Bool) (ss : List ℕ) (bs : List ℕ) → List ℕ
    body t ss bs = size_line x ++ (if t then take x bs ++ crlf_bytes ++ chunks ss (drop x bs) else bs)

    by : ((nat_le x (length b) ≡ true) × (x ≤ length b)) ⊎ ((nat_le x (length b) ≡ false) × (length b < x))
        → ((nat_le x (length (b ++ q)) ≡ true) × (x ≤ length (b ++ q))) ⊎ ((nat_le x (length (b ++ q)) ≡ false) × (length (b ++ q) < x))
        → IsPrefix (chunks s (drop x b)) (chunks (s ++ r) (drop x b ++ q))
        → IsPrefix (chunks (x ∷ s) b) (chunks (x ∷ (s ++ r)) (b ++ q))
    by (inl (is, le)) (inr (nay, gt)) later = absurd (omega (arith, le, gt, length-append b q))
    by (inl (is, le)) (inl (also, _)) later = (
      later.0,
      ap (λ (t : Bool). size_line x ++ (if t then take x (b ++ q) ++ crlf_bytes ++ chunks (s ++ r) (drop x (b ++ q)) else b ++ q)) also
          ∙ ap₂ (λ (u v : List ℕ). size_line x ++ (u ++ crlf_bytes ++ chunks (s ++ r) v)) (take-append-le x b q le) (drop_split x b q le)
          ∙ ap (λ (l : List ℕ). size_line x ++ (take x b ++ crlf_bytes ++ l)) later.1
          ∙ inside (size_line x) (take x b) crlf_bytes (chunks s (drop x b)) later.0
          ∙ ap (λ (t : Bool). (size_line x ++ (if t then take x b ++ crlf_bytes ++ chunks s (drop x b) else b)) ++ later.0) (sym is),
    )
      where
        inside : (l t c f g : List ℕ) → l ++ ((t ++ c) ++ (f ++ g)) ≡ (l ++ ((t ++ c) ++ f)) ++ g
        inside l t c f g = ap (λ (z : List ℕ). l ++ z) (sym (append_assoc (t ++ c) f g)) ∙ sym (append_assoc l ((t ++ c) ++ f) g)
    by (inr (is, gt)) (inr (nay, _)) later = (
      q,
      ap (λ (t : Bool). size_line x ++ (if t then take x (b ++ q) ++ crlf_bytes ++ chunks (s ++ r) (drop x (b ++ q)) else b ++ q)) nay
          ∙ sym (append_assoc (size_line x) b q)
          ∙ ap (λ (t : Bool). (size_line x ++ (if t then take x b ++ crlf_bytes ++ chunks s (drop x b) else b)) ++ q) (sym is),
    )
    by (inr (is, gt)) (inl (reaches, _)) later =
        let more = take (x - length b) q in
        let rest = crlf_bytes ++ chunks (s ++ r) (drop x (b ++ q)) in
        let front : take x (b ++ q) ≡ b ++ more = take_split x b q ∙ ap (λ (l : List ℕ). l ++ more) (take_all x b (omega (arith, gt))) in (
          more ++ rest,
          ap (λ (t : Bool). size_line x ++ (if t then take x (b ++ q) ++ crlf_bytes ++ chunks (s ++ r) (drop x (b ++ q)) else b ++ q)) reaches
              ∙ ap (λ (l : List ℕ). size_line x ++ l) (append_assoc (take x (b ++ q)) crlf_bytes (chunks (s ++ r) (drop x (b ++ q))))
              ∙ ap (λ (l : List ℕ). size_line x ++ (l ++ rest)) front
              ∙ ap (λ (l : List ℕ). size_line x ++ l) (append_assoc b more rest)
              ∙ sym (append_assoc (size_line x) b (more ++ rest))
              ∙ ap (λ (t : Bool). (size_line x ++ (if t then take x b ++ crlf_bytes ++ chunks s (drop x b) else b)) ++ (more ++ rest)) (sym is),
        )

-- blocks that are fed whole, and then others
pub chunks_append : (s r a b : List ℕ) → length a ≡ sum s → chunks (s ++ r) (a ++ b) ≡ chunks s a ++ chunks r b
chunks_append [] r [] b is = refl
chunks_append [] r (x ∷ a) b is = absurd (let z : sum [] ≡ 0 = refl in omega (arith, is, z))
chunks_append (x ∷ s) r a b is =
    let n = sum_cons x s in
    let fits : x ≤ length a = omega (arith, is, n) in
    let fits' : x ≤ length (a ++ b) = omega (arith, fits, length-append a b) in
    let later = chunks_append s r (drop x a) b (omega (arith, length-drop x a, is, n)) in
    ap (λ (t : Bool). size_line x ++ (if t then take x (a ++ b) ++ crlf_bytes ++ chunks (s ++ r) (drop x (a ++ b)) else a ++ b)) (le_true x (length (a ++ b)) fits')
    ∙ ap₂ (λ (u v : List ℕ). size_line x ++ (u ++ crlf_bytes ++ chunks (s ++ r) v)) (take-append-le x a b fits) (drop_split x a b fits)
    ∙ ap (λ (l : List ℕ). size_line x ++ (take x a ++ crlf_bytes ++ l)) later
    ∙ inside (size_line x) (take x a) crlf_bytes (chunks s (drop x a)) (chunks r b)
    ∙ ap (λ (t : Bool). (size_line x ++ (if t then take x a ++ crlf_bytes ++ chunks s (drop x a) else a)) ++ chunks r b) (sym (le_true x (length a) fits))
  where
    inside : (l t c f g : List ℕ) → l ++ ((t ++ c) ++ (f ++ g)) ≡ (l ++ ((t ++ c) ++ f)) ++ g
    inside l t c f g = ap (λ (z : List ℕ). l ++ z) (sym (append_assoc (t ++ c) f g)) ∙ sym (append_assoc l ((t ++ c) ++ f) g)

pub one_open : (size : ℕ) (y : List ℕ) → length y < size → chunks (size ∷ []) y ≡ size_line size ++ y
one_open size y less =
    ap (λ (t : Bool). size_line size ++ (if t then take size y ++ crlf_bytes ++ chunks [] (drop size y) else y)) (le_false size (length y) less)

one_whole : (size : ℕ) (y : List ℕ) → size ≡ length y → chunks (size ∷ []) y ≡ size_line size ++ (y ++ crlf_bytes)
one_whole size y is =
    ap (λ (t : Bool). size_line size ++ (if t then take size y ++ crlf_bytes ++ chunks [] (drop size y) else y)) (le_true size (length y) (omega (arith, is)))
    ∙ ap (λ (l : List ℕ). size_line size ++ ((l ++ crlf_bytes) ++ [])) (take_all size y (omega (arith, is)))
    ∙ ap (λ (l : List ℕ). size_line size ++ l) (append-nil (y ++ crlf_bytes))

-- the line end after bytes that fill the block under way
abbrev pub closing : ℕ → List ℕ → List ℕ
closing zero x = []
closing (suc n) x = if nat_le (suc n) (length x) then crlf_bytes else []

pub closing_start : (x : List ℕ) → closing 0 x ≡ []
closing_start x = refl

pub closing_nothing : (left : ℕ) → closing left [] ≡ []
closing_nothing zero = refl
closing_nothing (suc n) = ap (λ (t : Bool). if t then crlf_bytes else []) (le_false (suc n) 0 (omega arith))

pub closing_none : (left : ℕ) (x : List ℕ) → length x < left → closing left x ≡ []
closing_none zero x less = absurd (omega (arith, less))
closing_none (suc n) x less = ap (λ (t : Bool). if t then crlf_bytes else []) (le_false (suc n) (length x) less)

pub closing_all : (left : ℕ) (x : List ℕ) → 0 < left → left ≤ length x → closing left x ≡ crlf_bytes
closing_all zero x some le = absurd (omega (arith, some))
closing_all (suc n) x some le = ap (λ (t : Bool). if t then crlf_bytes else []) (le_true (suc n) (length x) le)

-- more bytes of the block under way, up to its end
pub chunks_more : (sizes bytes x : List ℕ) (left : ℕ) → (0 < left → UnderWay sizes bytes left) → length x ≤ left
    → chunks sizes (bytes ++ x) ≡ chunks sizes bytes ++ (x ++ closing left x)
chunks_more sizes bytes [] zero under fits = ap (chunks sizes) (append-nil bytes) ∙ sym (append-nil (chunks sizes bytes))
chunks_more sizes bytes (c ∷ x) zero under fits = absurd (omega (arith, fits))
chunks_more sizes bytes x (suc n) under fits = on (under (omega arith)) (leb_tells (suc n) (length x))
  where
    on : UnderWay sizes bytes (suc n) → ((nat_le (suc n) (length x) ≡ true) × (suc n ≤ length x)) ⊎ ((nat_le (suc n) (length x) ≡ false) × (length x < suc n))
        → chunks sizes (bytes ++ x) ≡ chunks sizes bytes ++ (x ++ closing (suc n) x)
    on u ends = by ends
      where
        m : ℕ
        m = sum u.before

        a : List ℕ
        a = take m bytes

        b : List ℕ
        b = drop m bytes

        fits' : m ≤ length bytes
        fits' = omega (arith, u.all, u.within)

        first : length a ≡ m
        first = omega (arith, length-take m bytes, fits')

        second : length b + suc n ≡ u.size
        second = omega (arith, length-drop m bytes, u.all, fits')

        split : (y : List ℕ) → chunks sizes (bytes ++ y) ≡ chunks u.before a ++ chunks (u.size ∷ []) (b ++ y)
        split y =
            ap₂ (λ (s l : List ℕ). chunks s l) u.blocks
            (ap (λ (l : List ℕ). l ++ y) (sym (take-append-drop m bytes)) ∙ append_assoc a b y)
            ∙ chunks_append u.before (u.size ∷ []) a (b ++ y) first

        base : chunks sizes bytes ≡ chunks u.before a ++ (size_line u.size ++ b)
        base =
            ap (chunks sizes) (sym (append-nil bytes)) ∙ split []
            ∙ ap (λ (l : List ℕ). chunks u.before a ++ chunks (u.size ∷ []) l) (append-nil b)
            ∙ ap (λ (l : List ℕ). chunks u.before a ++ l) (one_open u.size b (omega (arith, second)))

        regroup : (p s d y c : List ℕ) → p ++ (s ++ ((d ++ y) ++ c)) ≡ (p ++ (s ++ d)) ++ (y ++ c)
        regroup p s d y c = simp append_assoc

        regroup_open : (p s d y : List ℕ) → p ++ (s ++ (d ++ y)) ≡ (p ++ (s ++ d)) ++ y
        regroup_open p s d y = simp append_assoc

        by : ((nat_le (suc n) (length x) ≡ true) × (suc n ≤ length x)) ⊎ ((nat_le (suc n) (length x) ≡ false) × (length x < suc n))
            → chunks sizes (bytes ++ x) ≡ chunks sizes bytes ++ (x ++ closing (suc n) x)
        by (inl (_, le)) =
            let whole : u.size ≡ length (b ++ x) = omega (arith, length-append b x, second, le, fits) in
            split x
            ∙ ap (λ (l : List ℕ). chunks u.before a ++ l) (one_whole u.size (b ++ x) whole)
            ∙ regroup (chunks u.before a) (size_line u.size) b x crlf_bytes
            ∙ ap₂ (λ (l k : List ℕ). l ++ (x ++ k)) (sym base) (sym (closing_all (suc n) x (omega arith) le))
        by (inr (_, less)) =
            let open' : length (b ++ x) < u.size = omega (arith, length-append b x, second, less) in
            split x
            ∙ ap (λ (l : List ℕ). chunks u.before a ++ l) (one_open u.size (b ++ x) open')
            ∙ regroup_open (chunks u.before a) (size_line u.size) b x
            ∙ ap₂ (λ (l k : List ℕ). l ++ k) (sym base) (sym (append-nil x) ∙ ap (λ (k : List ℕ). x ++ k) (sym (closing_none (suc n) x less)))

pub text_longer : (f h : Feed) → IsLonger f h → IsLonger (text_feed f) (text_feed h)
text_longer f h l = record {
  unfinished = l.unfinished;
  sizes = ([], refl);
  bytes = front_then (chunked_text f) (chunks h.sizes h.bytes) (chunked_text h)
      (subst (λ (t : Bool). IsPrefix (chunks f.sizes f.bytes ++ (if t then last_chunk else [])) (chunks h.sizes h.bytes)) (sym l.unfinished)
      (subst (λ (z : List ℕ). IsPrefix z (chunks h.sizes h.bytes)) (sym (append-nil (chunks f.sizes f.bytes)))
      (front_same (chunks f.sizes f.bytes) (chunks (f.sizes ++ l.sizes.0) (f.bytes ++ l.bytes.0)) (chunks h.sizes h.bytes)
      (chunks_front f.sizes l.sizes.0 f.bytes l.bytes.0)
      (ap₂ (λ (u v : List ℕ). chunks u v) (sym l.sizes.1) (sym l.bytes.1)))))
      (_, refl);
}

pub opens : (inner : Feeding → Type 0) → OpensAroundBytes inner chunked (FeedsChunked inner [] 0 false)
opens inner = λ form o of_bytes. record {
  grows = λ f h l. o.grows (text_feed f) (text_feed h) (text_longer f h l);
  unfed = record {
    inner = unfed form;
    after = o.unfed;
    grows = o.grows;
    of_bytes = of_bytes;
    form = refl;
    put = refl;
    text = refl;
    left = refl;
    under = λ some. absurd (omega (arith, some));
    rest = λ a b. (2, refl);
    ended = refl;
    unfinished = λ no. absurd (clash no);
  };
}
