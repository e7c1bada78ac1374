-- The bytes between two places of a store, after a read behind them.
use Rattle.std.proofs.Common.{◌≡◌, ℕ, ◌+◌, ◌-◌, ◌≤◌, List, ◌++◌, length, take, drop, sym, ap, ◌∙◌, arith, length-take, take_all, length-append, length-drop}
use Rattle.std.proofs.lemmas.List.{drop-take, drop-append-le, take-append-le, drop-drop}
use Rattle.std.specs.List.{copy_within}
use Rattle.std.proofs.lemmas.List.Edits.{length-paste, take-paste}
use Rattle.std.proofs.Math.Seq.{take-append-add}

-- dropping the front of what lies between two places moves the first of them
pub between_dropped : (from to n : ℕ) (store : List ℕ) → from + n ≤ to → drop n (take (to - from) (drop from store)) ≡ take (to - (from + n)) (drop (from + n) store)
between_dropped from to n store within =
    let more : to - from ≡ n + (to - (from + n)) = omega (arith, within) in
    ap (λ (k : ℕ). drop n (take k (drop from store))) more ∙ drop-take n (to - (from + n)) (drop from store)
    ∙ ap (take (to - (from + n))) (drop-drop n from store)

-- the bytes up to the second place stay, and the first ones of a piece that was read there are behind them
pub filled : (from to n : ℕ) (store piece rest : List ℕ) → from ≤ to → to ≤ length store → n ≤ length piece
    → take (to + n - from) (drop from (take to store ++ (piece ++ rest))) ≡ take (to - from) (drop from store) ++ take n piece
filled from to n store piece rest low high fits =
    let same : to ≡ from + (to - from) = omega (arith, low) in
    let count : to + n - from ≡ (to - from) + n = omega (arith, low) in
    let kept : drop from (take to store) ≡ take (to - from) (drop from store) =
    ap (λ (k : ℕ). drop from (take k store)) same ∙ drop-take from (to - from) store in
    let cut : drop from (take to store ++ (piece ++ rest)) ≡ take (to - from) (drop from store) ++ (piece ++ rest) =
    drop-append-le from (take to store) (piece ++ rest) (omega (arith, length-take to store, low, high)) ∙ ap (λ (l : List ℕ). l ++ (piece ++ rest)) kept in
    let long : length (take (to - from) (drop from store)) ≡ to - from =
    omega (arith, length-take (to - from) (drop from store), length-drop from store, low, high) in
    ap (λ (l : List ℕ). take (to + n - from) l) cut
    ∙ ap (λ (k : ℕ). take k (take (to - from) (drop from store) ++ (piece ++ rest))) (count ∙ ap (λ (k : ℕ). k + n) (sym long))
    ∙ take-append-add (take (to - from) (drop from store)) (piece ++ rest) n
    ∙ ap (λ (l : List ℕ). take (to - from) (drop from store) ++ l) (take-append-le n piece rest fits)

-- where nothing is added, what lies between the places is as it was
pub kept : (from to : ℕ) (store rest : List ℕ) → from ≤ to → to ≤ length store
    → take (to - from) (drop from (take to store ++ rest)) ≡ take (to - from) (drop from store)
kept from to store rest low high =
    let same : to ≡ from + (to - from) = omega (arith, low) in
    let front : drop from (take to store) ≡ take (to - from) (drop from store) =
    ap (λ (k : ℕ). drop from (take k store)) same ∙ drop-take from (to - from) store in
    let long : to - from ≤ length (take (to - from) (drop from store)) =
    omega (arith, length-take (to - from) (drop from store), length-drop from store, low, high) in
    ap (take (to - from)) (drop-append-le from (take to store) rest (omega (arith, length-take to store, low, high)) ∙ ap (λ (l : List ℕ). l ++ rest) front)
    ∙ take-append-le (to - from) (take (to - from) (drop from store)) rest long
    ∙ take_all (to - from) (take (to - from) (drop from store)) (omega (arith, length-take (to - from) (drop from store)))

-- what lies between two places, moved to the front
pub settled_length : (from to : ℕ) (store : List ℕ) → from ≤ to → to ≤ length store → length (copy_within store from to 0) ≡ length store
settled_length from to store low high = length-paste store 0 (drop from store) (to - from) (omega (arith, low, high)) (omega (arith, length-drop from store, low, high))

pub settled_view : (from to : ℕ) (store moved : List ℕ) → from ≤ to → to ≤ length store → moved ≡ copy_within store from to 0
    → take (to - from - 0) (drop 0 moved) ≡ take (to - from) (drop from store)
settled_view from to store moved low high is =
    let fits : to - from ≤ length (drop from store) = omega (arith, length-drop from store, low, high) in
    let count : to - from - 0 ≡ 0 + (to - from) = omega arith in
    ap (λ (k : ℕ). take k moved) count ∙ ap (take (0 + (to - from))) is ∙ take-paste store 0 (drop from store) (to - from) (omega arith) fits

-- the places are in order within the store, and between them stand the bytes
abbrev pub Stands : List ℕ → ℕ → ℕ → List ℕ → Type 0
Stands bytes from to store = (from ≤ to) × (to ≤ 65536) × (length store ≡ 65536) × (take (to - from) (drop from store) ≡ bytes)

-- the same after what stands there was moved to the front
pub stands_settled : (bytes : List ℕ) (from to : ℕ) (store moved : List ℕ) → Stands bytes from to store → moved ≡ copy_within store from to 0
    → Stands bytes 0 (to - from) moved
stands_settled bytes from to store moved s is =
    let high : to ≤ length store = omega (arith, s.1, s.2) in (
      omega arith,
      omega (arith, s.1),
      ap length is ∙ settled_length from to store s.0 high ∙ s.2,
      settled_view from to store moved s.0 high is ∙ s.3,
    )

-- what was read behind the second place
pub gained : (bytes : List ℕ) (from to n : ℕ) (store now piece rest : List ℕ) → Stands bytes from to store → now ≡ store → n ≤ length piece
    → take (to + n - from) (drop from (take to now ++ (piece ++ rest))) ≡ bytes ++ take n piece
gained bytes from to n store now piece rest s is fits =
    filled from to n now piece rest s.0 (omega (arith, s.1, s.2, ap length is)) fits
    ∙ ap (λ (l : List ℕ). take (to - from) (drop from l) ++ take n piece) is ∙ ap (λ (l : List ℕ). l ++ take n piece) s.3

-- nothing was read behind it
pub stays : (bytes : List ℕ) (from to : ℕ) (store now piece rest : List ℕ) → Stands bytes from to store → now ≡ store
    → take (to - from) (drop from (take to now ++ (piece ++ rest))) ≡ bytes
stays bytes from to store now piece rest s is =
    kept from to now (piece ++ rest) s.0 (omega (arith, s.1, s.2, ap length is)) ∙ ap (λ (l : List ℕ). take (to - from) (drop from l)) is ∙ s.3

-- a part that is written over by another of its length leaves the whole as long as it was
pub whole_length : (to : ℕ) (now piece store : List ℕ) (len : ℕ) → length now ≡ 65536 → length piece ≡ length (take (65536 - to) (drop to now)) → length now ≡ len
    → length (take to now ++ (piece ++ drop (65536 - to) (drop to now))) ≡ len
whole_length to now piece store len is same total =
    omega (
      arith,
      is,
      same,
      total,
      length-append (take to now) (piece ++ drop (65536 - to) (drop to now)),
      length-append piece (drop (65536 - to) (drop to now)),
      length-take to now,
      length-take (65536 - to) (drop to now),
      length-drop to now,
      length-drop (65536 - to) (drop to now),
    )
