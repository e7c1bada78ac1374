-- A part of a file, one read after another.
use Rattle.std.specs.Prelude.{Option, Some, None, IfSome}
use Rattle.std.proofs.Common.{◌≡◌, ℕ, ◌+◌, ◌-◌, ◌≤◌, List, ◌++◌, length, take, drop, refl, sym, ap, ap₂, ◌∙◌, subst, arith, length-drop, length-take, length-append}
use Rattle.std.proofs.lemmas.List.{take_at, take-append-le}
use Rattle.std.proofs.Math.Seq.{take-append-add}
use borrow.Rule.Slice.PartMut.{put_mid, post_of}
use Rattle.tow_faults.specs.Faults.{KeepsOtherFaults, NumberedFaults}
use Rattle.tow_wire.specs.Answers.{part_of}
use Rattle.tow_sending.proofs.Texts.{joined}

pub both_told : {A : Type 0} (o o' : Option A) (P Q R : A → Type 0) → o' ≡ o → IfSome o P → IfSome o' Q → ((a : A) → P a → Q a → R a) → IfSome o R
both_told None o' P Q R same p q both = tt
both_told {A} (Some a) o' P Q R same p q both = both a p (subst (λ (v : Option A). IfSome v Q) same q)

pub read_more : (to ys f : List ℕ) (got n from : ℕ) → got ≤ length to → n ≤ length ys → take got to ≡ part_of from got f
    → take n ys ≡ take n (drop (from + got) f) → take (got + n) (put_mid got (length to - got) to ys) ≡ part_of from (got + n) f
read_more to ys f got n from within few before now =
    let front : length (take got to) ≡ got = omega (arith, length-take got to, within) in
    let rest : List ℕ = post_of got (length to - got) to in
    ap (λ (k : ℕ). take (k + n) (take got to ++ (ys ++ rest))) (sym front)
    ∙ take-append-add (take got to) (ys ++ rest) n
    ∙ ap₂ (λ (a : List ℕ) (b : List ℕ). a ++ b) before (take-append-le n ys rest few ∙ now)
    ∙ joined f from got n

pub keeps_on : (a b c : NumberedFaults) (k : ℕ) → KeepsOtherFaults a b k → KeepsOtherFaults b c k → KeepsOtherFaults a c k
keeps_on a b c k first second = record {
  own = λ other apart. second.own other apart ∙ first.own other apart;
  shared = omega (arith, first.shared, second.shared);
}

pub keeps_same : (a : NumberedFaults) (k : ℕ) → KeepsOtherFaults a a k
keeps_same a k = record { own = λ other apart. refl; shared = omega arith }

pub len_kept : (to ys : List ℕ) (got : ℕ) → got ≤ length to → length ys ≡ length to - got → length (put_mid got (length to - got) to ys) ≡ length to
len_kept to ys got within len =
    let rest : length (post_of got (length to - got) to) ≡ 0 = omega (arith, length-drop (length to - got) (drop got to), length-drop got to) in
    length-append (take got to) (ys ++ post_of got (length to - got) to)
    ∙ ap (λ (k : ℕ). length (take got to) + k) (length-append ys (post_of got (length to - got) to))
    ∙ omega (arith, rest, len, within, length-take got to)

-- the front of a vector that was written through a slice of its front
pub front_of : (len count : ℕ) (ys rest items : List ℕ) → length ys ≡ count → length (ys ++ rest) ≡ len
    → take count (take len ((ys ++ rest) ++ drop (length (ys ++ rest)) items)) ≡ ys
front_of len count ys rest items part whole =
    ap (λ (l : List ℕ). take count l) (take_at (ys ++ rest) (drop (length (ys ++ rest)) items) len whole) ∙ take_at ys rest count part
