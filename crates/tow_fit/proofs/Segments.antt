-- The segments of a path.
use Rattle.std.specs.Prelude.{◌≡◌, ℕ, zero, suc, ◌+◌, ◌-◌, ◌<◌, ◌==◌, Bool, true, false, not, ◌&&◌, List, [], ◌∷◌, ◌++◌, length, map, get_or, take, drop, Option, Some, None, if◌then◌else◌}
use Rattle.std.proofs.Common.{refl, sym, ◌∙◌, ap, add-one, drop-cons, arith, rules}
use Rattle.std.proofs.lemmas.List.{take_all}
use Rattle.tow_fit.proofs.Slashes.{one_less}
use denote.Ref.{Bor}
use Rattle.tow_model.specs.declared.predicate.Segment.{Segment}
use Rattle.tow_model.specs.declared.predicate.Segment.TheVariants.{Fixed, Bind}
use Rattle.tow_language.specs.Shapes.{all_some, are_names_apart, before_brace, segment_of}
use Rattle.tow_fit.specs.Fitting.{is_bound_in}

first_apart : (part : Segment) (parts : List Segment) (t : Bool) → is_bound_in part parts ≡ t → are_names_apart (part ∷ parts) ≡ (not t && are_names_apart parts)
first_apart (Fixed bytes) parts true e = absurd cc
first_apart (Fixed bytes) parts false e = refl
first_apart (Bind name) parts t e = rw e

at_drop : (parts : List Segment) (i : ℕ) (d : Segment) → i < length parts → drop i parts ≡ get_or parts i d ∷ drop (i + 1) parts
at_drop parts i d lt = rw add-one (drop-cons parts i d lt)

-- the name of a part against those behind it
pub apart_at : (parts : List Segment) (i : ℕ) (d : Segment) (t : Bool) → i < length parts → is_bound_in (get_or parts i d) (drop (i + 1) parts) ≡ t →
    are_names_apart (drop i parts) ≡ (not t && are_names_apart (drop (i + 1) parts))
apart_at parts i d t lt e = ap are_names_apart (at_drop parts i d lt) ∙ first_apart (get_or parts i d) (drop (i + 1) parts) t e

-- segments that are all there
pub all_some_all : (parts : List Segment) → all_some (map (λ p. Some p) parts) ≡ Some parts
all_some_all [] = refl
all_some_all (p ∷ parts) = rw (all_some_all parts)

-- one that is none
pub all_some_none : {A B : Type 0} (f : A → Option B) (xs : List A) (i : ℕ) (d : A) → i < length xs → f (get_or xs i d) ≡ None → all_some (map f xs) ≡ None
all_some_none f [] i d lt e = absurd (omega arith)
all_some_none f (x ∷ xs) zero d lt e = rw e
all_some_none {B = B} f (x ∷ xs) (suc i) d lt e = without (f x) (all_some_none f xs i d (omega (arith, lt)) e)
  where
    without : (o : Option B) → all_some (map f xs) ≡ None → all_some (o ∷ map f xs) ≡ None
    without None g = refl
    without (Some y) g = rw g

pub each_segment : (pieces : List (Bor (List ℕ))) → map segment_of (map (λ x. x.now) pieces) ≡ map (λ x. segment_of x.now) pieces
each_segment [] = refl
each_segment (p ∷ pieces) = ap (λ k. segment_of p.now ∷ k) (each_segment pieces)

-- a last `}` goes
pub brace_last : (text : List ℕ) (b : ℕ) (t : Bool) → (b == 125) ≡ t → before_brace (text ++ b ∷ []) ≡ (if t then Some text else None)
brace_last [] b t e = rw e refl
brace_last (c ∷ []) b true e = rw e
brace_last (c ∷ []) b false e = rw e
brace_last (c ∷ d ∷ text) b true e = rw (brace_last (d ∷ text) b true e)
brace_last (c ∷ d ∷ text) b false e = rw (brace_last (d ∷ text) b false e)

split_last : (text : List ℕ) → 0 < length text → text ≡ take (length text - 1) text ++ get_or text (length text - 1) 0 ∷ []
split_last text some = sym (take_all (length text) text (omega arith)) ∙ one_less text (length text) some (omega arith)

pub none_before : (text : List ℕ) → length text ≡ 0 → before_brace text ≡ None
none_before [] e = refl
none_before (b ∷ text) e = absurd (omega (arith, e))

pub brace_before : (text : List ℕ) → 0 < length text → get_or text (length text - 1) 0 ≡ 125 → before_brace text ≡ Some (take (length text - 1) text)
brace_before text some is =
    let t : (get_or text (length text - 1) 0 == 125) ≡ true = search rules in
    ap before_brace (split_last text some) ∙ brace_last (take (length text - 1) text) (get_or text (length text - 1) 0) true t

pub other_before : (text : List ℕ) → 0 < length text → (get_or text (length text - 1) 0 ≡ 125 → ⊥) → before_brace text ≡ None
other_before text some is =
    let t : (get_or text (length text - 1) 0 == 125) ≡ false = search rules in
    ap before_brace (split_last text some) ∙ brace_last (take (length text - 1) text) (get_or text (length text - 1) 0) false t
