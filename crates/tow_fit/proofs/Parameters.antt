-- The written parameters of a call, one after the other.
use Rattle.std.specs.Prelude.{◌≡◌, ℕ, Bool, true, false, List, [], ◌∷◌, ◌++◌, map, length, bytes_eq, find, Option, Some, None, IfSome, is_some, option_map, slice_get, Result, Ok, Err, if◌then◌else◌}
use Rattle.std.specs.List.{list_any}
use Rattle.std.specs.Map.{lookup}
use Rattle.std.proofs.Common.{refl, sym, ◌∙◌, ap, subst, append_assoc, arith}
use Rattle.std.proofs.lemmas.Slice.Eq.{bytes_eq-Decides}
use Rattle.tow_language.specs.declared.table.Given.{Given}
use Rattle.tow_language.specs.declared.kind.Kind.TheVariants.{BadParameter}
use Rattle.tow_language.specs.Fit as fits
use Rattle.tow_language.specs.Fit.{TextFault, ◌>>=◌, wanted, place_of, given_of, gathered, unused, found_of}
use Rattle.tow_language.specs.Raw.{Written, RawValue, unnamed}
use Rattle.tow_language.specs.Table.{Parameter, takes_array}
use Rattle.tow_fit.specs.declared.fault.ParseFault.{ParseFault}
use Rattle.tow_fit.specs.declared.fitting.parameters.Found.{Found}
use Rattle.tow_fit.specs.Faults.{Fails, parse_fault}
use Rattle.tow_fit.specs.Fitting.{found_as, found_at, found_in, given_one, next_found}

-- FOUND BEFORE

found_is : (found : List Found) (name : List ℕ) → is_some (lookup (bytes_eq name) (map found_as found)) ≡ list_any (λ f. bytes_eq name f.row.name.now) found
found_is [] name = refl
found_is (f ∷ found) name = by_test (bytes_eq name f.row.name.now) refl (found_is found name)
  where
    by_test : (t : Bool) → bytes_eq name f.row.name.now ≡ t →
        is_some (lookup (bytes_eq name) (map found_as found)) ≡ list_any (λ f. bytes_eq name f.row.name.now) found →
        is_some (lookup (bytes_eq name) (map found_as (f ∷ found))) ≡ list_any (λ f. bytes_eq name f.row.name.now) (f ∷ found)
    by_test true e rest = rw e
    by_test false e rest = rw e rest

pub unused_is : (qs : List Parameter) (found : List Found) (name : List ℕ) (t : Bool) → t ≡ list_any (λ f. bytes_eq name f.row.name.now) found →
    unused qs (map found_as found) name ≡ (if t then None else find (λ (q : Parameter). bytes_eq q.name name) qs)
unused_is qs found name t e = ap (λ k. if k then None else find (λ (q : Parameter). bytes_eq q.name name) qs) (found_is found name ∙ sym e)

-- ONE MORE

pub one_then : (qs : List Parameter) (found : fits.Found) (p : Written × RawValue) (ps : List (Written × RawValue)) →
    found_of qs found (p ∷ ps) ≡ (next_found qs found p >>= λ x. found_of qs (found ++ x ∷ []) ps)
one_then qs found p ps = by_name (wanted (unused qs found p.0.bytes) BadParameter p.0.place)
  where
    by_value : (q : Parameter) (r : Result Given TextFault) → (r >>= λ g. found_of qs (found ++ (q.name, g) ∷ []) ps)
        ≡ ((r >>= λ g. Ok (q.name, g)) >>= λ x. found_of qs (found ++ x ∷ []) ps)
    by_value q (Ok g) = refl
    by_value q (Err e) = refl

    by_name : (r : Result Parameter TextFault) → (r >>= λ q. given_of q.shape p.1 >>= λ g. found_of qs (found ++ (q.name, g) ∷ []) ps)
        ≡ ((r >>= λ q. given_of q.shape p.1 >>= λ g. Ok (q.name, g)) >>= λ x. found_of qs (found ++ x ∷ []) ps)
    by_name (Ok q) = by_value q (given_of q.shape p.1)
    by_name (Err e) = refl

pub fails_then : {A B : Type 0} (e : ParseFault) (first : Result A TextFault) (rest : A → Result B TextFault) → Fails e first → Fails e (first >>= rest)
fails_then {A = A} {B = B} e first rest fails = by_fault (parse_fault e) fails
  where
    by_fault : (f : Option TextFault) → IfSome f (λ k. first ≡ Err k) → IfSome f (λ k. (first >>= rest) ≡ Err k)
    by_fault None is = tt
    by_fault (Some k) is = rw is

pub next_fits : (qs : List Parameter) (found : fits.Found) (p : Written × RawValue) (ps : List (Written × RawValue)) (x : List ℕ × Given) →
    next_found qs found p ≡ Ok x → found_of qs found (p ∷ ps) ≡ found_of qs (found ++ x ∷ []) ps
next_fits qs found p ps x e = one_then qs found p ps ∙ ap (λ r. r >>= λ y. found_of qs (found ++ y ∷ []) ps) e

pub next_fails : (qs : List Parameter) (found : fits.Found) (p : Written × RawValue) (ps : List (Written × RawValue)) (e : ParseFault) →
    Fails e (next_found qs found p) → Fails e (found_of qs found (p ∷ ps))
next_fails qs found p ps e fails =
    subst (λ k. Fails e k) (sym (one_then qs found p ps)) (fails_then e (next_found qs found p) (λ x. found_of qs (found ++ x ∷ []) ps) fails)

pub nothing_left : {A : Type 0} (xs : List A) → length xs ≡ 0 → xs ≡ []
nothing_left [] e = refl
nothing_left (x ∷ xs) e = absurd (omega (arith, e))

-- WITHOUT NAMES

same_name : (name : List ℕ) → bytes_eq name name ≡ true
same_name name = (bytes_eq-Decides name name).1 refl

one_pair : (q : Parameter) (qs : List Parameter) (place : ℕ) (v : RawValue) →
    found_of (q ∷ qs) [] ((record { bytes = q.name; place = place }, v) ∷ []) ≡ given_one q (Some v)
one_pair q qs place v = rw (same_name q.name)

first_of_all : (q : Parameter) (qs : List Parameter) (vs : List RawValue) → found_in (q ∷ qs) (unnamed vs) ≡ found_at q vs
first_of_all q qs [] = refl
first_of_all q qs (v ∷ []) = one_pair q qs (place_of v) v
first_of_all q qs (v ∷ w ∷ vs) = by_shape (takes_array q.shape) refl
  where
    by_array : (r : Result RawValue TextFault) →
        ((r >>= λ a. Ok ((record { bytes = q.name; place = place_of v }, a) ∷ [])) >>= λ pairs. found_of (q ∷ qs) [] pairs)
        ≡ ((r >>= λ a. Ok (Some a)) >>= given_one q)
    by_array (Ok a) = one_pair q qs (place_of v) a
    by_array (Err e) = refl

    by_shape : (t : Bool) → takes_array q.shape ≡ t → found_in (q ∷ qs) (unnamed (v ∷ w ∷ vs)) ≡ found_at q (v ∷ w ∷ vs)
    by_shape true e = rw e (by_array (gathered (place_of v) (v ∷ w ∷ vs)))
    by_shape false e = rw e

pub first_is : (qs : List Parameter) (q : Parameter) (vs : List RawValue) → Some q ≡ slice_get qs 0 → found_in qs (unnamed vs) ≡ found_at q vs
first_is [] q vs e = absurd cc
first_is (p ∷ qs) q vs e = let same : p ≡ q = cc in first_of_all p qs vs ∙ ap (λ k. found_at k vs) same

-- the texts of values that were gathered so far
pub gathered_more : (done : List Written) (w : Written) (rest : Option (List Written)) →
    option_map (λ more. done ++ more) (option_map (λ more. w ∷ more) rest) ≡ option_map (λ more. (done ++ w ∷ []) ++ more) rest
gathered_more done w None = refl
gathered_more done w (Some more) = ap (λ k. Some k) (sym (append_assoc done (w ∷ []) more))

pub gathered_none : (o : Option (List Written)) → o ≡ option_map (λ more. [] ++ more) o
gathered_none None = refl
gathered_none (Some more) = refl
