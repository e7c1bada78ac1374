-- What was found, as it is taken.
use Rattle.std.specs.Prelude.{◌≡◌, ℕ, zero, suc, ◌+◌, ◌<◌, Bool, true, false, not, ◌&&◌, ◌||◌, List, [], ◌∷◌, ◌++◌, length, map, get_or, take, drop, bytes_eq, Some, cond, Result, Ok, Err}
use Rattle.std.specs.List.{list_any}
use Rattle.std.specs.Map.{lookup}
use Rattle.std.specs.Option.{option_or}
use Rattle.std.proofs.Common.{refl, sym, ◌∙◌, ap, subst, add-one, drop-cons, arith}
use Rattle.std.proofs.lemmas.Slice.Eq.{bytes_eq-Decides}
use Rattle.tow_language.specs.declared.kind.Kind.TheVariants.{BadParameter}
use Rattle.tow_language.specs.declared.table.Given.{Given}
use Rattle.tow_language.specs.Fit as fits
use Rattle.tow_language.specs.Fit.{TextFault, ◌>>=◌, wanted, filled}
use Rattle.tow_language.specs.Raw.{RawParameters}
use Rattle.tow_language.specs.Table.{Parameter}
use Rattle.tow_fit.specs.declared.fitting.parameters.Found.{Found}
use Rattle.tow_fit.specs.Fitting.{found_as, found_in}
use Rattle.tow_fit.specs.declared.fault.ParseFault.{ParseFault}
use Rattle.tow_fit.specs.Faults.{Fails}
use Rattle.tow_fit.specs.Making.{are_apart, filled_one, givens_in}
use Rattle.tow_fit.proofs.Fields.{and_true}
use Rattle.tow_fit.proofs.Parameters.{fails_then}

abbrev names_of : Found → List ℕ
names_of found = found.row.name.now

-- what has another name stays where one is taken out
pub lookup_removed : (name : List ℕ) (found : List Found) (i : ℕ) (d : Found) → i < length found → bytes_eq name (names_of (get_or found i d)) ≡ false →
    lookup (bytes_eq name) (map found_as (take i found ++ drop (suc i) found)) ≡ lookup (bytes_eq name) (map found_as found)
lookup_removed name [] i d lt e = absurd (omega arith)
lookup_removed name (f ∷ found) zero d lt e = rw e
lookup_removed name (f ∷ found) (suc i) d lt e =
    ap (λ k. cond (bytes_eq name (names_of f)) (Some f.given) k) (lookup_removed name found i d (omega (arith, lt)) e)

-- the name of what is taken out is the one that was looked for
pub other_name : (name sought here : List ℕ) → bytes_eq name sought ≡ false → bytes_eq sought here ≡ true → bytes_eq name here ≡ false
other_name name sought here e same = ap (bytes_eq name) (sym ((bytes_eq-Decides sought here).0 same)) ∙ e

first_at : (found : List Found) (i : ℕ) (d : Found) → i < length found → drop i found ≡ get_or found i d ∷ drop (i + 1) found
first_at found i d lt = rw add-one (drop-cons found i d lt)

-- the first of what is left has the name
pub lookup_here : (name : List ℕ) (found : List Found) (i : ℕ) (d : Found) → i < length found → bytes_eq name (names_of (get_or found i d)) ≡ true →
    lookup (bytes_eq name) (map found_as (drop i found)) ≡ Some (get_or found i d).given
lookup_here name found i d lt e =
    ap (λ k. lookup (bytes_eq name) (map found_as k)) (first_at found i d lt)
    ∙ ap (λ t. cond t (Some (get_or found i d).given) (lookup (bytes_eq name) (map found_as (drop (i + 1) found)))) e

-- the first of what is left has another name
pub lookup_later : (name : List ℕ) (found : List Found) (i : ℕ) (d : Found) → i < length found → bytes_eq name (names_of (get_or found i d)) ≡ false →
    lookup (bytes_eq name) (map found_as (drop i found)) ≡ lookup (bytes_eq name) (map found_as (drop (i + 1) found))
lookup_later name found i d lt e =
    ap (λ k. lookup (bytes_eq name) (map found_as k)) (first_at found i d lt)
    ∙ ap (λ t. cond t (Some (get_or found i d).given) (lookup (bytes_eq name) (map found_as (drop (i + 1) found)))) e

-- ONE PARAMETER AFTER THE OTHER

pub filled_step : (q : Parameter) (qs : List Parameter) (found : fits.Found) (place : ℕ) (g : Given) (gs : List Given) →
    filled_one q found place ≡ Ok g → filled qs found place ≡ Ok gs → filled (q ∷ qs) found place ≡ Ok (g ∷ gs)
filled_step q qs found place g gs first rest =
    ap (λ r. r >>= λ g. filled qs found place >>= λ gs. Ok (g ∷ gs)) first ∙ ap (λ r. r >>= λ gs. Ok (g ∷ gs)) rest

pub first_fails : (q : Parameter) (qs : List Parameter) (found : fits.Found) (place : ℕ) (e : ParseFault) →
    Fails e (filled_one q found place) → Fails e (filled (q ∷ qs) found place)
first_fails q qs found place e fails = fails_then e (filled_one q found place) (λ g. filled qs found place >>= λ gs. Ok (g ∷ gs)) fails

pub rest_fails : (q : Parameter) (qs : List Parameter) (found : fits.Found) (place : ℕ) (g : Given) (e : ParseFault) →
    filled_one q found place ≡ Ok g → Fails e (filled qs found place) → Fails e (filled (q ∷ qs) found place)
rest_fails q qs found place g e first fails =
    subst (λ k. Fails e k) (sym (ap (λ r. r >>= λ g. filled qs found place >>= λ gs. Ok (g ∷ gs)) first))
    (fails_then e (filled qs found place) (λ gs. Ok (g ∷ gs)) fails)

-- what is found of the name is the same before and after others are taken
pub same_one : (q : Parameter) (found later : fits.Found) (place : ℕ) → lookup (bytes_eq q.name) later ≡ lookup (bytes_eq q.name) found →
    filled_one q found place ≡ filled_one q later place
same_one q found later place e = ap (λ o. wanted (option_or o q.default) BadParameter place) (sym e)

-- names that stand apart
pub apart_two : (a b : Parameter) → are_apart (a ∷ b ∷ []) ≡ true → bytes_eq b.name a.name ≡ false
apart_two a b e = by_test (bytes_eq b.name a.name) refl
  where
    by_test : (t : Bool) → bytes_eq b.name a.name ≡ t → t ≡ false
    by_test false f = refl
    by_test true f = let g : false ≡ true = sym (ap (λ t. not (t || false) && true) f) ∙ e in absurd cc

pub apart_rest : (a : Parameter) (qs : List Parameter) → are_apart (a ∷ qs) ≡ true → are_apart qs ≡ true
apart_rest a qs e = (and_true (not (list_any (λ (p : Parameter). bytes_eq p.name a.name) qs)) (are_apart qs) e).1

pub apart_third : (a b c : Parameter) → are_apart (a ∷ b ∷ c ∷ []) ≡ true → bytes_eq c.name a.name ≡ false
apart_third a b c e = by_tests (bytes_eq b.name a.name) (bytes_eq c.name a.name) ((and_true (not (bytes_eq b.name a.name || (bytes_eq c.name a.name || false))) (are_apart (b ∷ c ∷ [])) e).0)
  where
    by_tests : (s t : Bool) → not (s || (t || false)) ≡ true → t ≡ false
    by_tests true t f = absurd cc
    by_tests false true f = absurd cc
    by_tests false false f = refl

pub apart_second : (a b c : Parameter) → are_apart (a ∷ b ∷ c ∷ []) ≡ true → bytes_eq b.name a.name ≡ false
apart_second a b c e = by_tests (bytes_eq b.name a.name) (bytes_eq c.name a.name) ((and_true (not (bytes_eq b.name a.name || (bytes_eq c.name a.name || false))) (are_apart (b ∷ c ∷ [])) e).0)
  where
    by_tests : (s t : Bool) → not (s || (t || false)) ≡ true → s ≡ false
    by_tests true t f = absurd cc
    by_tests false t f = refl

-- as many as there are parameters
pub filled_length : (qs : List Parameter) (found : fits.Found) (place : ℕ) (gs : List Given) → filled qs found place ≡ Ok gs → length gs ≡ length qs
filled_length [] found place gs e = let same : [] ≡ gs = cc in sym (ap length same)
filled_length (q ∷ qs) found place gs e =
    by_first (filled_one q found place) (filled qs found place) (λ rest f. filled_length qs found place rest f) e
  where
    by_first : (r : Result Given TextFault) (s : Result (List Given) TextFault) → ((rest : List Given) → s ≡ Ok rest → length rest ≡ length qs) →
        (r >>= λ g. s >>= λ more. Ok (g ∷ more)) ≡ Ok gs → length gs ≡ suc (length qs)
    by_first (Err k) s rest f = absurd cc
    by_first (Ok g) (Err k) rest f = absurd cc
    by_first (Ok g) (Ok more) rest f = let same : (g ∷ more) ≡ gs = cc in sym (ap length same) ∙ ap suc (rest more refl)

pub givens_length : (qs : List Parameter) (place : ℕ) (ps : RawParameters) (gs : List Given) → givens_in qs place ps ≡ Ok gs → length gs ≡ length qs
givens_length qs place ps gs e = by_found (found_in qs ps) e
  where
    by_found : (r : Result fits.Found TextFault) → (r >>= λ found. filled qs found place) ≡ Ok gs → length gs ≡ length qs
    by_found (Ok found) f = filled_length qs found place gs f
    by_found (Err k) f = absurd cc
