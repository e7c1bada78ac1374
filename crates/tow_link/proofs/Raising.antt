-- Raising the count of one name.
use Rattle.std.proofs.Common.{◌≡◌, ◌≢◌, ℕ, ◌-◌, ◌^◌, ◌≤◌, ◌<◌, suc, arith, List, [], ◌∷◌, ◌++◌, length, get_or, set, take, drop, map, Bool, true, false, refl, sym, ◌∙◌, ap, drop-cons, Option, None, Some, is_some, subst}
use Rattle.std.proofs.lemmas.List.{map-append, set_split}
use Rattle.std.specs.Prelude.{bytes_eq, unwrap_or}
use Rattle.std.proofs.lemmas.Slice.Eq.{bytes_eq-Decides}
use Rattle.tow_link.specs.Data.{raised, Rose}
use Rattle.tow_link.specs.Entries.{entry_at}
use Rattle.tow_link.specs.Counts.{Counts, count_at, own_counts, raised_at, KeepsOthers}

same_name : (name : List ℕ) → bytes_eq name name ≡ true
same_name name = (bytes_eq-Decides name name).1 refl

other_name : (xs ys : List ℕ) → (xs ≡ ys → ⊥) → bytes_eq xs ys ≡ false
other_name xs ys differs = here (bytes_eq xs ys) refl
  where
    here : (test : Bool) → bytes_eq xs ys ≡ test → test ≡ false
    here true is = absurd (differs ((bytes_eq-Decides xs ys).0 is))
    here false is = refl

-- the count of the name is one more
pub count_at-raised_at : (named : List (List ℕ × ℕ)) (name : List ℕ) → count_at (own_counts (raised_at named name)) name ≡ raised (count_at (own_counts named) name)
count_at-raised_at [] name = rw same_name refl
count_at-raised_at (entry ∷ rest) name = here (bytes_eq entry.0 name) refl (count_at-raised_at rest name)
  where
    here : (test : Bool) → bytes_eq entry.0 name ≡ test → count_at (own_counts (raised_at rest name)) name ≡ raised (count_at (own_counts rest) name) → count_at (own_counts (raised_at (entry ∷ rest) name)) name ≡ raised (count_at (own_counts (entry ∷ rest)) name)
    here true is further = rw (is, is) refl
    here false is further = rw (is, is) further

-- the entry of another name is as it was
pub entry_at-raised_at : (named : List (List ℕ × ℕ)) (name other : List ℕ) → other ≢ name → entry_at (raised_at named name) other ≡ entry_at named other
entry_at-raised_at [] name other differs = rw (other_name name other (λ same. differs (sym same))) refl
entry_at-raised_at (entry ∷ rest) name other differs = here (bytes_eq entry.0 name) (bytes_eq entry.0 other) refl refl (entry_at-raised_at rest name other differs)
  where
    here : (this that : Bool) → bytes_eq entry.0 name ≡ this → bytes_eq entry.0 other ≡ that → entry_at (raised_at rest name) other ≡ entry_at rest other → entry_at (raised_at (entry ∷ rest) name) other ≡ entry_at (entry ∷ rest) other
    here true true this that further = absurd (differs (sym ((bytes_eq-Decides entry.0 other).0 that) ∙ (bytes_eq-Decides entry.0 name).0 this))
    here true false this that further = rw (this, that) refl
    here false true this that further = rw (this, that) refl
    here false false this that further = rw (this, that) further

-- At a place before which no entry has the name, the entry that has it is raised. The entries are what f sees of a list.
pub raised_here : {X : Type 0} (f : X → List ℕ × ℕ) (xs : List X) (name : List ℕ) (i : ℕ) (x y : X) → i < length xs → x ≡ get_or xs i x → bytes_eq (f x).0 name ≡ true → f y ≡ ((f x).0, raised (f x).1) → raised_at (map f xs) name ≡ map f (take i xs) ++ raised_at (map f (drop i xs)) name → map f (set xs i y) ≡ raised_at (map f xs) name
raised_here f xs name i x y within is same raises so_far =
    let here : drop i xs ≡ x ∷ drop (suc i) xs = drop-cons xs i x within ∙ ap (λ z. z ∷ drop (suc i) xs) (sym is) in
    let rest : raised_at (map f (drop i xs)) name ≡ f y ∷ map f (drop (suc i) xs) = ap (λ l. raised_at (map f l) name) here ∙ rw same (ap (λ entry. entry ∷ map f (drop (suc i) xs)) (sym raises)) in
    ap (map f) (set_split xs i y within) ∙ map-append f (take i xs) (y ∷ drop (suc i) xs) ∙ ap (λ l. map f (take i xs) ++ l) (sym rest) ∙ sym so_far

-- the count of the name has not fallen
pub later_here : (named : List (List ℕ × ℕ)) (name : List ℕ) → count_at (own_counts named) name ≤ 2 ^ 64 - 1 → count_at (own_counts named) name ≤ count_at (own_counts (raised_at named name)) name
later_here named name fits = rw (count_at-raised_at named name) (omega (arith, fits))

-- the count of the name rose
pub rose_here : (named : List (List ℕ × ℕ)) (name : List ℕ) → Rose (count_at (own_counts named) name) (count_at (own_counts (raised_at named name)) name)
rose_here named name = rw (count_at-raised_at named name) (omega arith)

-- a name that has an entry keeps one
known_still : (named : List (List ℕ × ℕ)) (name : List ℕ) → is_some (entry_at (raised_at named name) name) ≡ true
known_still [] name = rw same_name refl
known_still (entry ∷ rest) name = here (bytes_eq entry.0 name) refl (known_still rest name)
  where
    here : (test : Bool) → bytes_eq entry.0 name ≡ test → is_some (entry_at (raised_at rest name) name) ≡ true → is_some (entry_at (raised_at (entry ∷ rest) name) name) ≡ true
    here true is further = rw (is, is) refl
    here false is further = rw (is, is) further

-- what stands for other names does not count for one that has an entry
own_count : (entry : Option ℕ) (others none : ℕ) → is_some entry ≡ true → unwrap_or entry others ≡ unwrap_or entry none
own_count None others none known = cc
own_count (Some count) others none known = refl

abbrev pub with_others : List (List ℕ × ℕ) → ℕ → Counts
with_others named others = record { named = named; others = others }

-- beside a number for all other names: the count of a name that has one rose
pub rose_known : (named : List (List ℕ × ℕ)) (others : ℕ) (name : List ℕ) → is_some (entry_at named name) ≡ true → Rose (count_at (with_others named others) name) (count_at (with_others (raised_at named name) others) name)
rose_known named others name known = rw (own_count (entry_at named name) others 0 known, own_count (entry_at (raised_at named name) name) others 0 (known_still named name)) (rose_here named name)

-- and no count has fallen
pub later_known : (named : List (List ℕ × ℕ)) (others : ℕ) (name : List ℕ) → is_some (entry_at named name) ≡ true → count_at (own_counts named) name ≤ 2 ^ 64 - 1 → (other : List ℕ) → count_at (with_others named others) other ≤ count_at (with_others (raised_at named name) others) other
later_known named others name known fits other = here (bytes_eq other name) refl
  where
    here : (test : Bool) → bytes_eq other name ≡ test → count_at (with_others named others) other ≤ count_at (with_others (raised_at named name) others) other
    here true is = subst (λ (n : List ℕ). count_at (with_others named others) n ≤ count_at (with_others (raised_at named name) others) n) (sym ((bytes_eq-Decides other name).0 is)) (rw (own_count (entry_at named name) others 0 known, own_count (entry_at (raised_at named name) name) others 0 (known_still named name)) (later_here named name fits))
    here false is = rw (entry_at-raised_at named name other (λ same. let yes = (bytes_eq-Decides other name).1 same in cc)) (omega arith)

-- a name that has no entry counts as all others do
pub other_count : (named : List (List ℕ × ℕ)) (others : ℕ) (name : List ℕ) → is_some (entry_at named name) ≡ false → count_at (with_others named others) name ≡ others
other_count named others name unknown = here (entry_at named name) unknown
  where
    here : (entry : Option ℕ) → is_some entry ≡ false → unwrap_or entry others ≡ others
    here None none = refl
    here (Some count) none = cc

-- and no count falls where the number for all others does not
pub later_others : (named : List (List ℕ × ℕ)) (before now : ℕ) (name : List ℕ) → before ≤ now → count_at (with_others named before) name ≤ count_at (with_others named now) name
later_others named before now name later = here (entry_at named name)
  where
    here : (entry : Option ℕ) → unwrap_or entry before ≤ unwrap_or entry now
    here None = later
    here (Some count) = omega arith

-- the other names are as they were
pub keeps_others : (named : List (List ℕ × ℕ)) (name : List ℕ) → KeepsOthers (own_counts named) (own_counts (raised_at named name)) name
keeps_others named name = record { named = entry_at-raised_at named name; others = omega arith }

pub keeps_all : (counts : Counts) (name : List ℕ) → KeepsOthers counts counts name
keeps_all counts name = record { named = λ other differs. refl; others = omega arith }
