-- Two lists of the same names, each in order, are the same.
use Rattle.std.proofs.Common.{◌≡◌, ℕ, ◌+◌, ◌≤◌, ◌<◌, Bool, true, false, not, ◌&&◌, ◌||◌, ◌==◌, nat_lt, List, [], ◌∷◌, length, get_or, map, refl, sym, ap, ap₂, ◌∙◌, arith, suc, subst, cond, if◌then◌else◌, IsPermutation}
use Rattle.std.proofs.lemmas.Cmp.{nat_cmp_total}
use Rattle.std.proofs.lemmas.Slice.Eq.{bytes_eq-Decides}
use Rattle.std.proofs.lemmas.List.Sums.{sum_by-cons}
use Rattle.std.proofs.lemmas.List.Sorted.{sum_by-IsPermutation, length_permutation, sorted_far, IsPermutation-map, IsPermutation-trans, ranks_by}
use Rattle.std.specs.Cmp.{IsStrictWeakOrder}
use Rattle.std.specs.Cmp.Lexicographic.{lists_total, slice_cmp}
use Rattle.std.specs.Ordering.{is_lt, nat_cmp, ordering_then}
use Rattle.std.specs.declared.cmp.Ordering.TheVariants.{Less, Equal, Greater}
use Rattle.std.specs.List.{list_all, sum_by}
use Rattle.std.specs.List.Sorted.{IsSortedBy}
use Rattle.std.specs.Str.{bytes_eq}
use Rattle.tow_model.specs.Texts.{Text, is_before}
use Rattle.tow_folder.specs.declared.answers.Name.{Name as Given}
use Rattle.tow_folder.specs.Folders.{name_shown}
use Rattle.tow_semantics.specs.Files.{Name}
use Rattle.tow_semantics.specs.Laws.{are_in_order}
use Rattle.tow_page.specs.Answers.{AreOrdered}

-- BYTE ORDER

pub before_is : (a b : Text) → is_lt (slice_cmp nat_cmp a b) ≡ is_before a b
before_is [] [] = refl
before_is [] (c ∷ b) = refl
before_is (d ∷ a) [] = refl
before_is (d ∷ a) (c ∷ b) = by (nat_lt d c) (d == c) (before_is a b)
  where
    by : (less same : Bool) → is_lt (slice_cmp nat_cmp a b) ≡ is_before a b → is_lt (ordering_then (cond less Less (cond same Equal Greater)) (slice_cmp nat_cmp a b)) ≡ (less || (same && is_before a b))
    by true same h = refl
    by false true h = h
    by false false h = refl

-- the first name comes before the second
abbrev pub is_first : Given → Given → Bool
is_first x y = is_lt (slice_cmp nat_cmp x.text y.text)

pub is_order : IsStrictWeakOrder is_first
is_order = ranks_by (lists_total nat_cmp_total) (λ n. n.text)

-- NAMES

both : (a b : Bool) → a ≡ true → b ≡ true → (a && b) ≡ true
both true b l r = r
both false b l r = l

left_of : (a b : Bool) → (a && b) ≡ true → a ≡ true
left_of true b is = refl
left_of false b is = is

right_of : (a b : Bool) → (a && b) ≡ true → b ≡ true
right_of true b is = is
right_of false b is = absurd (cc)

abbrev agree : Bool → Bool → Bool
agree a b = if a then b else not b

agree_is : (a b : Bool) → agree a b ≡ true → a ≡ b
agree_is true b is = sym is
agree_is false true is = is
agree_is false false is = refl

agree_self : (a : Bool) → agree a a ≡ true
agree_self true = refl
agree_self false = refl

abbrev same : Name → Name → Bool
same a b = bytes_eq a.text b.text && agree a.directory b.directory

same_is : (a b : Name) → same a b ≡ true → a ≡ b
same_is a b is =
    ap₂ (λ (t : Text) (d : Bool). record { text = t; directory = d })
    ((bytes_eq-Decides a.text b.text).0 (left_of (bytes_eq a.text b.text) (agree a.directory b.directory) is))
    (agree_is a.directory b.directory (right_of (bytes_eq a.text b.text) (agree a.directory b.directory) is))

same_self : (a : Name) → same a a ≡ true
same_self a = both (bytes_eq a.text a.text) (agree a.directory a.directory) ((bytes_eq-Decides a.text a.text).1 refl) (agree_self a.directory)

-- how often a name stands at a place
abbrev one : Name → Name → ℕ
one a k = if same a k then 1 else 0

-- what holds of all names holds of one that stands among them
found : (p : Name → Bool) (a : Name) (ks : List Name) → list_all p ks ≡ true → 0 < sum_by (one a) ks → p a ≡ true
found p a [] all some = absurd (omega arith)
found p a (k ∷ ks) all some = by (same a k) refl (subst (λ n. 0 < n) (sum_by-cons (one a) k ks) some) (found p a ks (right_of (p k) (list_all p ks) all))
  where
    by : (t : Bool) → same a k ≡ t → 0 < (if t then 1 else 0) + sum_by (one a) ks → (0 < sum_by (one a) ks → p a ≡ true) → p a ≡ true
    by true e some h = ap p (same_is a k e) ∙ left_of (p k) (list_all p ks) all
    by false e some h = h (omega (arith, some))

-- none comes before one that stands before it
abbrev ascend : List Name → Bool
ascend [] = true
ascend (y ∷ ys) = list_all (λ k. not (is_before k.text y.text)) ys && ascend ys

counted : (a k : Name) (t : Bool) → same a k ≡ t → one a k ≡ (if t then 1 else 0)
counted a k t e = ap (λ (b : Bool). if b then 1 else 0) e

equal : (ns ys : List Name) → are_in_order ns ≡ true → ascend ys ≡ true → length ys ≡ length ns →
    ((a : Name) → sum_by (one a) ys ≡ sum_by (one a) ns) → ys ≡ ns
equal [] [] all up long sums = refl
equal [] (y ∷ ys) all up long sums = absurd (omega (arith, long))
equal (n ∷ ns) [] all up long sums = absurd (omega (arith, long))
equal (n ∷ ns) (y ∷ ys) all up long sums =
    let split : (a : Name) → one a y + sum_by (one a) ys ≡ one a n + sum_by (one a) ns =
    λ a. sym (sum_by-cons (one a) y ys) ∙ sums a ∙ sum_by-cons (one a) n ns in
    by split (same n y) (same y n) refl refl
    (λ e. equal ns ys (right_of (list_all (λ k. is_before n.text k.text) ns) (are_in_order ns) all)
    (right_of (list_all (λ k. not (is_before k.text y.text)) ys) (ascend ys) up) (omega (arith, long))
    (λ a. let here : one a y ≡ one a n = ap (one a) e in let s = split a in omega (arith, here, s)))
  where
    later : list_all (λ k. is_before n.text k.text) ns ≡ true
    later = left_of (list_all (λ k. is_before n.text k.text) ns) (are_in_order ns) all

    above : list_all (λ k. not (is_before k.text y.text)) ys ≡ true
    above = left_of (list_all (λ k. not (is_before k.text y.text)) ys) (ascend ys) up

    both_are : (y ≡ n → ys ≡ ns) → y ≡ n → y ∷ ys ≡ n ∷ ns
    both_are rest e = ap₂ (λ (k : Name) (ks : List Name). k ∷ ks) e (rest e)

    clash : (b : Bool) → b ≡ true → not b ≡ true → y ∷ ys ≡ n ∷ ns
    clash true here there = absurd (cc)
    clash false here there = absurd (cc)

    by : ((a : Name) → one a y + sum_by (one a) ys ≡ one a n + sum_by (one a) ns) → (t u : Bool) → same n y ≡ t → same y n ≡ u → (y ≡ n → ys ≡ ns) → y ∷ ys ≡ n ∷ ns
    by split true u e f rest = both_are rest (sym (same_is n y e))
    by split false true e f rest = both_are rest (same_is y n f)
    by split false false e f rest =
        let of_y = split y in let y_here = counted y y true (same_self y) in let y_not = counted y n false f in
        let of_n = split n in let n_here = counted n n true (same_self n) in let n_not = counted n y false e in
        clash (is_before n.text y.text)
        (found (λ k. is_before n.text k.text) y ns later (omega (arith, of_y, y_here, y_not)))
        (found (λ k. not (is_before k.text y.text)) n ys above (omega (arith, of_n, n_here, n_not)))

-- FROM A SORT

all_from : (p : Name → Bool) (xs : List Given) → ((j : ℕ) (d : Given) → j < length xs → p (name_shown (get_or xs j d)) ≡ true) →
    list_all p (map name_shown xs) ≡ true
all_from p [] all = refl
all_from p (x ∷ xs) all =
    both (p (name_shown x)) (list_all p (map name_shown xs)) (all 0 x (omega arith)) (all_from p xs (λ j d within. all (suc j) d (omega (arith, within))))

ascends : (xs : List Given) → ((i j : ℕ) (d : Given) → i ≤ j → j < length xs → is_first (get_or xs j d) (get_or xs i d) ≡ false) →
    ascend (map name_shown xs) ≡ true
ascends [] far = refl
ascends (x ∷ xs) far =
    both (list_all (λ k. not (is_before k.text x.text)) (map name_shown xs)) (ascend (map name_shown xs))
    (all_from (λ k. not (is_before k.text x.text)) xs
    (λ j d within. ap not (sym (before_is (get_or xs j d).text x.text) ∙ far 0 (suc j) d (omega arith) (omega (arith, within)))))
    (ascends xs (λ i j d le within. far (suc i) (suc j) d (omega (arith, le)) (omega (arith, within))))

-- names that were sorted are in their order
pub ordered : (xs ys : List Given) → IsSortedBy is_first ys → IsPermutation xs ys → AreOrdered (map name_shown xs) (map name_shown ys)
ordered xs ys sorted moved ns all given =
    let whole = IsPermutation-trans ns (map name_shown xs) (map name_shown ys) given (IsPermutation-map name_shown xs ys moved) in
    equal ns (map name_shown ys) all (ascends ys (sorted_far is_first is_order ys sorted))
    (length_permutation ns (map name_shown ys) whole) (λ a. sum_by-IsPermutation (one a) ns (map name_shown ys) whole)
