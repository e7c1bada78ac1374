-- The names of a directory are in order, and are those of its children.
use Rattle.std.proofs.Common.{◌≡◌, ℕ, Bool, true, false, ◌&&◌, ◌||◌, ◌==◌, nat_lt, nat_eq, List, [], ◌∷◌, refl, sym, ap, ◌∙◌, arith, if◌then◌else◌}
use Rattle.std.proofs.lemmas.Bool.Decides.{nat_tests}
use Rattle.std.proofs.lemmas.Slice.Eq.{bytes_eq-Decides}
use Rattle.std.specs.Prelude.{filter_map}
use Rattle.std.specs.List.{list_all}
use Rattle.std.specs.Str.{bytes_eq}
use Rattle.tow_model.specs.Texts.{Text, is_before}
use Rattle.tow_semantics.specs.Files.{Name, child_of, with_name, in_order}
use Rattle.tow_semantics.specs.Laws.{are_in_order, is_named_among, ListingsAreNames}

-- BYTE ORDER

other_first : (d c : ℕ) (same ab ba : Bool) → (same ≡ false → ab ≡ false → ba ≡ true) →
    (nat_eq d c && same) ≡ false → (nat_lt d c || (d == c && ab)) ≡ false → (nat_lt c d || (c == d && ba)) ≡ true
other_first d c true true ba rest differ late = grind (arith, nat_tests)
other_first d c true false ba rest differ late = grind (arith, nat_tests)
other_first d c false true ba rest differ late = grind (arith, nat_tests)
other_first d c false false ba rest differ late = let last = rest refl refl in grind (arith, nat_tests, last)

-- of two texts that differ, one is first
one_is_first : (a b : Text) → bytes_eq a b ≡ false → is_before a b ≡ false → is_before b a ≡ true
one_is_first [] [] differ late = sym differ
one_is_first [] (c ∷ b) differ late = absurd (cc)
one_is_first (d ∷ a) [] differ late = refl
one_is_first (d ∷ a) (c ∷ b) differ late = other_first d c (bytes_eq a b) (is_before a b) (is_before b a) (one_is_first a b) differ late

later : (d c e : ℕ) (ab bc ac : Bool) → (ab ≡ true → bc ≡ true → ac ≡ true) →
    (nat_lt d c || (d == c && ab)) ≡ true → (nat_lt c e || (c == e && bc)) ≡ true → (nat_lt d e || (d == e && ac)) ≡ true
later d c e true true ac rest first second = let last = rest refl refl in grind (arith, nat_tests, last)
later d c e true false ac rest first second = grind (arith, nat_tests)
later d c e false true ac rest first second = grind (arith, nat_tests)
later d c e false false ac rest first second = grind (arith, nat_tests)

before_later : (a b c : Text) → is_before a b ≡ true → is_before b c ≡ true → is_before a c ≡ true
before_later a b [] first second = second
before_later [] b (e ∷ c) first second = refl
before_later (d ∷ a) [] (e ∷ c) first second = absurd (cc)
before_later (d ∷ a) (k ∷ b) (e ∷ c) first second = later d k e (is_before a b) (is_before b c) (is_before a c) (before_later a b c) first second

-- THE NAMES

both : (a b : Bool) → a ≡ true → b ≡ true → (a && b) ≡ true
both true true l r = refl
both true false l r = r
both false b l r = l

left_of : (a b : Bool) → (a && b) ≡ true → a ≡ true
left_of true b is = refl
left_of false b is = is

right_of : (a b : Bool) → (a && b) ≡ true → b ≡ true
right_of true b is = is
right_of false b is = absurd (cc)

-- what holds of a name and of all others holds with that one among them
all_with : (p : Name → Bool) (n : Name) (ks : List Name) → p n ≡ true → list_all p ks ≡ true → list_all p (with_name n ks) ≡ true
all_with p n [] here rest = both (p n) true here refl
all_with p n (k ∷ ks) here rest =
    by (bytes_eq n.text k.text) (is_before n.text k.text) (all_with p n ks here (right_of (p k) (list_all p ks) rest))
  where
    by : (same first : Bool) → list_all p (with_name n ks) ≡ true → list_all p (if same then k ∷ ks else (if first then n ∷ k ∷ ks else k ∷ with_name n ks)) ≡ true
    by true first others = rest
    by false true others = both (p n) (list_all p (k ∷ ks)) here rest
    by false false others = both (p k) (list_all p (with_name n ks)) (left_of (p k) (list_all p ks) rest) others

all_later : (n k : Name) (ks : List Name) → is_before n.text k.text ≡ true →
    list_all (λ j. is_before k.text j.text) ks ≡ true → list_all (λ j. is_before n.text j.text) ks ≡ true
all_later n k [] first all = refl
all_later n k (j ∷ ks) first all =
    both (is_before n.text j.text) (list_all (λ i. is_before n.text i.text) ks)
    (before_later n.text k.text j.text first (left_of (is_before k.text j.text) (list_all (λ i. is_before k.text i.text) ks) all))
    (all_later n k ks first (right_of (is_before k.text j.text) (list_all (λ i. is_before k.text i.text) ks) all))

order_with : (n : Name) (ks : List Name) → are_in_order ks ≡ true → are_in_order (with_name n ks) ≡ true
order_with n [] all = refl
order_with n (k ∷ ks) all =
    by (bytes_eq n.text k.text) (is_before n.text k.text) refl refl
    (order_with n ks (right_of (list_all (λ j. is_before k.text j.text) ks) (are_in_order ks) all))
  where
    by : (same first : Bool) → bytes_eq n.text k.text ≡ same → is_before n.text k.text ≡ first → are_in_order (with_name n ks) ≡ true →
        are_in_order (if same then k ∷ ks else (if first then n ∷ k ∷ ks else k ∷ with_name n ks)) ≡ true
    by true first s f others = all
    by false true s f others =
        both (list_all (λ j. is_before n.text j.text) (k ∷ ks)) (are_in_order (k ∷ ks))
        (both (is_before n.text k.text) (list_all (λ j. is_before n.text j.text) ks) f
        (all_later n k ks f (left_of (list_all (λ j. is_before k.text j.text) ks) (are_in_order ks) all))) all
    by false false s f others =
        both (list_all (λ j. is_before k.text j.text) (with_name n ks)) (are_in_order (with_name n ks))
        (all_with (λ j. is_before k.text j.text) n ks (one_is_first n.text k.text s f)
        (left_of (list_all (λ j. is_before k.text j.text) ks) (are_in_order ks) all))
        others

ordered : (ns : List Name) → are_in_order (in_order ns) ≡ true
ordered [] = refl
ordered (n ∷ ns) = order_with n (in_order ns) (ordered ns)

twice : (a b : Bool) → (a || b) ≡ (a || (a || b))
twice true b = refl
twice false b = refl

turned : (a b c : Bool) → (a || (b || c)) ≡ (b || (a || c))
turned true true c = refl
turned true false c = refl
turned false b c = refl

named_with : (text : Text) (n : Name) (ks : List Name) → is_named_among text (with_name n ks) ≡ (bytes_eq n.text text || is_named_among text ks)
named_with text n [] = refl
named_with text n (k ∷ ks) = by (bytes_eq n.text k.text) (is_before n.text k.text) refl (named_with text n ks)
  where
    by : (same first : Bool) → bytes_eq n.text k.text ≡ same →
        is_named_among text (with_name n ks) ≡ (bytes_eq n.text text || is_named_among text ks) →
        is_named_among text (if same then k ∷ ks else (if first then n ∷ k ∷ ks else k ∷ with_name n ks))
        ≡ (bytes_eq n.text text || is_named_among text (k ∷ ks))
    by true first s others =
        let same : n.text ≡ k.text = (bytes_eq-Decides n.text k.text).0 s in
        twice (bytes_eq k.text text) (is_named_among text ks)
        ∙ ap (λ (t : Text). bytes_eq t text || is_named_among text (k ∷ ks)) (sym same)
    by false true s others = refl
    by false false s others =
        ap (λ (b : Bool). bytes_eq k.text text || b) others
        ∙ turned (bytes_eq k.text text) (bytes_eq n.text text) (is_named_among text ks)

named_in : (text : Text) (ns : List Name) → is_named_among text (in_order ns) ≡ is_named_among text ns
named_in text [] = refl
named_in text (n ∷ ns) = named_with text n (in_order ns) ∙ ap (λ (b : Bool). bytes_eq n.text text || b) (named_in text ns)

pub listings_are_names : ListingsAreNames
listings_are_names files directory = record {
  in_order = ordered (filter_map (child_of directory) files);
  children = λ text. named_in text (filter_map (child_of directory) files);
}
