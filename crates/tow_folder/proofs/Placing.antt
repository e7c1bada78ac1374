-- Names in byte order, and where one more goes among them.
use Rattle.std.proofs.Common.{◌≡◌, ℕ, ◌+◌, ◌<◌, Bool, true, false, List, [], ◌∷◌, ◌++◌, length, get_or, take, drop, map, Option, None, Some, option_map, is_some, option_copied, Bor, refl, sym, ap, ap₂, ◌∙◌, if◌then◌else◌, arith, add-one, Less, Equal, Greater}
use Rattle.std.proofs.lemmas.Bool.Decides.{nat_tests}
use Rattle.std.proofs.lemmas.Cmp.{same_from_slice_cmp}
use Rattle.std.proofs.lemmas.List.{map-append, take-map, drop-map}
use Rattle.std.proofs.lemmas.Map.Text.{is_eq-slice_cmp}
use Rattle.std.specs.Cmp.Lexicographic.{slice_cmp}
use Rattle.std.specs.List.{insert}
use Rattle.std.specs.Option.{option_map_or}
use Rattle.std.specs.Ordering.{nat_cmp, is_lt, is_eq, MatchOrdering}
use Rattle.std.specs.Str.{bytes_eq}
use Rattle.std.specs.declared.cmp.Ordering.{Ordering}
use Rattle.tow_model.specs.Paths.{slash}
use Rattle.tow_model.specs.Texts.{Text, is_before, before, after}
use Rattle.tow_semantics.specs.Files.{Name, with_name}
use Rattle.tow_folder.specs.declared.answers.Name as answers
use Rattle.tow_folder.specs.Folders.{name_shown}
use Rattle.tow_folder.specs.Memory.{place_for, child_named}
use Rattle.tow_folder.proofs.Maps.{item_then}

-- THE PLACE

first_is : (a b : Text) (o : Ordering) → o ≡ slice_cmp nat_cmp a b → is_lt o ≡ is_before a b
first_is = same_from_slice_cmp nat_cmp is_lt is_before refl (λ _ _. refl) (λ _ _. refl) (λ x y xs ys o h. grind (arith, nat_tests))

same_is : (a b : Text) (o : Ordering) → o ≡ slice_cmp nat_cmp a b → is_eq o ≡ bytes_eq a b
same_is a b o e = ap is_eq e ∙ is_eq-slice_cmp a b

further : (n : ℕ) (place : Option ℕ) → option_map (λ p. p + n) (option_map (λ p. p + 1) place) ≡ option_map (λ p. p + (n + 1)) place
further n None = refl
further n (Some p) = let e : (p + 1) + n ≡ p + (n + 1) = omega arith in ap Some e

-- where the text goes, as tests on the first name tell
tested : (text : Text) (k : Name) (ks : List Name) (same first : Bool) → same ≡ bytes_eq text k.text → first ≡ is_before text k.text →
    place_for text (k ∷ ks) ≡ (if same then None else (if first then Some 0 else option_map (λ p. p + 1) (place_for text ks)))
tested text k ks same first s f =
    sym (ap₂ (λ (same first : Bool). if same then None else (if first then Some 0 else option_map (λ p. p + 1) (place_for text ks))) s f)

-- the same as their order tells
ordered : (text : Text) (k : Name) (ks : List Name) (o : Ordering) → o ≡ slice_cmp nat_cmp text k.text →
    MatchOrdering o (place_for text (k ∷ ks) ≡ Some 0) (place_for text (k ∷ ks) ≡ None)
    (place_for text (k ∷ ks) ≡ option_map (λ p. p + 1) (place_for text ks))
ordered text k ks Less e = tested text k ks false true (same_is text k.text Less e) (first_is text k.text Less e)
ordered text k ks Equal e = tested text k ks true false (same_is text k.text Equal e) (first_is text k.text Equal e)
ordered text k ks Greater e = tested text k ks false false (same_is text k.text Greater e) (first_is text k.text Greater e)

-- one name further on
pub place_step : (text : Text) (names : List answers.Name) (at : ℕ) (k : answers.Name) (other : Text) (o : Ordering) →
    at < length names → k ≡ get_or names at k → other ≡ k.text → o ≡ slice_cmp nat_cmp text other →
    place_for text (map name_shown names) ≡ option_map (λ p. p + at) (place_for text (map name_shown (drop at names))) →
    MatchOrdering o (Some at ≡ place_for text (map name_shown names)) (None ≡ place_for text (map name_shown names))
    (place_for text (map name_shown names) ≡ option_map (λ p. p + (at + 1)) (place_for text (map name_shown (drop (at + 1) names))))
place_step text names at k other o lt is t e far =
    by o (ordered text (name_shown k) (map name_shown (drop (at + 1) names)) o (e ∙ ap (slice_cmp nat_cmp text) t))
    (far ∙ ap (λ (ks : List answers.Name). option_map (λ p. p + at) (place_for text (map name_shown ks))) (item_then names at k lt is))
  where
    by : (o : Ordering) →
        MatchOrdering o (place_for text (name_shown k ∷ map name_shown (drop (at + 1) names)) ≡ Some 0)
        (place_for text (name_shown k ∷ map name_shown (drop (at + 1) names)) ≡ None)
        (place_for text (name_shown k ∷ map name_shown (drop (at + 1) names)) ≡ option_map (λ p. p + 1) (place_for text (map name_shown (drop (at + 1) names)))) →
        place_for text (map name_shown names) ≡ option_map (λ p. p + at) (place_for text (name_shown k ∷ map name_shown (drop (at + 1) names))) →
        MatchOrdering o (Some at ≡ place_for text (map name_shown names)) (None ≡ place_for text (map name_shown names))
        (place_for text (map name_shown names) ≡ option_map (λ p. p + (at + 1)) (place_for text (map name_shown (drop (at + 1) names))))
    by Less here far = let z : at ≡ 0 + at = omega arith in ap Some z ∙ sym (far ∙ ap (option_map (λ p. p + at)) here)
    by Equal here far = sym (far ∙ ap (option_map (λ p. p + at)) here)
    by Greater here far = far ∙ ap (option_map (λ p. p + at)) here ∙ further at (place_for text (map name_shown (drop (at + 1) names)))

-- THE NAME AT ITS PLACE

-- the names with one more put at its place
abbrev put_at : Name → List Name → Option ℕ → List Name
put_at n ks place = option_map_or (λ p. insert ks p n) place ks

put_behind : (n k : Name) (ks : List Name) (place : Option ℕ) → k ∷ put_at n ks place ≡ put_at n (k ∷ ks) (option_map (λ p. p + 1) place)
put_behind n k ks None = refl
put_behind n k ks (Some p) = rw add-one refl

put_is : (n : Name) (ks : List Name) → with_name n ks ≡ put_at n ks (place_for n.text ks)
put_is n [] = refl
put_is n (k ∷ ks) = by (bytes_eq n.text k.text) (is_before n.text k.text) (put_is n ks)
  where
    by : (same first : Bool) → with_name n ks ≡ put_at n ks (place_for n.text ks) →
        (if same then k ∷ ks else (if first then n ∷ k ∷ ks else k ∷ with_name n ks))
        ≡ put_at n (k ∷ ks) (if same then None else (if first then Some 0 else option_map (λ p. p + 1) (place_for n.text ks)))
    by true first rest = refl
    by false true rest = refl
    by false false rest = ap (λ (xs : List Name). k ∷ xs) rest ∙ put_behind n k ks (place_for n.text ks)

map_insert : (names : List answers.Name) (place : ℕ) (name : answers.Name) → map name_shown (insert names place name) ≡ insert (map name_shown names) place (name_shown name)
map_insert names place name =
    map-append name_shown (take place names) (name ∷ drop place names)
    ∙ ap₂ (λ (front back : List Name). front ++ name_shown name ∷ back) (sym (take-map name_shown place names)) (sym (drop-map name_shown place names))

pub is_some_copied : (r : Option (Bor Text)) (b : Bool) (rest : Option Text) → b ≡ is_some r → option_copied r ≡ rest → b ≡ is_some rest
is_some_copied None b rest e same = e ∙ ap is_some same
is_some_copied (Some x) b rest e same = e ∙ ap is_some same

-- a name that is there already changes nothing
pub name_kept : (names : List answers.Name) (rest text : Text) → text ≡ before slash rest → None ≡ place_for text (map name_shown names) →
    map name_shown names ≡ with_name (child_named rest) (map name_shown names)
name_kept names rest text t e =
    ap (put_at (child_named rest) (map name_shown names)) (e ∙ ap (λ (x : Text). place_for x (map name_shown names)) t)
    ∙ sym (put_is (child_named rest) (map name_shown names))

-- a new name is put at its place
pub name_put : (names items : List answers.Name) (rest : Text) (place : ℕ) (text : Text) (directory : Bool) →
    items ≡ insert names place (record { text = text; directory = directory }) → text ≡ before slash rest → directory ≡ is_some (after slash rest) →
    Some place ≡ place_for text (map name_shown names) → map name_shown items ≡ with_name (child_named rest) (map name_shown names)
name_put names items rest place text directory i t d e =
    ap (map name_shown) i ∙ map_insert names place (record { text = text; directory = directory })
    ∙ ap₂ (λ (x : Text) (y : Bool). insert (map name_shown names) place (record { text = x; directory = y })) t d
    ∙ ap (put_at (child_named rest) (map name_shown names)) (e ∙ ap (λ (x : Text). place_for x (map name_shown names)) t)
    ∙ sym (put_is (child_named rest) (map name_shown names))
