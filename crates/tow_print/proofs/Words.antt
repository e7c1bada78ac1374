-- Bytes that may be one Word, a byte at a time; and bytes in a style.
use Rattle.std.proofs.Common.{◌≡◌, ℕ, suc, drop, ◌-◌, ◌<◌, List, [], ◌∷◌, ◌++◌, length, get_or, flat_map, map, codes, refl, sym, ap, ◌∙◌, arith, append_assoc, append-nil, map-id}
use Rattle.std.proofs.lemmas.Grind.{flat_map-append}
use Rattle.tow_language.specs.Tokens.{next_is, last_byte}
use Rattle.std.specs.List.{join_with_byte}
use Rattle.tow_language.specs.Printed.{joined_by, printed_block}
use Rattle.tow_print.specs.Parts.{parts_behind, before_part}
use Rattle.tow_print.specs.declared.printer.style.Style.{Style}
use Rattle.tow_print.specs.declared.printer.style.Style.TheVariants.{Bare, Quoted}
use Rattle.tow_print.specs.Words.{quoted_byte, bytes_in}

pub next_is_nil : (c : ℕ) (bs : List ℕ) → next_is c (bs ++ []) ≡ next_is c bs
next_is_nil c [] = refl
next_is_nil c (b ∷ bs) = refl

pub last_is : (before : ℕ) (bs : List ℕ) → 0 < length bs → last_byte before bs ≡ get_or bs (length bs - 1) 0
last_is before [] h = absurd (omega arith)
last_is before (b ∷ []) h = refl
last_is before (b ∷ c ∷ bs) h = last_is b (c ∷ bs) (omega arith) ∙ ap (λ i. get_or (b ∷ c ∷ bs) i 0) {x = suc (length (c ∷ bs) - 1)} {y = length (b ∷ c ∷ bs) - 1} (omega arith)

pub bytes_in_append : (s : Style) (a b : List ℕ) → bytes_in s (a ++ b) ≡ bytes_in s a ++ bytes_in s b
bytes_in_append Bare a b = refl
bytes_in_append Quoted a b = flat_map-append quoted_byte a b

-- texts in a row: the first, and each other behind what stands between
pub joined_is : {A : Type 0} (between : List ℕ) (f : A → List ℕ) (x : A) (xs : List A) →
    joined_by between (map f (x ∷ xs)) ≡ f x ++ flat_map (λ y. between ++ f y) xs
joined_is between f x [] = sym (append-nil (f x))
joined_is between f x (y ∷ xs) =
    ap (λ k. f x ++ (between ++ k)) (joined_is between f y xs) ∙ ap (λ k. f x ++ k) (sym (append_assoc between (f y) (flat_map (λ z. between ++ f z) xs)))

pub segments_are : {A : Type 0} (f : A → List ℕ) (x : A) (xs : List A) → join_with_byte 47 (map f (x ∷ xs)) ≡ f x ++ flat_map (λ y. 47 ∷ f y) xs
segments_are f x [] = sym (append-nil (f x))
segments_are f x (y ∷ xs) = ap (λ k. f x ++ (47 ∷ k)) (segments_are f y xs)

first_is : {A : Type 0} (x : A) (xs : List A) → 0 < length xs → x ≡ get_or xs 0 x → x ∷ drop 1 xs ≡ xs
first_is x [] h e = absurd (omega arith)
first_is x (y ∷ xs) h e = ap (λ z. z ∷ xs) e

-- the same of a row whose first is x
pub row_is : {A : Type 0} (between : List ℕ) (f : A → List ℕ) (x : A) (xs : List A) → 0 < length xs → x ≡ get_or xs 0 x →
    joined_by between (map f xs) ≡ f x ++ flat_map (λ y. between ++ f y) (drop 1 xs)
row_is between f x xs h e = ap (λ k. joined_by between (map f k)) (sym (first_is x xs h e)) ∙ joined_is between f x (drop 1 xs)

pub segment_row_is : {A : Type 0} (f : A → List ℕ) (x : A) (xs : List A) → 0 < length xs → x ≡ get_or xs 0 x →
    join_with_byte 47 (map f xs) ≡ f x ++ flat_map (λ y. 47 ∷ f y) (drop 1 xs)
segment_row_is f x xs h e = ap (λ k. join_with_byte 47 (map f k)) (sym (first_is x xs h e)) ∙ segments_are f x (drop 1 xs)

-- the parts of a block
pub one_more_part : (xs : List (List ℕ)) (y : List ℕ) → parts_behind (xs ++ y ∷ []) ≡ parts_behind xs ++ (before_part xs ++ y)
one_more_part [] y = ap (λ k. codes " " ++ k) (append-nil y)
one_more_part (x ∷ xs) y =
    ap (λ k. codes " " ++ (x ++ k)) (flat_map-append (λ t. codes "; " ++ t) xs (y ∷ []) ∙ ap (λ k. flat_map (λ t. codes "; " ++ t) xs ++ k) (append-nil (codes "; " ++ y)))
    ∙ ap (λ k. codes " " ++ k) (sym (append_assoc x (flat_map (λ t. codes "; " ++ t) xs) (codes "; " ++ y)))

pub before_more : (xs : List (List ℕ)) (y : List ℕ) → before_part (xs ++ y ∷ []) ≡ codes "; "
before_more [] y = refl
before_more (x ∷ xs) y = refl

pub block_is : (ss : List (List ℕ)) → printed_block ss ≡ codes "{" ++ (parts_behind ss ++ codes " }")
block_is [] = refl
block_is (s ∷ ss) =
    ap (λ k. codes "{ " ++ (k ++ codes " }")) (ap (joined_by (codes "; ")) (sym (map-id (s ∷ ss))) ∙ joined_is (codes "; ") (λ t. t) s ss)
