-- What the bytes of an attribute mean.
use Rattle.std.specs.Prelude.{◌≡◌, ◌⊎◌, ℕ, ◌-◌, ◌<◌, Bool, true, false, ◌||◌, ◌==◌, List, [], ◌∷◌, ◌++◌, length, take, drop, Option, None, Some, option_map, if◌then◌else◌, bytes_eq, slice_index, slice_range}
use Rattle.std.specs.List.{list_all}
use Rattle.std.specs.Map.{lookup}
use Rattle.std.proofs.Common.{refl, sym, ◌∙◌, ap, subst, arith, rules}
use Rattle.std.proofs.Math.Bool.{and-false}
use mathlib.Core.Logic.{inl, inr}
use Rattle.tow_model.specs.declared.attribute.Attribute.{Attribute}
use Rattle.tow_model.specs.declared.attribute.Attribute.TheVariants.{Context}
use Rattle.tow_model.specs.declared.attribute.Piece.TheVariants.{Literal, Value}
use Rattle.tow_language.specs.Templates.{by_letter, by_word, by_kind, any_named, in_percent_brace, piece_of}
use Rattle.tow_language.specs.Laws.{IsFormOf}
use Rattle.tow_language.proofs.Cut.{sigil}
use Rattle.tow_attr.proofs.Shapes.{IsShape, two, braced, same_number, is_inside}

-- the bytes without the last
abbrev pub without_last : ℕ → List ℕ → List ℕ
without_last b [] = []
without_last b (c ∷ cs) = b ∷ without_last c cs

without_last_is : (d : ℕ) (more : List ℕ) → without_last d more ≡ take (length more) (d ∷ more)
without_last_is d [] = refl
without_last_is d (c ∷ more) = ap (λ k. d ∷ k) (without_last_is c more)

without_last_added : (d : ℕ) (more : List ℕ) (b : ℕ) → without_last d (more ++ b ∷ []) ≡ d ∷ more
without_last_added d [] b = refl
without_last_added d (c ∷ more) b = ap (λ k. d ∷ k) (without_last_added c more b)

abbrev pub meaning : ℕ → List ℕ → Option Attribute
meaning s inside = if s == 36 then option_map Context (any_named inside) else in_percent_brace inside

longer_is : (s c d : ℕ) (more : List ℕ) → piece_of (s ∷ c ∷ d ∷ more) ≡ option_map Value (meaning s (without_last d more))
longer_is s c d more = refl

-- the piece of a form in braces
pub braced_is : (s : ℕ) (inside : List ℕ) → piece_of (s ∷ 123 ∷ (inside ++ 125 ∷ [])) ≡ option_map Value (meaning s inside)
braced_is s [] = longer_is s 123 125 []
braced_is s (d ∷ inside) = longer_is s 123 d (inside ++ 125 ∷ []) ∙ ap (λ k. option_map Value (meaning s k)) (without_last_added d inside 125)

-- the same as the code cuts it
pub longer_spelled : (spelled : List ℕ) → 2 < length spelled →
    piece_of spelled ≡ option_map Value (meaning (slice_index spelled 0) (slice_range spelled 2 (length spelled - 1)))
longer_spelled [] lt = absurd (omega (arith, lt))
longer_spelled (s ∷ []) lt = absurd (omega (arith, lt))
longer_spelled (s ∷ c ∷ []) lt = absurd (omega (arith, lt))
longer_spelled (s ∷ c ∷ d ∷ more) lt =
    let n : length more ≡ length (s ∷ c ∷ d ∷ more) - 1 - 2 = omega arith in
    longer_is s c d more ∙ ap (λ k. option_map Value (meaning s k)) (without_last_is d more ∙ ap (λ k. take k (d ∷ more)) n)

pub two_spelled : (spelled : List ℕ) → length spelled ≡ 2 → (slice_index spelled 1 ≡ 37 → ⊥) →
    piece_of spelled ≡ option_map Value (lookup (λ k. k == slice_index spelled 1) by_letter)
two_spelled [] e ne = absurd (omega (arith, e))
two_spelled (s ∷ []) e ne = absurd (omega (arith, e))
two_spelled (s ∷ c ∷ d ∷ more) e ne = absurd (omega (arith, e))
two_spelled (s ∷ c ∷ []) e ne =
    let f : (c == 37) ≡ false = search rules in
    ap (λ t. if t then Some (Literal (37 ∷ [])) else option_map Value (lookup (λ k. k == c) by_letter)) f

mapped_value : (o : Option Attribute) (a : Attribute) → option_map Value o ≡ Some (Value a) → o ≡ Some a
mapped_value None a e = absurd cc
mapped_value (Some b) a e = ap (λ k. Some k) (let f : Some (Value b) ≡ Some (Value a) = e in let g : b ≡ a = cc in g)

mapped_literal : (o : Option Attribute) (bytes : List ℕ) → option_map Value o ≡ Some (Literal bytes) → ⊥
mapped_literal None bytes e = cc
mapped_literal (Some b) bytes e = cc

some_none : (o : Option Attribute) (a : Attribute) → o ≡ None → o ≡ Some a → ⊥
some_none o a e f = let g : None ≡ Some a = sym e ∙ f in cc

-- no letter is a brace or `%`
letter_other : (c : ℕ) (a : Attribute) (n : ℕ) → lookup (λ k. k == n) by_letter ≡ None → lookup (λ k. k == c) by_letter ≡ Some a → (c == n) ≡ false
letter_other c a n none some = by_test (c == n) refl
  where
    by_test : (t : Bool) → (c == n) ≡ t → t ≡ false
    by_test false e = refl
    by_test true e = absurd (some_none _ a (ap (λ m. lookup (λ k. k == m) by_letter) (same_number c n e) ∙ none) some)

-- no word has a comma as its second byte
word_no_comma : (inside : List ℕ) (a : Attribute) → lookup (bytes_eq inside) by_word ≡ Some a → (slice_index inside 1 == 44) ≡ false
word_no_comma [] a e = refl
word_no_comma (x ∷ []) a e = refl
word_no_comma (x ∷ y ∷ more) a e = by_test (y == 44) refl
  where
    none : lookup (bytes_eq (x ∷ 44 ∷ more)) by_word ≡ None
    none = simp and-false

    by_test : (t : Bool) → (y == 44) ≡ t → t ≡ false
    by_test false f = refl
    by_test true f = absurd (some_none _ a (ap (λ k. lookup (bytes_eq (x ∷ k ∷ more)) by_word) (same_number y 44 f) ∙ none) e)

abbrev IsFormed : Attribute → List ℕ → Type 0
IsFormed a spelled = IsShape spelled × (piece_of spelled ≡ Some (Value a))

braced_form : (a : Attribute) (s : ℕ) (inside spelled : List ℕ) → (s == 37 || s == 36) ≡ true → list_all is_inside inside ≡ true →
    spelled ≡ s ∷ 123 ∷ (inside ++ 125 ∷ []) → meaning s inside ≡ Some a → IsFormed a spelled
braced_form a s inside spelled e n f m =
    subst (IsFormed a) (sym f) (braced s inside e n, braced_is s inside ∙ ap (λ k. option_map Value k) m)

-- each form is a shape with that meaning
pub form_is : (a : Attribute) (spelled : List ℕ) → IsFormOf a spelled → IsFormed a spelled
form_is a spelled (inl (c, e, l)) =
    let brace = letter_other c a 123 refl l in
    let percent = letter_other c a 37 refl l in
    let piece : piece_of (37 ∷ c ∷ []) ≡ Some (Value a) =
    ap (λ t. if t then Some (Literal (37 ∷ [])) else option_map Value (lookup (λ k. k == c) by_letter)) percent ∙ ap (λ k. option_map Value k) l in
    subst (IsFormed a) (sym e) (two c brace, piece)
form_is a spelled (inr (inside, n, inl (e, inl w))) =
    braced_form a 37 inside spelled refl n e (ap (λ t. if t then by_kind (take 1 inside) (drop 2 inside) else lookup (bytes_eq inside) by_word) (word_no_comma inside a w) ∙ w)
form_is a spelled (inr (inside, n, inl (e, inr (kind, name, f, g)))) =
    braced_form a 37 inside spelled refl n e (ap in_percent_brace f ∙ g)
form_is a spelled (inr (inside, n, inr (e, g))) = braced_form a 36 inside spelled refl n e g

kind_form : (a : Attribute) (inside : List ℕ) → slice_index inside 1 ≡ 44 → by_kind (take 1 inside) (drop 2 inside) ≡ Some a →
    (kind : ℕ) × (name : List ℕ) × (inside ≡ kind ∷ 44 ∷ name) × (by_kind (kind ∷ []) name ≡ Some a)
kind_form a [] e f = absurd cc
kind_form a (x ∷ []) e f = absurd cc
kind_form a (x ∷ y ∷ name) e f = (x, name, ap (λ k. x ∷ k ∷ name) e, f)

-- and each shape with that meaning is a form
pub is_form : (a : Attribute) (spelled : List ℕ) → IsShape spelled → piece_of spelled ≡ Some (Value a) → IsFormOf a spelled
is_form a spelled (two c e) p = by_test (c == 37) refl
  where
    by_test : (t : Bool) → (c == 37) ≡ t → IsFormOf a (37 ∷ c ∷ [])
    by_test true f =
        absurd (let g : Some (Literal (37 ∷ [])) ≡ Some (Value a) = sym (ap (λ t. if t then Some (Literal (37 ∷ [])) else option_map Value (lookup (λ k. k == c) by_letter)) f) ∙ p in cc)
    by_test false f =
        let g : option_map Value (lookup (λ k. k == c) by_letter) ≡ Some (Value a) =
        sym (ap (λ t. if t then Some (Literal (37 ∷ [])) else option_map Value (lookup (λ k. k == c) by_letter)) f) ∙ p in
        inl (c, refl, mapped_value _ a g)
is_form a spelled (braced s inside e n) p = by_sigil (sigil s e) (mapped_value _ a (sym (braced_is s inside) ∙ p))
  where
    percent : (t : Bool) → (slice_index inside 1 == 44) ≡ t → in_percent_brace inside ≡ Some a →
        (lookup (bytes_eq inside) by_word ≡ Some a) ⊎ ((kind : ℕ) × (name : List ℕ) × (inside ≡ kind ∷ 44 ∷ name) × (by_kind (kind ∷ []) name ≡ Some a))
    percent true f m = inr (kind_form a inside (same_number _ 44 f) (sym (ap (λ t. if t then by_kind (take 1 inside) (drop 2 inside) else lookup (bytes_eq inside) by_word) f) ∙ m))
    percent false f m = inl (sym (ap (λ t. if t then by_kind (take 1 inside) (drop 2 inside) else lookup (bytes_eq inside) by_word) f) ∙ m)

    by_sigil : (s ≡ 37) ⊎ (s ≡ 36) → meaning s inside ≡ Some a → IsFormOf a (s ∷ 123 ∷ (inside ++ 125 ∷ []))
    by_sigil (inl f) m =
        let m2 : meaning 37 inside ≡ Some a = ap (λ k. meaning k inside) (sym f) ∙ m in
        inr (inside, n, inl (ap (λ k. k ∷ 123 ∷ (inside ++ 125 ∷ [])) f, percent (slice_index inside 1 == 44) refl m2))
    by_sigil (inr f) m =
        let m2 : meaning 36 inside ≡ Some a = ap (λ k. meaning k inside) (sym f) ∙ m in
        inr (inside, n, inr (ap (λ k. k ∷ 123 ∷ (inside ++ 125 ∷ [])) f, m2))

-- the one shape with a plain meaning is `%%`
pub is_percent : (spelled bytes : List ℕ) → IsShape spelled → piece_of spelled ≡ Some (Literal bytes) → (spelled ≡ 37 ∷ 37 ∷ []) × (bytes ≡ 37 ∷ [])
is_percent spelled bytes (two c e) p = by_test (c == 37) refl
  where
    by_test : (t : Bool) → (c == 37) ≡ t → (37 ∷ c ∷ [] ≡ 37 ∷ 37 ∷ []) × (bytes ≡ 37 ∷ [])
    by_test true f =
        let g : Some (Literal (37 ∷ [])) ≡ Some (Literal bytes) = sym (ap (λ t. if t then Some (Literal (37 ∷ [])) else option_map Value (lookup (λ k. k == c) by_letter)) f) ∙ p in
        (ap (λ k. 37 ∷ k ∷ []) (same_number c 37 f), cc)
    by_test false f =
        absurd (mapped_literal _ bytes (sym (ap (λ t. if t then Some (Literal (37 ∷ [])) else option_map Value (lookup (λ k. k == c) by_letter)) f) ∙ p))
is_percent spelled bytes (braced s inside e n) p = absurd (mapped_literal _ bytes (sym (braced_is s inside) ∙ p))
