-- How an attribute is spelled: two bytes, or all up to `}`.
use Rattle.std.specs.Prelude.{◌≡◌, ◌⊎◌, ℕ, ◌+◌, Bool, true, false, not, ◌||◌, ◌&&◌, ◌==◌, List, [], ◌∷◌, ◌++◌, length, Some, Err, if◌then◌else◌}
use Rattle.std.specs.List.{list_all}
use Rattle.std.proofs.Common.{refl, sym, ◌∙◌, ap, ap₂, subst, rules, append_assoc}
use mathlib.Core.Logic.{inl, inr}
use Rattle.tow_model.specs.declared.attribute.Piece.TheVariants.{Literal}
use Rattle.tow_language.specs.Tokens.{last_byte}
use Rattle.tow_language.specs.Templates.{piece_of, begins_value, with_first, template_from}
use Rattle.tow_language.proofs.Cut.{sigil}

abbrev pub is_inside : ℕ → Bool
is_inside b = not (b == 125)

-- the bytes of an attribute, or of `%%`, known or not
pub data IsShape : List ℕ → Type 0 where
  two : (c : ℕ) → (c == 123) ≡ false → IsShape (37 ∷ c ∷ [])
  braced : (s : ℕ) (inside : List ℕ) → (s == 37 || s == 36) ≡ true → list_all is_inside inside ≡ true → IsShape (s ∷ 123 ∷ (inside ++ 125 ∷ []))

pub not_true : (t : Bool) → not t ≡ true → t ≡ false
not_true true e = absurd cc
not_true false e = refl

pub both_left : (s t : Bool) → (s && t) ≡ true → s ≡ true
both_left true t e = refl
both_left false t e = absurd cc

pub both_right : (s t : Bool) → (s && t) ≡ true → t ≡ true
both_right true t e = e
both_right false t e = absurd cc

pub same_number : (a b : ℕ) → (a == b) ≡ true → a ≡ b
same_number a b e = search rules

pub last_added : (more : List ℕ) (before b : ℕ) → last_byte before (more ++ b ∷ []) ≡ b
last_added [] before b = refl
last_added (c ∷ more) before b = last_added more c b

-- a brace that stays open
pub open_reads : (s at : ℕ) (more rest : List ℕ) → list_all is_inside rest ≡ true → template_from (s ∷ 123 ∷ more) at rest ≡ Err at
open_reads s at more [] e = refl
open_reads s at more (b ∷ rest) e =
    let test : (last_byte 123 (more ++ b ∷ []) == 125) ≡ false = ap (λ k. k == 125) (last_added more 123 b) ∙ not_true _ (both_left _ _ e) in
    let now = s ∷ 123 ∷ (more ++ b ∷ []) in
    ap (λ t. if t then with_first (piece_of now) (template_from [] (at + length now) rest) at else template_from now at rest) test
    ∙ open_reads s at (more ++ b ∷ []) rest (both_right _ _ e)

-- a brace up to its end
brace_reads : (s at : ℕ) (more inside rest : List ℕ) → list_all is_inside inside ≡ true →
    template_from (s ∷ 123 ∷ more) at (inside ++ 125 ∷ rest)
    ≡ with_first (piece_of (s ∷ 123 ∷ (more ++ (inside ++ 125 ∷ [])))) (template_from [] (at + length (s ∷ 123 ∷ (more ++ (inside ++ 125 ∷ [])))) rest) at
brace_reads s at more [] rest e =
    let now = s ∷ 123 ∷ (more ++ 125 ∷ []) in
    ap (λ t. if t then with_first (piece_of now) (template_from [] (at + length now) rest) at else template_from now at rest)
    (ap (λ k. k == 125) (last_added more 123 125))
brace_reads s at more (b ∷ inside) rest e =
    let test : (last_byte 123 (more ++ b ∷ []) == 125) ≡ false = ap (λ k. k == 125) (last_added more 123 b) ∙ not_true _ (both_left _ _ e) in
    let now = s ∷ 123 ∷ (more ++ b ∷ []) in
    ap (λ t. if t then with_first (piece_of now) (template_from [] (at + length now) (inside ++ 125 ∷ rest)) at else template_from now at (inside ++ 125 ∷ rest)) test
    ∙ brace_reads s at (more ++ b ∷ []) inside rest (both_right _ _ e)
    ∙ ap (λ k. with_first (piece_of (s ∷ 123 ∷ k)) (template_from [] (at + length (s ∷ 123 ∷ k)) rest) at) (append_assoc more (b ∷ []) (inside ++ 125 ∷ []))

-- `%` and `$` before a brace begin a value
pub sigil_begins : (s : ℕ) (rest : List ℕ) → (s == 37 || s == 36) ≡ true → begins_value s (123 ∷ rest) ≡ true
sigil_begins s rest e =
    elim (sigil s e) [
      | inl f ↦ subst (λ k. begins_value k (123 ∷ rest) ≡ true) (sym f) refl
      | inr f ↦ subst (λ k. begins_value k (123 ∷ rest) ≡ true) (sym f) refl
    ]

pub begin_reads : (b at : ℕ) (bytes : List ℕ) → begins_value b bytes ≡ true → template_from [] at (b ∷ bytes) ≡ template_from (b ∷ []) at bytes
begin_reads b at bytes e =
    ap (λ t. if t then template_from (b ∷ []) at bytes else with_first (Some (Literal (b ∷ []))) (template_from [] (at + 1) bytes) at) e

-- a shape is read as one piece
pub shape_reads : (spelled rest : List ℕ) (at : ℕ) → IsShape spelled →
    template_from [] at (spelled ++ rest) ≡ with_first (piece_of spelled) (template_from [] (at + length spelled) rest) at
shape_reads spelled rest at (two c e) =
    let now = 37 ∷ c ∷ [] in
    ap (λ t. if (not t || c == 125) then with_first (piece_of now) (template_from [] (at + length now) rest) at else template_from now at rest) e
shape_reads spelled rest at (braced s inside e n) =
    begin_reads s at (123 ∷ ((inside ++ 125 ∷ []) ++ rest)) (sigil_begins s ((inside ++ 125 ∷ []) ++ rest) e)
    ∙ ap (template_from (s ∷ 123 ∷ []) at) (append_assoc inside (125 ∷ []) rest)
    ∙ brace_reads s at [] inside rest n

no_close_here : (b : ℕ) → 125 ≡ b → is_inside b ≡ true → ⊥
no_close_here b e f = let g : is_inside 125 ≡ true = ap is_inside e ∙ f in cc

one_inside : (i j a b : List ℕ) → list_all is_inside i ≡ true → list_all is_inside j ≡ true → i ++ 125 ∷ a ≡ j ++ 125 ∷ b → (i ≡ j) × (a ≡ b)
one_inside [] [] a b x y e = (refl, cc)
one_inside [] (d ∷ j) a b x y e =
    let f : 125 ≡ d = cc in
    absurd (no_close_here d f (both_left (is_inside d) (list_all is_inside j) y))
one_inside (c ∷ i) [] a b x y e =
    let f : 125 ≡ c = cc in
    absurd (no_close_here c f (both_left (is_inside c) (list_all is_inside i) x))
one_inside (c ∷ i) (d ∷ j) a b x y e =
    let tails : i ++ 125 ∷ a ≡ j ++ 125 ∷ b = cc in
    let heads : c ≡ d = cc in
    let o = one_inside i j a b (both_right (is_inside c) (list_all is_inside i) x) (both_right (is_inside d) (list_all is_inside j) y) tails in
    (ap₂ (λ k ks. k ∷ ks) heads o.0, o.1)

-- one shape at the front of some bytes
pub one_shape : (s t a b : List ℕ) → IsShape s → IsShape t → s ++ a ≡ t ++ b → (s ≡ t) × (a ≡ b)
one_shape s t a b (two c x) (two d y) e = (ap (λ k. 37 ∷ k ∷ []) (let f : c ≡ d = cc in f), cc)
one_shape s t a b (two c x) (braced r j y n) e = absurd (let f : c ≡ 123 = cc in let g : (c == 123) ≡ true = ap (λ k. k == 123) f in cc)
one_shape s t a b (braced q i x m) (two d y) e = absurd (let f : d ≡ 123 = cc in let g : (d == 123) ≡ true = ap (λ k. k == 123) f in cc)
one_shape s t a b (braced q i x m) (braced r j y n) e =
    let heads : q ≡ r = cc in
    let tails : (i ++ 125 ∷ []) ++ a ≡ (j ++ 125 ∷ []) ++ b = cc in
    let o = one_inside i j a b m n (sym (append_assoc i (125 ∷ []) a) ∙ tails ∙ append_assoc j (125 ∷ []) b) in
    (ap₂ (λ k ks. k ∷ 123 ∷ (ks ++ 125 ∷ [])) heads o.0, o.1)

-- all up to a `}`, or none
closing : (xs : List ℕ) → ((inside after : List ℕ) × (xs ≡ inside ++ 125 ∷ after) × (list_all is_inside inside ≡ true)) ⊎ (list_all is_inside xs ≡ true)
closing [] = inr refl
closing (b ∷ xs) = by_test (b == 125) refl (closing xs)
  where
    by_test : (t : Bool) → (b == 125) ≡ t →
        ((inside after : List ℕ) × (xs ≡ inside ++ 125 ∷ after) × (list_all is_inside inside ≡ true)) ⊎ (list_all is_inside xs ≡ true) →
        ((inside after : List ℕ) × (b ∷ xs ≡ inside ++ 125 ∷ after) × (list_all is_inside inside ≡ true)) ⊎ (list_all is_inside (b ∷ xs) ≡ true)
    by_test true e rest = inl ([], xs, ap (λ k. k ∷ xs) (same_number b 125 e), refl)
    by_test false e (inl (inside, after, f, n)) = inl (b ∷ inside, after, ap (λ k. b ∷ k) f, ap (λ t. not t && list_all is_inside inside) e ∙ n)
    by_test false e (inr n) = inr (ap (λ t. not t && list_all is_inside xs) e ∙ n)

no_close : (inside after rest : List ℕ) → list_all is_inside rest ≡ true → rest ≡ (inside ++ 125 ∷ []) ++ after → ⊥
no_close inside after [] n e = none inside e
  where
    none : (inside : List ℕ) → [] ≡ (inside ++ 125 ∷ []) ++ after → ⊥
    none [] e = cc
    none (c ∷ inside) e = cc
no_close [] after (b ∷ rest) n e = let f : 125 ≡ b = cc in no_close_here b f (both_left (is_inside b) (list_all is_inside rest) n)
no_close (c ∷ inside) after (b ∷ rest) n e =
    let tails : rest ≡ (inside ++ 125 ∷ []) ++ after = cc in no_close inside after rest (both_right (is_inside b) (list_all is_inside rest) n) tails

-- no shape stands at the front
abbrev pub IsShapeless : List ℕ → Type 0
IsShapeless text = (spelled after : List ℕ) → text ≡ spelled ++ after → IsShape spelled → ⊥

-- where a value begins there is a shape, or it stays open
pub shape_or_open : (b : ℕ) (bytes : List ℕ) → begins_value b bytes ≡ true →
    ((spelled after : List ℕ) × (b ∷ bytes ≡ spelled ++ after) × IsShape spelled) ⊎ (IsShapeless (b ∷ bytes) × ((at : ℕ) → template_from [] at (b ∷ bytes) ≡ Err at))
shape_or_open b [] e = inr (none, λ at. begin_reads b at [] e)
  where
    none : IsShapeless (b ∷ [])
    none spelled after f (two c x) = cc
    none spelled after f (braced s inside x n) = cc
shape_or_open b (c ∷ rest) e = by_test (c == 123) refl
  where
    percent : (c == 123) ≡ false → b ≡ 37
    percent f = search rules

    begins : c ≡ 123 → (b == 37 || b == 36) ≡ true
    begins f = search rules

    by_test : (t : Bool) → (c == 123) ≡ t →
        ((spelled after : List ℕ) × (b ∷ c ∷ rest ≡ spelled ++ after) × IsShape spelled) ⊎ (IsShapeless (b ∷ c ∷ rest) × ((at : ℕ) → template_from [] at (b ∷ c ∷ rest) ≡ Err at))
    by_test false f = inl (37 ∷ c ∷ [], rest, ap (λ k. k ∷ c ∷ rest) (percent f), two c f)
    by_test true f = by_end (same_number c 123 f) (closing rest)
      where
        none : c ≡ 123 → list_all is_inside rest ≡ true → IsShapeless (b ∷ c ∷ rest)
        none g n spelled after h (two d x) = let k : d ≡ 123 = cc in let l : (d == 123) ≡ true = ap (λ m. m == 123) k in cc
        none g n spelled after h (braced s inside x m) = let tails : rest ≡ (inside ++ 125 ∷ []) ++ after = cc in no_close inside after rest n tails

        by_end : c ≡ 123 → ((inside after : List ℕ) × (rest ≡ inside ++ 125 ∷ after) × (list_all is_inside inside ≡ true)) ⊎ (list_all is_inside rest ≡ true) →
            ((spelled after : List ℕ) × (b ∷ c ∷ rest ≡ spelled ++ after) × IsShape spelled) ⊎ (IsShapeless (b ∷ c ∷ rest) × ((at : ℕ) → template_from [] at (b ∷ c ∷ rest) ≡ Err at))
        by_end g (inl (inside, after, h, n)) =
            inl (b ∷ 123 ∷ (inside ++ 125 ∷ []), after, ap₂ (λ k ks. b ∷ k ∷ ks) g (h ∙ sym (append_assoc inside (125 ∷ []) after)), braced b inside (begins g) n)
        by_end g (inr n) = inr (none g n, λ at. begin_reads b at (c ∷ rest) e ∙ ap (λ k. template_from (b ∷ []) at (k ∷ rest)) g ∙ open_reads b at [] rest n)
