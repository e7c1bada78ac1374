-- Bytes that may be pieces of a word, where a brace is open before them or not; and two such scans side by side.
use Rattle.std.specs.Prelude.{◌≡◌, ◌⊎◌, ℕ, Bool, true, false, not, ◌&&◌, ◌||◌, ◌==◌, nat_le, List, [], ◌∷◌, ◌++◌, codes, Option, None, Some, if◌then◌else◌}
use Rattle.std.specs.List.{list_all, list_any}
use Rattle.std.proofs.Common.{refl, sym, ap, ap₂, ◌∙◌, subst, append_assoc}
use Rattle.std.proofs.Math.Bool.{and_assoc, and-true}
use Rattle.std.proofs.lemmas.Bool.{eqb-true}
use Rattle.std.proofs.lemmas.List.Folds.{list_all-append}
use Rattle.std.proofs.lemmas.Bool.{and_parts}
use mathlib.Core.Logic.{inl, inr}
use Rattle.tow_language.specs.Tokens.{next_is, begins_piece, opens_brace, are_pieces}
use Rattle.tow_language.proofs.Cut.{sigil}
use Rattle.tow_print.proofs.Templates.{is_closed}
use Rattle.tow_print.proofs.Words.{next_is_nil}

-- no line end among the bytes
abbrev pub is_one_line : List ℕ → Bool
is_one_line bytes = list_all (λ b. not (b == 10)) bytes

-- `%{` or `${`, and all up to `}`
pub data IsBraced : List ℕ → Type 0 where
  in_braces : (s : ℕ) (inside : List ℕ) → (s == 37 || s == 36) ≡ true → is_closed inside ≡ true → IsBraced (s ∷ 123 ∷ (inside ++ 125 ∷ []))

inside_runs : (inside rest : List ℕ) → is_closed inside ≡ true → are_pieces true (inside ++ 125 ∷ rest) [] ≡ (is_one_line inside && are_pieces false rest [])
inside_runs [] rest e = refl
inside_runs (b ∷ inside) rest e =
    let h = and_parts (not (b == 125)) (is_closed inside) e in
    ap (λ t. not (b == 10) && are_pieces t (inside ++ 125 ∷ rest) []) h.0 ∙ ap (λ t. not (b == 10) && t) (inside_runs inside rest h.1)
    ∙ sym (and_assoc (not (b == 10)) (is_one_line inside) (are_pieces false rest []))

sign_runs : (i : Bool) (s : ℕ) (rest : List ℕ) → (s == 37 || s == 36) ≡ true → are_pieces i (s ∷ 123 ∷ rest) [] ≡ are_pieces true rest []
sign_runs i s rest e =
    elim (sigil s e) [
      | inl f ↦ subst (λ k. are_pieces i (k ∷ 123 ∷ rest) [] ≡ are_pieces true rest []) (sym f) (by_state i)
      | inr f ↦ subst (λ k. are_pieces i (k ∷ 123 ∷ rest) [] ≡ are_pieces true rest []) (sym f) (by_state i)
    ]
  where
    by_state : (i : Bool) → are_pieces i (37 ∷ 123 ∷ rest) [] ≡ are_pieces true rest []
    by_state true = refl
    by_state false = refl

sign_line : (s : ℕ) (inside : List ℕ) → (s == 37 || s == 36) ≡ true → is_one_line (s ∷ 123 ∷ (inside ++ 125 ∷ [])) ≡ is_one_line inside
sign_line s inside e =
    let line : is_one_line (inside ++ 125 ∷ []) ≡ is_one_line inside = list_all-append (λ b. not (b == 10)) inside (125 ∷ []) ∙ and-true (is_one_line inside) in
    elim (sigil s e) [
      | inl f ↦ ap (λ k. is_one_line (k ∷ 123 ∷ (inside ++ 125 ∷ []))) f ∙ line
      | inr f ↦ ap (λ k. is_one_line (k ∷ 123 ∷ (inside ++ 125 ∷ []))) f ∙ line
    ]

-- no brace is open behind a piece in braces
pub braced_runs : (i : Bool) (spelled rest : List ℕ) → IsBraced spelled → are_pieces i (spelled ++ rest) [] ≡ (is_one_line spelled && are_pieces false rest [])
braced_runs i spelled rest (in_braces s inside e n) =
    sign_runs i s ((inside ++ 125 ∷ []) ++ rest) e ∙ ap (λ k. are_pieces true k []) (append_assoc inside (125 ∷ []) rest)
    ∙ inside_runs inside rest n ∙ ap (λ t. t && are_pieces false rest []) (sym (sign_line s inside e))

-- what is behind other bytes, and does not go on with `->`, `%{` or `${`
pub record IsApart (rest : List ℕ) : Type 0 where
  pub no_arrow : next_is 62 rest ≡ false
  pub no_brace : next_is 123 rest ≡ false

-- whether a brace is open behind the bytes, where they are pieces and what follows is apart
abbrev pub scan : Bool → List ℕ → Option Bool
scan inside [] = Some inside
scan true (b ∷ bs) = if b == 10 then None else scan (not (b == 125)) bs
scan false (b ∷ bs) = if begins_piece b bs then scan (opens_brace b bs) bs else None

abbrev pub goes_on : Option Bool → List ℕ → Bool
goes_on None rest = false
goes_on (Some inside) rest = are_pieces inside rest []

next_apart : (c : ℕ) (bs rest : List ℕ) → next_is c rest ≡ false → next_is c ((bs ++ rest) ++ []) ≡ next_is c bs
next_apart c [] rest e = next_is_nil c rest ∙ e
next_apart c (b ∷ bs) rest e = refl

guarded : (t : Bool) (o : Option Bool) (rest : List ℕ) → (t && goes_on o rest) ≡ goes_on (if t then o else None) rest
guarded true o rest = refl
guarded false o rest = refl

unless : (t : Bool) (o : Option Bool) (rest : List ℕ) → (not t && goes_on o rest) ≡ goes_on (if t then None else o) rest
unless true o rest = refl
unless false o rest = refl

pub scan_runs : (i : Bool) (bs rest : List ℕ) → IsApart rest → are_pieces i (bs ++ rest) [] ≡ goes_on (scan i bs) rest
scan_runs i [] rest apart = refl
scan_runs true (b ∷ bs) rest apart = ap (λ t. not (b == 10) && t) (scan_runs (not (b == 125)) bs rest apart) ∙ unless (b == 10) (scan (not (b == 125)) bs) rest
scan_runs false (b ∷ bs) rest apart =
    ap₂ (λ s t. s && t) begins (ap (λ t. are_pieces t (bs ++ rest) []) opens ∙ scan_runs (opens_brace b bs) bs rest apart)
    ∙ guarded (begins_piece b bs) (scan (opens_brace b bs) bs) rest
  where
    begins : begins_piece b ((bs ++ rest) ++ []) ≡ begins_piece b bs
    begins = ap (λ t. (nat_le 33 b && nat_le b 126) && not (list_any (λ c. c == b) (codes "()[]{},=;'\"")) && not (b == 45 && t)) (next_apart 62 bs rest apart.no_arrow)

    opens : opens_brace b ((bs ++ rest) ++ []) ≡ opens_brace b bs
    opens = ap (λ t. (b == 37 || b == 36) && t) (next_apart 123 bs rest apart.no_brace)

-- no line end and no `}` begins a piece
line_begins_none : (b : ℕ) (bs : List ℕ) → begins_piece b bs ≡ true → (b == 10) ≡ false
line_begins_none b bs e = by_test (b == 10) refl
  where
    by_test : (t : Bool) → (b == 10) ≡ t → t ≡ false
    by_test true f = absurd (let g : false ≡ true = sym (ap (λ k. begins_piece k bs) (eqb-true b 10 f)) ∙ e in cc)
    by_test false f = refl

brace_begins_none : (b : ℕ) (bs : List ℕ) → begins_piece b bs ≡ true → (b == 125) ≡ false
brace_begins_none b bs e = by_test (b == 125) refl
  where
    by_test : (t : Bool) → (b == 125) ≡ t → t ≡ false
    by_test true f = absurd (let g : false ≡ true = sym (ap (λ k. begins_piece k bs) (eqb-true b 125 f)) ∙ e in cc)
    by_test false f = refl

-- a scan beside another one: as far, or inside
abbrev pub IsBeside : Bool → Bool → Type 0
IsBeside i j = (i ≡ j) ⊎ (j ≡ true)

some_same : (a b : Bool) → Some a ≡ Some b → a ≡ b
some_same a b e = cc

open_beside : (bs : List ℕ) (k : Bool) → scan false bs ≡ Some k → (l : Bool) × (scan true bs ≡ Some l) × IsBeside k l
open_beside [] k e = (true, refl, inr refl)
open_beside (b ∷ bs) k e = by_test (begins_piece b bs) refl e (λ f. open_beside bs k f)
  where
    inside : begins_piece b bs ≡ true → scan true (b ∷ bs) ≡ scan true bs
    inside f =
        ap (λ t. if t then None else scan (not (b == 125)) bs) (line_begins_none b bs f) ∙ ap (λ t. scan (not t) bs) (brace_begins_none b bs f)

    by_open : begins_piece b bs ≡ true → (t : Bool) → scan t bs ≡ Some k → (scan false bs ≡ Some k → (l : Bool) × (scan true bs ≡ Some l) × IsBeside k l) →
        (l : Bool) × (scan true (b ∷ bs) ≡ Some l) × IsBeside k l
    by_open f true g more = (k, inside f ∙ g, inl refl)
    by_open f false g more = let h = more g in (h.0, inside f ∙ h.1, h.2)

    by_test : (t : Bool) → begins_piece b bs ≡ t → (if t then scan (opens_brace b bs) bs else None) ≡ Some k → (scan false bs ≡ Some k → (l : Bool) × (scan true bs ≡ Some l) × IsBeside k l) →
        (l : Bool) × (scan true (b ∷ bs) ≡ Some l) × IsBeside k l
    by_test true f g more = by_open f (opens_brace b bs) g more
    by_test false f g more = absurd (cc)

-- the same bytes leave a scan beside the other
pub scan_beside : (bs : List ℕ) (i j k : Bool) → IsBeside i j → scan i bs ≡ Some k → (l : Bool) × (scan j bs ≡ Some l) × IsBeside k l
scan_beside bs i j k (inl e) f = (k, ap (λ t. scan t bs) (sym e) ∙ f, inl refl)
scan_beside bs true j k (inr e) f = (k, ap (λ t. scan t bs) e ∙ f, inl refl)
scan_beside bs false j k (inr e) f = let h = open_beside bs k f in (h.0, ap (λ t. scan t bs) e ∙ h.1, h.2)

-- and where it is still inside when the other is not, so it was before
pub scan_apart : (bs : List ℕ) (i j k l : Bool) → IsBeside i j → scan i bs ≡ Some k → scan j bs ≡ Some l → k ≡ false → l ≡ true → (i ≡ false) × (j ≡ true)
scan_apart bs i j k l (inl e) f g out inside =
    absurd (let h : false ≡ true = sym out ∙ some_same k l (sym f ∙ ap (λ t. scan t bs) e ∙ g) ∙ inside in cc)
scan_apart bs true j k l (inr e) f g out inside =
    absurd (let h : false ≡ true = sym out ∙ some_same k l (sym f ∙ ap (λ t. scan t bs) (sym e) ∙ g) ∙ inside in cc)
scan_apart bs false j k l (inr e) f g out inside = (refl, e)
