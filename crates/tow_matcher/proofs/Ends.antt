-- Where a prefix that holds for a path ends: at the end of the path, or before a `/`.
use Rattle.std.proofs.Common.{◌≡◌, ℕ, suc, ◌+◌, ◌<◌, ◌≤◌, ◌⊎◌, Bool, true, false, ◌||◌, ◌∷◌, ◌++◌, length, take, drop, get_or, codes, if◌then◌else◌, refl, sym, ap, ◌∙◌, inl, inr, arith, length-append, append_assoc, drop-cons}
use Rattle.std.specs.Str.{bytes_eq}
use Rattle.std.proofs.Math.Seq.{take-append_seam, get_or-append_seam}
use Rattle.std.proofs.lemmas.Bool.{cases_lt, or_right}
use Rattle.std.proofs.lemmas.Bool.Decides.{Decides-eqb}
use Rattle.std.proofs.lemmas.List.{take-append-drop}
use Rattle.std.proofs.lemmas.Slice.Eq.{bytes_eq-Decides, starts_is}
use Rattle.tow_model.specs.Texts.{Text, begins_with}
use Rattle.tow_model.specs.Paths.{slash, is_prefix}
use Rattle.tow_matcher.specs.declared.row.Row.{Row}
use Rattle.tow_matcher.specs.Firsts.{row_holds}
use Rattle.tow_matcher.specs.Borders.{HasPath}
use Rattle.tow_matcher.specs.Keys.{IsOfKey}

one_of : (a b : Bool) (P : Type 0) → (a ≡ true → P) → (b ≡ true → P) → (a || b) ≡ true → P
one_of true b P p q is = p refl
one_of false b P p q is = q is

abbrev Under : Text → Text → Type 0
Under prefix path = (path ≡ prefix) ⊎ ((rest : Text) × (path ≡ prefix ++ slash ∷ rest))

begins : (prefix path : Text) → begins_with (prefix ++ codes "/") path ≡ true → (rest : Text) × (path ≡ prefix ++ slash ∷ rest)
begins prefix path is =
    let s = starts_is Decides-eqb path (prefix ++ codes "/") (begins_with (prefix ++ codes "/") path) refl in
    let rest = drop (length (prefix ++ codes "/")) path in
    (rest, s.0 is ∙ append_assoc prefix (codes "/") rest)

under : (prefix path : Text) → is_prefix prefix path ≡ true → Under prefix path
under prefix path is =
    one_of (bytes_eq path prefix) (begins_with (prefix ++ codes "/") path) (Under prefix path)
    (λ e. inl ((bytes_eq-Decides path prefix).0 e)) (λ e. inr (begins prefix path e)) is

is_under : (prefix path : Text) → Under prefix path → is_prefix prefix path ≡ true
is_under prefix path (inl e) = let t = (bytes_eq-Decides path prefix).1 e in rw t refl
is_under prefix path (inr (rest, e)) =
    let s = starts_is Decides-eqb path (prefix ++ codes "/") (begins_with (prefix ++ codes "/") path) refl in
    or_right (bytes_eq path prefix) _ (s.1 rest (e ∙ sym (append_assoc prefix (codes "/") rest)))

-- the text is what stands before a `/` at the place
pub record IsBorder (path : Text) (place : ℕ) (text : Text) : Type 0 where
  pub within : place < length path
  pub there : get_or path place 0 ≡ slash
  pub front : text ≡ take place path

border_under : (path : Text) (place : ℕ) (text : Text) → IsBorder path place text → Under text path
border_under path place text border =
    let within = border.within in
    let cut : drop place path ≡ slash ∷ drop (suc place) path = drop-cons path place 0 within ∙ ap (λ b. b ∷ drop (suc place) path) border.there in
    inr (drop (suc place) path, sym (take-append-drop place path) ∙ (λ i. sym border.front i ++ cut i))

border_of : (path text rest : Text) → path ≡ text ++ slash ∷ rest → IsBorder path (length text) text
border_of path text rest e = record {
  within = omega (arith, ap length e, length-append text (slash ∷ rest));
  there = ap (λ p. get_or p (length text) 0) e ∙ get_or-append_seam text slash rest 0;
  front = sym (ap (take (length text)) e ∙ take-append_seam text (slash ∷ rest));
}

-- a row holds, of a prefix only if it is the path or ends at a border before `end`
abbrev pub HoldsBefore : Text → ℕ → Row → Type 0
HoldsBefore path end row =
    IsOfKey false path row ⊎ (IsOfKey true path row ⊎ ((place : ℕ) × (place < end) × IsBorder path place row.path × (row.prefix ≡ true)))

-- a row of the path is of one of the kinds
pub of_either : (path : Text) (row : Row) → HasPath path row → IsOfKey false path row ⊎ IsOfKey true path row
of_either path row has = by row.prefix refl
  where
    by : (b : Bool) → row.prefix ≡ b → IsOfKey false path row ⊎ IsOfKey true path row
    by false kind = inl (kind, has)
    by true kind = inr (kind, has)

-- and of no prefix if the path is longer than those
pub of_no_prefix : (path : Text) (reach : ℕ) → reach ≤ length path → (row : Row) → (row.prefix ≡ true → length row.path < reach)
    → HasPath path row → IsOfKey false path row
of_no_prefix path reach long row short has = by row.prefix refl
  where
    by : (b : Bool) → row.prefix ≡ b → IsOfKey false path row
    by false kind = (kind, has)
    by true kind = absurd (omega (arith, short kind, ap length has, long))

-- before the first place, a row that holds has the path
pub path_there : (path : Text) (row : Row) → HasPath path row → HoldsBefore path 0 row
path_there path row has = side (of_either path row has)
  where
    side : IsOfKey false path row ⊎ IsOfKey true path row → HoldsBefore path 0 row
    side (inl key) = inl key
    side (inr key) = inr (inl key)

pub path_back : (path : Text) (row : Row) → HoldsBefore path 0 row → HasPath path row
path_back path row (inl key) = key.1
path_back path row (inr (inl key)) = key.1
path_back path row (inr (inr (place, low, border, kind))) = absurd (omega (arith, low))

pub before_more : (path : Text) (end : ℕ) (row : Row) → HoldsBefore path end row → HoldsBefore path (end + 1) row
before_more path end row (inl key) = inl key
before_more path end row (inr (inl key)) = inr (inl key)
before_more path end row (inr (inr (place, low, border, kind))) = inr (inr (place, omega (arith, low), border, kind))

-- what the `/` at `end` adds
module _ (path : Text) (end : ℕ) (within : end < length path) (is : get_or path end 0 ≡ slash) where
  pub border_there : (row : Row) → IsOfKey true (take end path) row → HoldsBefore path (end + 1) row
  border_there row key =
      inr (inr (end, omega arith, record { within = within; there = is; front = key.1 }, key.0))

  pub border_back : (row : Row) → HoldsBefore path (end + 1) row → HoldsBefore path end row ⊎ IsOfKey true (take end path) row
  border_back row (inl key) = inl (inl key)
  border_back row (inr (inl key)) = inl (inr (inl key))
  border_back row (inr (inr (place, low, border, kind))) = side (cases_lt place end)
    where
      side : (place < end) ⊎ (end ≤ place) → HoldsBefore path end row ⊎ IsOfKey true (take end path) row
      side (inl less) = inl (inr (inr (place, less, border, kind)))
      side (inr same) = let e : place ≡ end = omega (arith, low) in inr (kind, border.front ∙ ap (λ n. take n path) e)

-- and another byte there adds nothing
pub none_there : (path : Text) (end : ℕ) → (get_or path end 0 ≡ slash → ⊥) → (row : Row) → HoldsBefore path (end + 1) row → HoldsBefore path end row
none_there path end other row (inl key) = inl key
none_there path end other row (inr (inl key)) = inr (inl key)
none_there path end other row (inr (inr (place, low, border, kind))) = side (cases_lt place end)
  where
    side : (place < end) ⊎ (end ≤ place) → HoldsBefore path end row
    side (inl less) = inr (inr (place, less, border, kind))
    side (inr same) = let e : end ≡ place = omega (arith, low) in absurd (other (ap (λ n. get_or path n 0) e ∙ border.there))

pub holds_there : (path : Text) (end : ℕ) (row : Row) → HoldsBefore path end row → row_holds path row ≡ true
holds_there path end row (inl key) = let k = key.0 in rw k ((bytes_eq-Decides row.path path).1 key.1)
holds_there path end row (inr (inl key)) = let k = key.0 in rw k (is_under row.path path (inl (sym key.1)))
holds_there path end row (inr (inr (place, low, border, kind))) = rw kind (is_under row.path path (border_under path place row.path border))

pub holds_back : (path : Text) (end reach : ℕ) (row : Row) → ((place : ℕ) → place < length path → place < reach → place < end)
    → (row.prefix ≡ true → length row.path < reach) → row_holds path row ≡ true → HoldsBefore path end row
holds_back path end reach row bound short is = by row.prefix refl is
  where
    prefixed : row.prefix ≡ true → Under row.path path → HoldsBefore path end row
    prefixed kind (inl e) = inr (inl (kind, sym e))
    prefixed kind (inr (rest, e)) =
        let border = border_of path row.path rest e in
        inr (inr (length row.path, bound (length row.path) border.within (short kind), border, kind))

    by : (b : Bool) → row.prefix ≡ b → (if b then is_prefix row.path path else bytes_eq row.path path) ≡ true → HoldsBefore path end row
    by true kind h = prefixed kind (under row.path path h)
    by false kind h = inl (kind, (bytes_eq-Decides row.path path).0 h)
