-- The order of the table is total, and what stands between two keys of one kind and path is of that kind and path.
use Rattle.std.proofs.Common.{◌≡◌, ℕ, ◌≤◌, Bool, true, false, refl, sym, ap, ◌∙◌, arith}
use Rattle.std.specs.Ordering.{is_lt, is_eq, bool_cmp, nat_cmp, ordering_then, ordering_reverse}
use Rattle.std.specs.Cmp.{IsTotalOrder, bool_cmp_total}
use Rattle.std.specs.Cmp.Lexicographic.{slice_cmp}
use Rattle.std.specs.declared.cmp.Ordering.{Ordering}
use Rattle.std.specs.declared.cmp.Ordering.TheVariants.{Less, Equal, Greater}
use Rattle.std.proofs.lemmas.Cmp.{then_total, on_total, nat_cmp_total, nat_list_cmp_total, tied_itself}
use Rattle.std.proofs.lemmas.Bool.Decides.{nat_tests}
use Rattle.std.proofs.lemmas.Map.Text.{is_eq-slice_cmp}
use Rattle.std.proofs.lemmas.Slice.Eq.{bytes_eq-Decides}
use Rattle.tow_model.specs.Texts.{Text}
use Rattle.tow_matcher.specs.Keys.{Rank, rank_cmp}

pub rank_total : IsTotalOrder rank_cmp
rank_total =
    then_total (on_total (λ (r : Rank). r.prefix) bool_cmp_total)
    (then_total (on_total (λ (r : Rank). r.path) nat_list_cmp_total) (on_total (λ (r : Rank). r.number) nat_cmp_total))

between : (s t p q : Ordering) → p ≡ ordering_reverse q → is_lt (ordering_then p s) ≡ false → is_lt (ordering_then q t) ≡ false → (p ≡ Equal) × (is_lt s ≡ false) × (is_lt t ≡ false)
between s t Less q e f g = absurd (cc)
between s t Equal Less e f g = absurd (cc)
between s t Equal Equal e f g = (refl, f, g)
between s t Equal Greater e f g = absurd (cc)
between s t Greater Less e f g = absurd (cc)
between s t Greater Equal e f g = absurd (cc)
between s t Greater Greater e f g = absurd (cc)

same_kind : (a b : Bool) → bool_cmp a b ≡ Equal → a ≡ b
same_kind true true e = refl
same_kind true false e = absurd (cc)
same_kind false true e = absurd (cc)
same_kind false false e = refl

same_path : (s t : Text) → slice_cmp nat_cmp s t ≡ Equal → s ≡ t
same_path s t e = (bytes_eq-Decides s t).0 (sym (is_eq-slice_cmp s t) ∙ ap is_eq e)

no_lower : (a b : ℕ) → is_lt (nat_cmp a b) ≡ false → b ≤ a
no_lower a b e = grind (arith, nat_tests)

no_lower_back : (a b : ℕ) → b ≤ a → is_lt (nat_cmp a b) ≡ false
no_lower_back a b h = grind (arith, nat_tests)

-- a rank that is not below the low one and not above the high one
pub squeezed : (r : Rank) (kind : Bool) (path : Text) (low high : ℕ) → is_lt (rank_cmp r (record { prefix = kind; path = path; number = low })) ≡ false
    → is_lt (rank_cmp (record { prefix = kind; path = path; number = high }) r) ≡ false → (r.prefix ≡ kind) × (r.path ≡ path) × (low ≤ r.number) × (r.number ≤ high)
squeezed r kind path low high f g =
    let kinds = between (ordering_then (slice_cmp nat_cmp r.path path) (nat_cmp r.number low)) (ordering_then (slice_cmp nat_cmp path r.path) (nat_cmp high r.number))
    (bool_cmp r.prefix kind) (bool_cmp kind r.prefix) (bool_cmp_total.antisymm r.prefix kind) f g in
    let paths = between (nat_cmp r.number low) (nat_cmp high r.number) (slice_cmp nat_cmp r.path path) (slice_cmp nat_cmp path r.path) (nat_list_cmp_total.antisymm r.path path) kinds.1 kinds.2 in
    (same_kind r.prefix kind kinds.0, same_path r.path path paths.0, no_lower r.number low paths.1, no_lower high r.number paths.2)

-- of one kind and path, a higher number is not below a lower one
pub not_below : (kind : Bool) (path : Text) (low high : ℕ) → low ≤ high
    → is_lt (rank_cmp (record { prefix = kind; path = path; number = high }) (record { prefix = kind; path = path; number = low })) ≡ false
not_below kind path low high h =
    rw (tied_itself bool_cmp_total kind, tied_itself nat_list_cmp_total path) (no_lower_back high low h)
