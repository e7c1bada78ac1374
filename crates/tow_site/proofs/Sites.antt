-- A text has at most one site, and none where it has a fault.
use Rattle.std.proofs.Common.{◌≡◌, ◌≤◌, inl, inr, ℕ, length, List, All, Some, Ok, slice_get, sym, ap, ap₂, ◌∙◌, subst}
use Rattle.std.proofs.lemmas.Option.{get_or_from_slice_get, slice_get_within}
use Rattle.tow_language.specs.declared.kind.Kind.{Kind}
use Rattle.tow_model.specs.declared.statement.Statement.{Statement}
use Rattle.tow_language.specs.Fit.{Counts, Fitted, fit}
use Rattle.tow_language.specs.Fault.{IsFault}
use Rattle.tow_language.proofs.Kept.{is_one_derivation, is_no_tree_at_fault}
use Rattle.tow_pattern.specs.Patterns.{IsGoodPattern}
use Rattle.tow_program.specs.declared.instruction.Instruction.{Instruction}
use Rattle.tow_program.specs.Programs.{program_of}
use Rattle.tow_link.specs.Data.{Rose}
use Rattle.tow_site.specs.Compiled.{SiteData, HasTree, IsSiteOf, IsFaultAtPattern, IsRefused, pattern_texts}

same_fit : (a b : List Statement) (m n : Counts) (f : Fitted (List Statement)) → f ≡ Ok (a, m) → f ≡ Ok (b, n) → (a ≡ b) × (m ≡ n)
same_fit a b m n f left right =
    let pairs : (a, m) ≡ (b, n) = cc in
    (ap (λ (p : List Statement × Counts). p.0) pairs, ap (λ (p : List Statement × Counts). p.1) pairs)

one_tree_and_places : (text : List ℕ) (a b : List Statement) (xs ys : List ℕ) → HasTree text a xs → HasTree text b ys → (a ≡ b) × (xs ≡ ys)
one_tree_and_places text a b xs ys (raw, m, reads, fits, places) (raw2, n, reads2, fits2, places2) =
    let one : raw2 ≡ raw = is_one_derivation text raw2 raw reads2 reads in
    let fits3 = subst (λ r. fit r ≡ Ok (b, n)) one fits2 in
    let same = same_fit a b m n (fit raw) fits fits3 in
    let counts = ap (λ (c : Counts). c.patterns) same.1 in
    (same.0, places ∙ counts ∙ sym places2)

pub one_tree : (text : List ℕ) (a b : List Statement) (xs ys : List ℕ) → HasTree text a xs → HasTree text b ys → a ≡ b
one_tree text a b xs ys left right = (one_tree_and_places text a b xs ys left right).0

-- a program of some tree of the text is that of its tree
pub one_program : (text : List ℕ) (program : List Instruction) (tree : List Statement) (places : List ℕ) → HasTree text tree places →
    ((other : List Statement) × (at : List ℕ) × HasTree text other at × (program ≡ program_of other)) → program ≡ program_of tree
one_program text program tree places has (other, at, has_other, is) = is ∙ ap program_of (one_tree text other tree at places has_other has)

pub one_site : (text : List ℕ) (a b : SiteData) → IsSiteOf text a → IsSiteOf text b → a ≡ b
one_site text a b (left, good) (right, good2) =
    let same = one_tree_and_places text a.tree b.tree a.patterns b.patterns left right in
    ap₂ (λ (t : List Statement) (p : List ℕ). record { tree = t; patterns = p }) same.0 same.1

pub no_site_at_fault : (text : List ℕ) (kind : Kind) (place : ℕ) (site : SiteData) → IsFault text kind place → IsSiteOf text site → ⊥
no_site_at_fault text kind place site fault ((raw, n, reads, fits, places), good) = is_no_tree_at_fault text kind place site.tree fault (raw, reads, (n, fits))

pub is_short : (text : List ℕ) (site : SiteData) → IsSiteOf text site → length text ≤ 65536
is_short text site ((raw, n, (tokens, cut, list), fits, places), good) = cut.short

all_at : {A : Type 0} (P : A → Type 0) (xs : List A) (n : ℕ) (x : A) → All P xs → slice_get xs n ≡ Some x → P x
all_at P xs n x all is = subst P (get_or_from_slice_get xs n x x is) (all n x (slice_get_within xs n x is))

-- a text that has a site has no fault of a pattern, where the maker refuses none as too large
pub no_site_at_pattern : (text : List ℕ) (kind : Kind) (place : ℕ) (site : SiteData) (before now : List ℕ → ℕ) → IsFaultAtPattern text kind place before now → IsSiteOf text site
    → ((pattern : List ℕ) → Rose (before pattern) (now pattern) → ⊥) → ⊥
no_site_at_pattern text kind place site before now fault (has_tree, good) none_rose = refused fault.refused
  where
    same : fault.tree ≡ site.tree
    same = one_tree text fault.tree site.tree fault.places site.patterns fault.has_tree has_tree

    is_good : IsGoodPattern fault.pattern
    is_good = all_at IsGoodPattern (pattern_texts site.tree) fault.number fault.pattern good (subst (λ (tree : List Statement). slice_get (pattern_texts tree) fault.number ≡ Some fault.pattern) same fault.is)

    refused : IsRefused kind fault.pattern before now → ⊥
    refused (inl (bad_kind, bad)) = bad is_good
    refused (inr (large_kind, rose)) = none_rose fault.pattern rose
