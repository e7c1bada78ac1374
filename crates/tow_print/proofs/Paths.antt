-- Paths, prefixes and paths with names in braces are read from what they are printed as.
use Rattle.std.specs.Prelude.{◌≡◌, ◌⊎◌, ℕ, Bool, true, false, ◌&&◌, ◌||◌, ◌==◌, nat_le, List, [], ◌∷◌, ◌++◌, map, length, codes, if◌then◌else◌, Option, None, Some, option_map, option_and_then}
use Rattle.std.specs.List.{list_all, list_any, join_with_byte}
use Rattle.std.proofs.Common.{refl, sym, ap, ap₂, ◌∙◌, subst}
use Rattle.std.proofs.lemmas.Bool.{eqb-true}
use Rattle.std.proofs.lemmas.List.Splits.{join_with_byte-slice_split}
use mathlib.Core.Logic.{inl, inr}
use Rattle.tow_model.specs.declared.predicate.Segment.{Segment}
use Rattle.tow_model.specs.declared.predicate.Segment.TheVariants.{Fixed, Bind}
use Rattle.tow_language.specs.Tokens.{last_byte}
use Rattle.tow_model.specs.Texts.{begins_with, cut_at}
use Rattle.tow_model.specs.Paths.{slash, rooted}
use Rattle.tow_language.specs.Shapes.{without_last_slashes, prefix_of, is_name_byte, before_brace, segment_of, all_some, are_names_apart, segments_of}
use Rattle.tow_language.specs.Printed.{spelled_segment}
use Rattle.tow_attr.proofs.Shapes.{last_added}
use Rattle.tow_fit.proofs.Slashes.{slash_goes}
use Rattle.tow_print.proofs.Texts.{IsFine}
use Rattle.tow_print.proofs.Textual.{any_before}
use Rattle.tow_print.proofs.Fits.{with_slash, spelled_match}

-- a leading `/` does no harm
slash_fine : (path : List ℕ) → IsFine path → IsFine (47 ∷ path)
slash_fine [] f = inr refl
slash_fine (b ∷ bs) (inl e) = inl e
slash_fine (b ∷ bs) (inr e) = inr e

pub rooted_fine : (path : List ℕ) → IsFine path → IsFine (rooted path)
rooted_fine path fine = by_test (begins_with (codes "/") path)
  where
    by_test : (t : Bool) → IsFine (if t then path else slash ∷ path)
    by_test true = fine
    by_test false = slash_fine path fine

pub rooted_twice : (path : List ℕ) → rooted (rooted path) ≡ rooted path
rooted_twice path = by_test (begins_with (codes "/") path) refl
  where
    by_test : (t : Bool) → begins_with (codes "/") path ≡ t → rooted (if t then path else slash ∷ path) ≡ (if t then path else slash ∷ path)
    by_test true e = ap (λ t. if t then path else slash ∷ path) e
    by_test false e = refl

-- a rooted path begins with `/`
begins_so : (path : List ℕ) → begins_with (codes "/") path ≡ true → (more : List ℕ) × (path ≡ 47 ∷ more)
begins_so [] e = absurd (cc)
begins_so (b ∷ bs) e = by_test (47 == b) refl e
  where
    by_test : (t : Bool) → (47 == b) ≡ t → (t && true) ≡ true → (more : List ℕ) × (b ∷ bs ≡ 47 ∷ more)
    by_test true f g = (bs, ap (λ k. k ∷ bs) (sym (eqb-true 47 b f)))
    by_test false f g = absurd (cc)

rooted_begins : (path : List ℕ) → (more : List ℕ) × (rooted path ≡ 47 ∷ more)
rooted_begins path = by_test (begins_with (codes "/") path) refl
  where
    by_test : (t : Bool) → begins_with (codes "/") path ≡ t → (more : List ℕ) × ((if t then path else slash ∷ path) ≡ 47 ∷ more)
    by_test true e = begins_so path e
    by_test false e = (path, refl)

without_twice : (path : List ℕ) → without_last_slashes (without_last_slashes path) ≡ without_last_slashes path
without_twice [] = refl
without_twice (b ∷ bs) = by_rest (without_last_slashes bs) refl (without_twice bs)
  where
    by_byte : (t : Bool) → (b == 47) ≡ t → without_last_slashes (if t then [] else b ∷ []) ≡ (if t then [] else b ∷ [])
    by_byte true e = refl
    by_byte false e = rw e

    by_rest : (rest : List ℕ) → without_last_slashes bs ≡ rest → without_last_slashes rest ≡ rest → without_last_slashes (without_last_slashes (b ∷ bs)) ≡ without_last_slashes (b ∷ bs)
    by_rest [] e h = rw e (by_byte (b == 47) refl)
    by_rest (c ∷ cs) e h = rw e (rw h)

-- the text of a prefix is empty or begins with `/`, and gives the prefix
slash_again : (p : List ℕ) → without_last_slashes p ≡ p → (t : Bool) → without_last_slashes (if t then p ++ codes "/" else p) ≡ p
slash_again p e true = slash_goes p ∙ e
slash_again p e false = e

rooted_slash : (more : List ℕ) (t : Bool) → rooted (if t then (47 ∷ more) ++ codes "/" else 47 ∷ more) ≡ (if t then (47 ∷ more) ++ codes "/" else 47 ∷ more)
rooted_slash more true = refl
rooted_slash more false = refl

rooted_again : (p : List ℕ) → without_last_slashes p ≡ p → (p ≡ []) ⊎ ((more : List ℕ) × (p ≡ 47 ∷ more)) → prefix_of (with_slash p) ≡ p
rooted_again p e (inl f) = subst (λ k. prefix_of (with_slash k) ≡ k) (sym f) refl
rooted_again p e (inr (more, f)) =
    let g : without_last_slashes (47 ∷ more) ≡ 47 ∷ more = subst (λ k. without_last_slashes k ≡ k) f e in
    subst (λ k. prefix_of (with_slash k) ≡ k) (sym f)
    (ap without_last_slashes (rooted_slash more (last_byte 92 (47 ∷ more) == 92)) ∙ slash_again (47 ∷ more) g (last_byte 92 (47 ∷ more) == 92))

begun_so : (more : List ℕ) → (without_last_slashes (47 ∷ more) ≡ []) ⊎ ((rest : List ℕ) × (without_last_slashes (47 ∷ more) ≡ 47 ∷ rest))
begun_so more = by_rest (without_last_slashes more) refl
  where
    by_rest : (rest : List ℕ) → without_last_slashes more ≡ rest → (without_last_slashes (47 ∷ more) ≡ []) ⊎ ((rest : List ℕ) × (without_last_slashes (47 ∷ more) ≡ 47 ∷ rest))
    by_rest [] e = inl (rw e)
    by_rest (c ∷ cs) e = inr (c ∷ cs, rw e)

pub prefix_again : (text : List ℕ) → prefix_of (with_slash (prefix_of text)) ≡ prefix_of text
prefix_again text =
    let r = rooted_begins text in
    rooted_again (prefix_of text) (without_twice (rooted text))
    (subst (λ k. (without_last_slashes k ≡ []) ⊎ ((rest : List ℕ) × (without_last_slashes k ≡ 47 ∷ rest))) (sym r.1) (begun_so r.0))

pub with_slash_fine : (p : List ℕ) → IsFine (with_slash p)
with_slash_fine p = by_test (last_byte 92 p == 92) refl
  where
    by_test : (t : Bool) → (last_byte 92 p == 92) ≡ t → IsFine (if t then p ++ codes "/" else p)
    by_test true e = inr (ap (λ b. b == 92) (last_added p 39 47))
    by_test false e = inr (any_before 92 p e)

-- the first gives a value, and the second with it
pub some_then : {A B : Type 0} (o : Option A) (f : A → Option B) (y : B) → option_and_then f o ≡ Some y → (x : A) × (o ≡ Some x) × (f x ≡ Some y)
some_then None f y e = absurd (cc)
some_then (Some x) f y e = (x, refl, e)

pub some_mapped : {A B : Type 0} (o : Option A) (f : A → B) (y : B) → option_map f o ≡ Some y → (x : A) × (o ≡ Some x) × (f x ≡ y)
some_mapped None f y e = absurd (cc)
some_mapped (Some x) f y e = (x, refl, cc)

pub some_if : {A : Type 0} (t : Bool) (x y : A) → (if t then Some x else None) ≡ Some y → (t ≡ true) × (x ≡ y)
some_if true x y e = (refl, cc)
some_if false x y e = absurd (cc)

before_is : (bs name : List ℕ) → before_brace bs ≡ Some name → bs ≡ name ++ 125 ∷ []
before_is [] name e = absurd (cc)
before_is (b ∷ []) name e = let s = some_if (b == 125) [] name e in ap₂ (λ x xs. xs ++ x ∷ []) (eqb-true b 125 s.0) s.1
before_is (b ∷ c ∷ bs) name e =
    let s = some_mapped (before_brace (c ∷ bs)) (λ more. b ∷ more) name e in
    ap (λ k. b ∷ k) (before_is (c ∷ bs) s.0 s.1) ∙ ap (λ k. k ++ 125 ∷ []) s.2

-- a segment is spelled as it was written
segment_is : (s : List ℕ) (part : Segment) → segment_of s ≡ Some part → spelled_segment part ≡ s
segment_is [] part e = let f : Fixed [] ≡ part = cc in ap spelled_segment (sym f)
segment_is (b ∷ bs) part e = by_test (b == 123) refl e
  where
    plain : (t : Bool) → (if t then None else Some (Fixed (b ∷ bs))) ≡ Some part → spelled_segment part ≡ b ∷ bs
    plain true f = absurd (cc)
    plain false f = let g : Fixed (b ∷ bs) ≡ part = cc in ap spelled_segment (sym g)

    by_test : (t : Bool) → (b == 123) ≡ t → (if t then option_and_then (λ name. if nat_le 1 (length name) && list_all is_name_byte name then Some (Bind name) else None) (before_brace bs)
        else (if list_any (λ c. c == 123 || c == 125) (b ∷ bs) then None else Some (Fixed (b ∷ bs)))) ≡ Some part → spelled_segment part ≡ b ∷ bs
    by_test true f g =
        let s = some_then (before_brace bs) (λ name. if nat_le 1 (length name) && list_all is_name_byte name then Some (Bind name) else None) part g in
        let n = some_if (nat_le 1 (length s.0) && list_all is_name_byte s.0) (Bind s.0) part s.2 in
        ap spelled_segment (sym n.1) ∙ ap₂ (λ x xs. x ∷ xs) (sym (eqb-true b 123 f)) (sym (before_is bs s.0 s.1))
    by_test false f g = plain (list_any (λ c. c == 123 || c == 125) (b ∷ bs)) g

segments_are : (pieces : List (List ℕ)) (parts : List Segment) → all_some (map segment_of pieces) ≡ Some parts → map spelled_segment parts ≡ pieces
segments_are [] parts e = let f : [] ≡ parts = cc in ap (map spelled_segment) (sym f)
segments_are (s ∷ ss) parts e =
    let a = some_then (segment_of s) (λ x. option_map (λ xs. x ∷ xs) (all_some (map segment_of ss))) parts e in
    let b = some_mapped (all_some (map segment_of ss)) (λ xs. a.0 ∷ xs) parts a.2 in
    ap (map spelled_segment) (sym b.2) ∙ ap₂ (λ x xs. x ∷ xs) (segment_is s a.0 a.1) (segments_are ss b.0 b.1)

-- the text of the segments of a path is the path with its leading `/`
pub match_is : (text : List ℕ) (parts : List Segment) → segments_of text ≡ Some parts → spelled_match parts ≡ rooted text
match_is text parts e =
    let a = some_then (all_some (map segment_of (cut_at 47 (rooted text)))) (λ parts. if are_names_apart parts then Some parts else None) parts e in
    let b = some_if (are_names_apart a.0) a.0 parts a.2 in
    ap spelled_match (sym b.1) ∙ ap (join_with_byte 47) (segments_are (cut_at 47 (rooted text)) a.0 a.1) ∙ join_with_byte-slice_split 47 (rooted text)

pub match_again : (text : List ℕ) (parts : List Segment) → segments_of text ≡ Some parts → segments_of (spelled_match parts) ≡ Some parts
match_again text parts e =
    ap segments_of (match_is text parts e)
    ∙ ap (λ k. option_and_then (λ parts. if are_names_apart parts then Some parts else None) (all_some (map segment_of (cut_at 47 k)))) (rooted_twice text) ∙ e
