-- Paths that a folder's calls take.
use Rattle.std.proofs.Common.{◌≡◌, ℕ, ◌+◌, ◌-◌, ◌<◌, Bool, true, false, not, ◌&&◌, ◌||◌, ◌==◌, nat_eq, [], ◌∷◌, ◌++◌, length, take, drop, get_or, codes, refl, sym, ap, subst, ◌∙◌, arith, length-append, append_assoc, Result, Ok, Err}
use Rattle.std.proofs.lemmas.Bool.Decides.{nat_tests}
use Rattle.std.proofs.lemmas.Slice.Eq.{bytes_eq-Decides}
use Rattle.std.proofs.Math.Seq.{get_or-append_seam, take-append_seam}
use Rattle.std.proofs.lemmas.List.{take-append-drop}
use Rattle.std.proofs.lemmas.List.Folds.{list_any-append}
use Rattle.std.proofs.lemmas.Str.{IsUtf8-from_is_utf8, is_utf8-from_IsUtf8, IsUtf8-append, IsUtf8-take, IsCharBoundary-before_ascii}
use Rattle.std.specs.List.{list_all, list_any}
use Rattle.std.specs.Result.{MatchResult, is_ok}
use Rattle.std.specs.Str.{bytes_eq, is_utf8, IsUtf8}
use Rattle.tow_model.specs.Texts.{Text, begins_with, but_last, cut_at, ends_in, is_empty}
use Rattle.tow_model.specs.Paths.{slash}
use Rattle.tow_folder.specs.Folders.{is_askable}
use Rattle.tow_semantics.specs.Pages.{is_servable}
use Rattle.tow_page.specs.Segments.{all_filled, are_filled, Plain}
use Rattle.tow_page.proofs.Segments.{all_is, filled_is, before_slash, with_name, without_end, ends_later}

-- what makes a path askable or servable, fact by fact
record Clean (path : Text) : Type 0 where
  utf8 : is_utf8 path ≡ true
  rooted : begins_with (codes "/") path ≡ true
  no_zero : list_any (λ b. b == 0) path ≡ false

no_zeros : Text → Bool
no_zeros path = not (list_any (λ b. b == 0) path)

four : (a b c d : Bool) → (a && b && c && d) ≡ true → (a ≡ true) × (b ≡ true) × (c ≡ true) × (d ≡ true)
four true true true d is = (refl, refl, refl, is)
four true true false d is = absurd (cc)
four true false c d is = absurd (cc)
four false b c d is = absurd (cc)

untrue : (a : Bool) → not a ≡ true → a ≡ false
untrue true is = sym is
untrue false is = refl

-- what is askable, fact by fact
askable : (path : Text) → Clean path → list_all (λ s. not (is_empty s)) (cut_at slash (drop 1 path)) ≡ true → is_askable path ≡ true
askable path clean filled =
    by (bytes_eq path (codes "/")) (begins_with (codes "/") path) (list_all (λ s. not (is_empty s)) (cut_at slash (drop 1 path)))
    (is_utf8 path) (list_any (λ b. b == 0) path) clean.rooted filled clean.utf8 clean.no_zero
  where
    by : (root begins all utf8 zero : Bool) → begins ≡ true → all ≡ true → utf8 ≡ true → zero ≡ false →
        (root || ((begins && all) && utf8 && not zero)) ≡ true
    by true begins all utf8 zero b a u z = refl
    by false true true true false b a u z = refl
    by false true true true true b a u z = sym z
    by false true true false zero b a u z = u
    by false true false utf8 zero b a u z = a
    by false false all utf8 zero b a u z = b

-- a servable path is clean, and its segments but the last are filled
servable : (path : Text) → is_servable path ≡ true → Clean path × (are_filled true (drop 1 path) ≡ true)
servable path is =
    let facts = four (is_utf8 path) (begins_with (codes "/") path) (not (list_any (λ b. b == 0) path))
    (list_all (λ s. not (is_empty s)) (but_last (cut_at slash (drop 1 path)))) is in
    (record { utf8 = facts.0; rooted = facts.1; no_zero = untrue (list_any (λ b. b == 0) path) facts.2 }, filled_is (drop 1 path) ∙ facts.3)

-- a path that begins with a `/`
rooted_is : (b : ℕ) (bs : Text) → begins_with (codes "/") (b ∷ bs) ≡ true → b ≡ slash
rooted_is b bs is = by (nat_eq 47 b) refl is
  where
    by : (t : Bool) → nat_eq 47 b ≡ t → (t && true) ≡ true → b ≡ slash
    by true e is = grind (arith, nat_tests, e)
    by false e is = absurd (cc)

pub file_is_askable : (path : Text) → is_servable path ≡ true → ends_in (codes "/") path ≡ false → is_askable path ≡ true
file_is_askable [] is other = let rooted = (servable [] is).0.rooted in absurd (cc)
file_is_askable (b ∷ []) is other =
    let root : ends_in (codes "/") (slash ∷ []) ≡ false = ap (λ c. ends_in (codes "/") (c ∷ [])) (sym (rooted_is b [] (servable (b ∷ []) is).0.rooted)) ∙ other in
    absurd (cc)
file_is_askable (b ∷ c ∷ bs) is other =
    let facts = servable (b ∷ c ∷ bs) is in
    askable (b ∷ c ∷ bs) facts.0 (sym (all_is (c ∷ bs)) ∙ without_end true c bs (sym (ends_later b c bs) ∙ other) facts.1)

-- a text before a `/` is UTF-8 with it
cut_utf8 : (d : Text) → is_utf8 (d ++ slash ∷ []) ≡ true → is_utf8 d ≡ true
cut_utf8 d is =
    let whole : IsUtf8 (d ++ slash ∷ []) = IsUtf8-from_is_utf8 (d ++ slash ∷ []) is in
    let within : length d < length (d ++ slash ∷ []) = omega (arith, length-append d (slash ∷ [])) in
    let low : get_or (d ++ slash ∷ []) (length d) 0 < 128 = omega (arith, get_or-append_seam d slash [] 0) in
    let front : IsUtf8 (take (length d) (d ++ slash ∷ [])) = IsUtf8-take (d ++ slash ∷ []) (length d) whole (IsCharBoundary-before_ascii (d ++ slash ∷ []) (length d) within low) in
    is_utf8-from_IsUtf8 d (subst IsUtf8 (take-append_seam d (slash ∷ [])) front)

-- a text is read as UTF-8 exactly if it is that
pub text_is : {S E : Type 0} (P : S → Type 0) (Q : E → Type 0) (path : Text) (r : Result S E) → MatchResult r (λ s. P s × IsUtf8 path) (λ e. (IsUtf8 path → ⊥) × Q e) → is_ok r ≡ is_utf8 path
text_is P Q path (Ok s) h = sym (is_utf8-from_IsUtf8 path h.1)
text_is P Q path (Err e) h = by (is_utf8 path) refl
  where
    by : (t : Bool) → is_utf8 path ≡ t → false ≡ t
    by true is = absurd (h.0 (IsUtf8-from_is_utf8 path is))
    by false is = refl

-- a path that ends in a `/` is what stands before it, and the `/`
pub ends_split : (path : Text) → ends_in (codes "/") path ≡ true → path ≡ take (length path - 1) path ++ slash ∷ []
ends_split path ends =
    sym (take-append-drop (length path - 1) path)
    ∙ ap (λ t. take (length path - 1) path ++ t) (sym ((bytes_eq-Decides (codes "/") (drop (length path - 1) path)).0 ends))

either_false : (a b : Bool) → (a || b) ≡ false → a ≡ false
either_false true b is = is
either_false false b is = refl

before_it : (d : Text) → is_servable (d ++ slash ∷ []) ≡ true → (d ≡ [] → ⊥) → is_askable d ≡ true
before_it [] is some = absurd (some refl)
before_it (b ∷ bs) is some =
    let facts = servable (b ∷ bs ++ slash ∷ []) is in
    askable (b ∷ bs)
    (record {
      utf8 = cut_utf8 (b ∷ bs) facts.0.utf8;
      rooted = facts.0.rooted;
      no_zero = either_false (list_any (λ b. b == 0) (b ∷ bs)) (list_any (λ b. b == 0) (slash ∷ []))
          (sym (list_any-append (λ b. b == 0) (b ∷ bs) (slash ∷ [])) ∙ facts.0.no_zero);
    })
    (sym (all_is bs) ∙ sym (before_slash true bs) ∙ facts.1)

pub directory_is_askable : (path : Text) → is_servable path ≡ true → ends_in (codes "/") path ≡ true → (length path ≡ 1 → ⊥) →
    is_askable (take (length path - 1) path) ≡ true
directory_is_askable path is ends long =
    let split = ends_split path ends in
    before_it (take (length path - 1) path) (ap is_servable (sym split) ∙ is)
    (λ none. let one : length path ≡ 1 = ap length split ∙ ap (λ (t : Text). length (t ++ slash ∷ [])) none in long one)

neither : (a b : Bool) → a ≡ false → b ≡ false → (a || b) ≡ false
neither true b l r = l
neither false b l r = r

both : (a b : Bool) → a ≡ true → b ≡ true → (a && b) ≡ true
both true b l r = r
both false b l r = l

clean_with : (d name : Text) → Clean (d ++ slash ∷ []) → begins_with (codes "/") ((d ++ slash ∷ []) ++ name) ≡ true → Plain name → Clean ((d ++ slash ∷ []) ++ name)
clean_with d name clean rooted plain = record {
  utf8 = is_utf8-from_IsUtf8 ((d ++ slash ∷ []) ++ name) (IsUtf8-append (d ++ slash ∷ []) name (IsUtf8-from_is_utf8 (d ++ slash ∷ []) clean.utf8) (IsUtf8-from_is_utf8 name plain.utf8));
  rooted = rooted;
  no_zero = list_any-append (λ b. b == 0) (d ++ slash ∷ []) name
      ∙ neither (list_any (λ b. b == 0) (d ++ slash ∷ [])) (list_any (λ b. b == 0) name) clean.no_zero plain.no_zero;
}

named : (d name : Text) → is_servable (d ++ slash ∷ []) ≡ true → Plain name → is_askable ((d ++ slash ∷ []) ++ name) ≡ true
named [] name is plain =
    let facts = servable (slash ∷ []) is in
    askable (slash ∷ name) (clean_with [] name facts.0 refl plain) (sym (all_is name) ∙ plain.filled)
named (b ∷ bs) name is plain =
    let facts = servable (b ∷ bs ++ slash ∷ []) is in
    askable ((b ∷ bs ++ slash ∷ []) ++ name) (clean_with (b ∷ bs) name facts.0 facts.0.rooted plain)
    (ap (λ t. list_all (λ s. not (is_empty s)) (cut_at slash t)) (append_assoc bs (slash ∷ []) name)
    ∙ sym (all_is (bs ++ slash ∷ name)) ∙ with_name true bs name
    ∙ both (all_filled true bs) (all_filled true name) (sym (before_slash true bs) ∙ facts.1) plain.filled)

pub welcome_is_askable : (directory name : Text) → is_servable directory ≡ true → ends_in (codes "/") directory ≡ true → Plain name →
    is_askable (directory ++ name) ≡ true
welcome_is_askable directory name is ends plain =
    let split = ends_split directory ends in
    ap (λ (t : Text). is_askable (t ++ name)) split ∙ named (take (length directory - 1) directory) name (ap is_servable (sym split) ∙ is) plain
