-- From what a regex finds to what the grammar reads in its text.
use Rattle.std.proofs.Common.{◌≡◌, ℕ, zero, suc, ◌+◌, ◌*◌, ◌<◌, ◌≤◌, ◌==◌, false, ◌∷◌, map, length, get_or, decimal, Option, None, Some, IsSomeAnd, is_some, option_map, option_and_then, refl, sym, ap, ap₂, ◌∙◌, subst, arith, string_bytes, if◌then◌else◌}
use Rattle.std.proofs.lemmas.Bool.Decides.{nat_tests}
use Rattle.std.proofs.lemmas.List.{length-map}
use Rattle.std.specs.List.{range_with_len}
use Rattle.std.specs.Str.{chars}
use Rattle.regex.specs.Bytes.{regex_source, regex_pattern, group_count}
use Rattle.regex.specs.Locations.{AreLocationsOf, location, location_count}
use Rattle.regex.specs.Names.{names_of}
use Rattle.regex.specs.Patterns.{Re, Match, Config, SameCaptures, Reads, find, span, slot_of}
use Rattle.regex.specs.Replace.{bytes_of, group_bytes}
use Rattle.regex.specs.Writes.{both, group_of}
use Rattle.regex.specs.declared.bytes.regex.Regex.{Regex}
use Rattle.regex.specs.declared.locations.CaptureLocations.{CaptureLocations}
use Rattle.regex.proofs.ForCallers.{is_match_alike, span_alike, found_alike}
use Rattle.regex_syntax.specs.Grammar.{Names, read}
use Rattle.regex_syntax.specs.Brackets.{Nested}
use Rattle.tow_model.specs.Fields.{field}
use Rattle.tow_pattern.specs.Patterns.{over_bytes, groups, pattern_bindings}
use Rattle.tow_model.specs.Texts.{Text}
use Rattle.tow_pred.specs.Built.{IsBuilt, located_groups}

-- WHAT IS READ IN THE TEXT

abbrev Found : Type 0
Found = Nested Re × Names

-- the text is read as a pattern that finds what `a` does, with so many groups
abbrev IsReadAs : Option Found → Re → ℕ → Type 0
IsReadAs o a count = IsSomeAnd o (λ p. SameCaptures a p.0.value × (length p.1 ≡ count))

counted : (o : Option Found) (a : Re) (limit count : ℕ) (names : Names) (B : Found → Type 0) → length names ≡ count
    → IsSomeAnd o (λ p. (p.0.depth ≤ limit) × SameCaptures a p.0.value × (names ≡ p.1) × B p) → IsReadAs o a count
counted None a limit count names B same is = is
counted (Some p) a limit count names B same is = (is.1, ap length (sym is.2) ∙ same)

read_as : (r : Regex) → IsBuilt r → IsReadAs (read over_bytes (chars (regex_source r))) (regex_pattern r) (group_count r)
unfolding Reads
read_as r built =
    counted _ (regex_pattern r) _ (group_count r) (names_of r.pattern.names.items) _ (length-map r.pattern.names.items (option_map string_bytes) ∙ sym r.pattern.names.ok.0)
    (subst (λ (k : Config). Reads k (regex_source r) r.pattern.program.hir (names_of r.pattern.names.items)) built.0 built.1)

-- WHERE NOTHING IS FOUND

none_of : {A : Type 0} (o : Option A) → is_some o ≡ false → o ≡ None
none_of None is = refl
none_of (Some x) is = absurd cc

none_in : (o : Option Found) (a : Re) (count : ℕ) (hay : Text) → IsReadAs o a count → ((k : ℕ) → get_or hay k 0 < 256) → find a hay 0 ≡ None
    → option_and_then (λ p. option_map (groups (length p.1) hay) (find p.0.value hay 0)) o ≡ None
none_in None a count hay is bytes e = absurd is
none_in (Some p) a count hay is bytes e =
    ap (option_map (groups (length p.1) hay)) (none_of (find p.0.value hay 0) (sym (is_match_alike is.0 hay bytes false 0) ∙ ap is_some e))

-- a regex that finds nothing binds nothing
pub nothing_found : (r : Regex) → IsBuilt r → (hay : Text) → ((k : ℕ) → get_or hay k 0 < 256) → find (regex_pattern r) hay 0 ≡ None
    → pattern_bindings (regex_source r) hay ≡ None
nothing_found r built hay bytes e = none_in _ (regex_pattern r) (group_count r) hay (read_as r built) bytes e

-- WHERE SOMETHING IS FOUND

same_some : {A : Type 0} (x y : A) → Some x ≡ Some y → x ≡ y
same_some x y e = cc

map_below : {B : Type 0} (f g : ℕ → B) (from count : ℕ) → ((n : ℕ) → from ≤ n → n < from + count → f n ≡ g n)
    → map f (range_with_len from count) ≡ map g (range_with_len from count)
map_below f g from zero same = refl
map_below f g from (suc count) same =
    ap₂ ◌∷◌ (same from (omega arith) (omega arith)) (map_below f g (from + 1) count (λ n least most. same n (omega arith) (omega arith)))

numbered : (hay : Text) (n : Match) (k : ℕ) → 1 ≤ k → bytes_of hay (group_of n k) ≡ group_bytes hay n k
numbered hay n k least =
    let other : (k == 0) ≡ false = grind (arith, nat_tests) in
    ap (λ b. bytes_of hay (if b then Some (span n) else group_of n k)) (sym other)

group_there : (hay : Text) (m n : Match) (l : CaptureLocations) (k : ℕ) → slot_of n ≡ slot_of m → span m ≡ span n → AreLocationsOf m l → k < location_count l
    → bytes_of hay (location l k) ≡ group_bytes hay n k
group_there hay m n l zero slots spans is below = ap (bytes_of hay) (is.0 below ∙ ap Some spans)
group_there hay m n l (suc k) slots spans is below =
    ap (bytes_of hay) (is.1 (suc k) (omega arith) below ∙ ap (λ f. both (f (2 * suc k)) (f (2 * suc k + 1))) (sym slots)) ∙ numbered hay n (suc k) (omega arith)

-- the groups at their locations are those of any match that stands for the same
groups_there : (hay : Text) (m n : Match) (l : CaptureLocations) (count : ℕ) → slot_of n ≡ slot_of m → span m ≡ span n → AreLocationsOf m l
    → location_count l ≡ count → located_groups hay l ≡ groups count hay n
groups_there hay m n l count slots spans is same =
    map_below _ _ 0 (location_count l) (λ k least most. ap (field (decimal k)) (group_there hay m n l k slots spans is (omega (arith, most))))
    ∙ ap (λ k. groups k hay n) same

some_in : (o : Option Found) (a : Re) (count : ℕ) (hay : Text) → IsReadAs o a count → ((k : ℕ) → get_or hay k 0 < 256)
    → (m : Match) → find a hay 0 ≡ Some m → (l : CaptureLocations) → AreLocationsOf m l → location_count l ≡ count
    → Some (located_groups hay l) ≡ option_and_then (λ p. option_map (groups (length p.1) hay) (find p.0.value hay 0)) o
some_in None a count hay is bytes m e l at same = absurd is
some_in (Some p) a count hay is bytes m e l at same =
    let f = found_alike is.0 hay bytes false 0 m e in
    let spans = span_alike is.0 hay bytes false 0 in
    let same_span : span m ≡ span f.0 = same_some _ _ (ap (option_map span) (sym e) ∙ spans ∙ ap (option_map span) f.1) in
    ap Some (groups_there hay m f.0 l (length p.1) f.2 same_span at (same ∙ sym is.1)) ∙ ap (option_map (groups (length p.1) hay)) (sym f.1)

-- a regex that finds a match binds its groups
pub match_found : (r : Regex) → IsBuilt r → (hay : Text) → ((k : ℕ) → get_or hay k 0 < 256) → (m : Match) → find (regex_pattern r) hay 0 ≡ Some m
    → (l : CaptureLocations) → AreLocationsOf m l → location_count l ≡ group_count r → Some (located_groups hay l) ≡ pattern_bindings (regex_source r) hay
match_found r built hay bytes m e l at same = some_in _ (regex_pattern r) (group_count r) hay (read_as r built) bytes m e l at same
