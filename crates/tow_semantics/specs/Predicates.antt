-- Whether a predicate holds, and what it binds.
use Rattle.std.specs.Prelude.{◌≡◌, ◌++◌, All, slice_get, ℕ, Bool, true, false, not, List, [], ◌∷◌, map, filter, length, drop, fold, nat_lt, if◌then◌else◌, Option, Some, None, option_map, codes}
use Rattle.std.specs.List.{list_any, list_all}
use Rattle.std.specs.Str.{bytes_eq}
use Rattle.tow_model.specs.declared.request.Field.{Field}
use Rattle.tow_model.specs.declared.request.Request.{Request}
use Rattle.tow_model.specs.declared.record.Record.{Record}
use Rattle.tow_model.specs.declared.predicate.Test.{Test}
use Rattle.tow_model.specs.declared.predicate.Test.TheVariants.{True, False, Path, Prefix, Suffix, PathTemplate, Regex, Method, Equals, Contains, Exists}
use Rattle.tow_model.specs.declared.predicate.Predicate.{Predicate, fold-Predicate}
use Rattle.tow_model.specs.declared.predicate.Predicate.TheOpen.{Predicate-F, Is, Not, And, Or}
use Rattle.tow_model.specs.Texts.{Text, is_empty, is_among, ends_in, contains}
use Rattle.tow_model.specs.Fields.{field, bind}
use Rattle.tow_model.specs.Paths.{is_prefix, template_bindings}
use Rattle.tow_pattern.specs.Patterns.{pattern_bindings}
use Rattle.tow_semantics.specs.Values.{value_of}

-- TESTS: the bindings of a test that holds, and nothing for one that does not

abbrev pub where_true : Bool → Option (List Field)
where_true holds = if holds then Some [] else None

-- the longest of the texts
abbrev pub longest : List Text → Option Text
longest [] = None
longest (p ∷ ps) = Some (fold (λ best t. if nat_lt (length best) (length t) then t else best) p ps)

-- what the longest prefix leaves of the path
abbrev pub prefix_bindings : List Text → Text → Option (List Field)
prefix_bindings prefixes path =
    option_map (λ p. field (codes "remaining") (drop (length p) path) ∷ []) (longest (filter (λ p. is_prefix p path) prefixes))

abbrev pub all_same : List Text → Bool
all_same [] = true
all_same (v ∷ vs) = list_all (bytes_eq v) vs

abbrev pub test_of : Test → Request → Record → ℕ → Option (List Field)
test_of True q x m = Some []
test_of False q x m = None
test_of (Path paths) q x m = where_true (is_among x.path paths)
test_of (Prefix prefixes) q x m = prefix_bindings prefixes x.path
test_of (Suffix suffixes) q x m = where_true (list_any (λ s. ends_in s x.path) suffixes)
test_of (PathTemplate parts value) q x m = template_bindings parts (value_of value q x m)
test_of (Regex number pattern value) q x m = pattern_bindings pattern (value_of value q x m)
test_of (Method methods) q x m = where_true (is_among q.method methods)
test_of (Equals values) q x m = where_true (all_same (map (λ v. value_of v q x m) values))
test_of (Contains value search) q x m = where_true (list_any (λ s. contains s (value_of value q x m)) search)
test_of (Exists value) q x m = where_true (not (is_empty (value_of value q x m)))

-- PREDICATES

-- whether it holds, and the record, which differs in its context alone
pub record Held : Type 0 where
  pub holds : Bool
  pub state : Record

-- the record with the bindings, in their order
abbrev pub bound : List Field → Record → Record
bound bindings x = record x { context = fold (λ context f. bind f context) x.context bindings }

abbrev pub held : Option (List Field) → Record → Held
held None x = record { holds = false; state = x }
held (Some bindings) x = record { holds = true; state = bound bindings x }

-- the right side is looked at only where the left one decides nothing
abbrev pub holds_by : Request → ℕ → Predicate-F (Record → Held) → Record → Held
holds_by q m (Is test) x = held (test_of test q x m) x
holds_by q m (Not p) x = record (p x) { holds = not (p x).holds }
holds_by q m (And a b) x = elim (a x).holds [ true ↦ b (a x).state | false ↦ a x ]
holds_by q m (Or a b) x = elim (a x).holds [ true ↦ a x | false ↦ b (a x).state ]

abbrev pub holds_of : Predicate → Request → Record → ℕ → Held
holds_of p q x m = fold-Predicate (Record → Held) (holds_by q m) p x

-- THE PATTERNS OF A PREDICATE, which a scratch has to be made for

abbrev pub pattern_of : Test → List (ℕ × Text)
pattern_of (Regex number pattern value) = (number, pattern) ∷ []
pattern_of other = []

abbrev pub patterns_by : Predicate-F (List (ℕ × Text)) → List (ℕ × Text)
patterns_by (Is test) = pattern_of test
patterns_by (Not p) = p
patterns_by (And a b) = a ++ b
patterns_by (Or a b) = a ++ b

-- the regex tests of a predicate, each with its number and pattern
abbrev pub patterns_in : Predicate → List (ℕ × Text)
patterns_in = fold-Predicate (List (ℕ × Text)) patterns_by

-- each has the number and the pattern of one of these
abbrev pub AreAmong : List (ℕ × Text) → List Text → Type 0
AreAmong tests patterns = All (λ t. slice_get patterns t.0 ≡ Some t.1) tests
