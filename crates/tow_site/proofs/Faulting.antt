-- The fault of a text for one of its patterns.
use Rattle.std.proofs.Common.{◌≡◌, inl, inr, ℕ, ◌<◌, List, All, Option, Some, None, IfSome, IsSomeAnd, length, take, slice_get, refl, sym, ◌∙◌, ap, subst}
use Rattle.std.specs.Prelude.{slice_index}
use Rattle.std.proofs.lemmas.List.{length-map}
use Rattle.std.proofs.lemmas.Option.{slice_get-get_or, slice_get_within}
use Rattle.tow_language.specs.declared.kind.Kind.{Kind}
use Rattle.tow_language.specs.declared.kind.Kind.TheVariants as kinds
use Rattle.tow_model.specs.declared.statement.Statement.{Statement}
use Rattle.tow_pattern.specs.Patterns.{IsGoodPattern}
use Rattle.tow_pred.specs.Faults as tests
use Rattle.tow_pred.specs.Numbering.{IsNumbered, tree_patterns}
use Rattle.tow_pred.specs.declared.fault.PatternFault.{PatternFault}
use Rattle.tow_pred.specs.declared.fault.PatternFault.TheVariants.{BadPattern, LargePattern, NoMemory}
use Rattle.tow_site.specs.Compiled.{HasTree, IsFaultOfText, IsFaultAtPattern, IsRefused, pattern_fault, pattern_texts, refused_number}
use Rattle.tow_site.proofs.Numbering.{are_numbered, have_places}

pub is_numbered : (text : List ℕ) (tree : List Statement) (places : List ℕ) → HasTree text tree places → IsNumbered tree
is_numbered text tree places (raw, n, reads, fits, same) = are_numbered raw tree n fits

-- each pattern has a place
placed : (text : List ℕ) (tree : List Statement) (places : List ℕ) → HasTree text tree places → length places ≡ length (pattern_texts tree)
placed text tree places (raw, n, reads, fits, same) = ap (λ (l : List ℕ). length l) same ∙ have_places raw tree n fits ∙ sym (length-map (tree_patterns tree) (λ t. t.1))

within : {A : Type 0} (xs : List A) (n : ℕ) (P : A → Type 0) → IsSomeAnd (slice_get xs n) P → n < length xs
within {A = A} xs n P is = here (slice_get xs n) refl is
  where
    here : (o : Option A) → slice_get xs n ≡ o → IsSomeAnd o P → n < length xs
    here None none is = absurd is
    here (Some x) some is = slice_get_within xs n x some

module _ (text : List ℕ) (tree : List Statement) (places : List ℕ) (has_tree : HasTree text tree places) (before now : List ℕ → ℕ) where
  there : (n : ℕ) (P : List ℕ → Type 0) → IsSomeAnd (slice_get (pattern_texts tree) n) P → n < length places
  there n P is = subst (λ k. n < k) (sym (placed text tree places has_tree)) (within (pattern_texts tree) n P is)

  -- the pattern that is refused has a place
  pub has_place : (fault : PatternFault) → tests.IsPatternFault (pattern_texts tree) before now fault → IfSome (refused_number fault) (λ n. n < length places)
  has_place (BadPattern n) is = there n _ is.0
  has_place (LargePattern n) is = there n _ is.0
  has_place NoMemory is = tt

  refused_at : (kind : Kind) (n : ℕ) (P : List ℕ → Type 0) → IsSomeAnd (slice_get (pattern_texts tree) n) P → All IsGoodPattern (take n (pattern_texts tree))
      → ((pattern : List ℕ) → P pattern → IsRefused kind pattern before now) → IsFaultAtPattern text kind (slice_index places n) before now
  refused_at kind n P is good refused = here (slice_get (pattern_texts tree) n) refl is
    where
      here : (o : Option (List ℕ)) → slice_get (pattern_texts tree) n ≡ o → IsSomeAnd o P → IsFaultAtPattern text kind (slice_index places n) before now
      here None none is = absurd is
      here (Some pattern) some is = record {
        tree = tree;
        places = places;
        number = n;
        pattern = pattern;
        has_tree = has_tree;
        stands = slice_get-get_or places n 0 (there n P (subst (λ o. IsSomeAnd o P) (sym some) is));
        is = some;
        first = good;
        refused = refused pattern is;
      }

  -- the fault of the text
  pub is_fault : (fault : PatternFault) → tests.IsPatternFault (pattern_texts tree) before now fault → IsFaultOfText text before now (pattern_fault text places fault)
  is_fault (BadPattern n) is =
      (slice_index places n, inr (refused_at kinds.BadPattern n _ is.0 is.1 (λ pattern bad. inl (refl, bad))), refl)
  is_fault (LargePattern n) is =
      (slice_index places n, inr (refused_at kinds.LargePattern n _ is.0 is.1 (λ pattern large. inr (refl, large))), refl)
  is_fault NoMemory is = tt
