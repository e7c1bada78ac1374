-- What `compile` gives: the site of a text, or its first fault with line and column.
use Rattle.std.specs.Prelude.{◌≡◌, ◌⊎◌, ℕ, List, map, take, All, Option, Some, None, Ok, slice_get, slice_index, refl}
use Rattle.std.specs.Coded.{Coded, code_by, coded×, coded_list, coded_ℕ}
use Rattle.tow_model.specs.contracts.statement.Statement.{the_row}
use Rattle.tow_link.specs.Data.{Rose}
use Rattle.tow_language.specs.declared.kind.Kind.{Kind}
use Rattle.tow_language.specs.declared.kind.Kind.TheVariants.{BadPattern, LargePattern}
use Rattle.tow_model.specs.declared.statement.Statement.{Statement}
use Rattle.tow_language.specs.Raw.{RawList}
use Rattle.tow_language.specs.Syntax.{Reads}
use Rattle.tow_language.specs.Fit.{Counts, fit}
use Rattle.tow_language.specs.Fault.{IsFault, line_of, column_of}
use Rattle.tow_pattern.specs.Patterns.{IsGoodPattern}
use Rattle.tow_pred.specs.declared.fault.PatternFault.{PatternFault}
use Rattle.tow_pred.specs.declared.fault.PatternFault.TheVariants as patterns
use Rattle.tow_pred.specs.Numbering.{tree_patterns}
use Rattle.tow_site.specs.declared.fault.Fault.{Fault}
use Rattle.tow_site.specs.declared.fault.Fault.TheVariants.{Text, NoMemory}

-- a site as contracts see it: its tree, and the place of each pattern's value
pub record SiteData : Type 0 where
  pub tree : List Statement
  pub patterns : List ℕ

-- stored as the pair of its parts
abbrev pub site_code : Coded SiteData
site_code =
    code_by (List Statement × List ℕ) (coded× (coded_list the_row.coded) (coded_list coded_ℕ)) (λ s. (s.tree, s.patterns))
    (λ p. record { tree = p.0; patterns = p.1 }) (λ _. refl)

-- the patterns of a tree, in the order of the text
abbrev pub pattern_texts : List Statement → List (List ℕ)
pattern_texts tree = map (λ t. t.1) (tree_patterns tree)

-- the text has a derivation that fits, with this tree and these places of the patterns' values
abbrev pub HasTree : List ℕ → List Statement → List ℕ → Type 0
HasTree text tree places = (raw : RawList) × (n : Counts) × Reads text raw × (fit raw ≡ Ok (tree, n)) × (places ≡ n.patterns)

-- the text has this tree and these places, and each of its patterns is in the grammar of `regex`
abbrev pub IsSiteOf : List ℕ → SiteData → Type 0
IsSiteOf text site = HasTree text site.tree site.patterns × All IsGoodPattern (pattern_texts site.tree)

-- THE FAULT OF A TEXT

-- why a pattern is refused: it is not in the grammar, or the maker refused it as too large, and counted that
abbrev pub IsRefused : Kind → List ℕ → (List ℕ → ℕ) → (List ℕ → ℕ) → Type 0
IsRefused kind pattern before now = ((kind ≡ BadPattern) × ¬ (IsGoodPattern pattern)) ⊎ ((kind ≡ LargePattern) × Rose (before pattern) (now pattern))

-- The text has a tree, one of whose patterns is refused; its value stands at the place. All patterns before it are in the
-- grammar.
pub record IsFaultAtPattern (text : List ℕ) (kind : Kind) (place : ℕ) (before now : List ℕ → ℕ) : Type 0 where
  pub tree : List Statement
  pub places : List ℕ
  pub number : ℕ
  pub pattern : List ℕ
  pub has_tree : HasTree text tree places
  pub stands : slice_get places number ≡ Some place
  pub is : slice_get (pattern_texts tree) number ≡ Some pattern
  pub first : All IsGoodPattern (take number (pattern_texts tree))
  pub refused : IsRefused kind pattern before now

-- the fault at a place, with its line and column
abbrev pub fault_of : List ℕ → Kind → ℕ → Fault
fault_of text kind place = Text kind (line_of text place) (column_of text place)

-- the text has no tree, for this reason; want of memory says nothing of the text
abbrev pub IsTreeFault : List ℕ → Fault → Type 0
IsTreeFault text (Text kind line column) = (place : ℕ) × IsFault text kind place × (Text kind line column ≡ fault_of text kind place)
IsTreeFault text NoMemory = Unit {0}

-- The text has this fault, where the maker counted large patterns so before the call and after it. Want of memory says
-- nothing of the text.
abbrev pub IsFaultOfText : List ℕ → (List ℕ → ℕ) → (List ℕ → ℕ) → Fault → Type 0
IsFaultOfText text before now (Text kind line column) =
    (place : ℕ) × (IsFault text kind place ⊎ IsFaultAtPattern text kind place before now) × (Text kind line column ≡ fault_of text kind place)
IsFaultOfText text before now NoMemory = Unit {0}

-- the number of the pattern that is refused
abbrev pub refused_number : PatternFault → Option ℕ
refused_number (patterns.BadPattern n) = Some n
refused_number (patterns.LargePattern n) = Some n
refused_number patterns.NoMemory = None

-- the fault of the text for one of its patterns, whose values stand at these places
abbrev pub pattern_fault : List ℕ → List ℕ → PatternFault → Fault
pattern_fault text places (patterns.BadPattern n) = fault_of text BadPattern (slice_index places n)
pattern_fault text places (patterns.LargePattern n) = fault_of text LargePattern (slice_index places n)
pattern_fault text places patterns.NoMemory = NoMemory
