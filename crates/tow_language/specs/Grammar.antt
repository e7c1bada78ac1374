-- The grammar. Each form says that it stands at the front of some symbols, and what is true of the symbols behind it.
use Rattle.std.specs.Prelude.{◌≡◌, ◌⊎◌, ℕ, Bool, true, false, List, [], ◌∷◌, codes, bytes_eq}
use Rattle.std.specs.List.{list_any}
use Rattle.tow_language.specs.declared.token.TokenKind.{TokenKind}
use Rattle.tow_language.specs.declared.token.TokenKind.TheVariants.{Newline, Semi, Comma, Equals, OpenRound, CloseRound, OpenSquare, CloseSquare, OpenBrace, CloseBrace, Arrow}
use Rattle.tow_language.specs.Raw.{Written, RawValue, one, array, RawParameters, unnamed, named, RawCall, RawPredicate, alone, or_more, RawConjunction, single, and_more, RawFactor, test, negated, grouped, RawTarget, handler, restart, done, block, RawStatement, act, when, when_else, RawList, none, more}
use Rattle.tow_language.specs.Symbols.{Sign, word, quoted, mark, Symbol}

-- a fact of the symbols that are left
abbrev pub Rest : Type 1
Rest = List Symbol → Type 0

abbrev pub AtEnd : Rest
AtEnd xs = xs ≡ []

-- this sign, wherever it stands
abbrev pub Next : Sign → Rest → Rest
Next s L [] = ⊥
Next s L (x ∷ xs) = (x.sign ≡ s) × L xs

abbrev pub Mark : TokenKind → Rest → Rest
Mark kind = Next (mark kind)

abbrev pub Keyword : List ℕ → Rest → Rest
Keyword bytes = Next (word bytes)

-- this sign, at this place
abbrev pub Placed : Sign → ℕ → Rest → Rest
Placed s place L [] = ⊥
Placed s place L (x ∷ xs) = (x.sign ≡ s) × (x.place ≡ place) × L xs

abbrev pub WordThen : Written → Rest → Rest
WordThen w = Placed (word w.bytes) w.place

-- a Word or a Quoted
abbrev pub TextThen : Written → Rest → Rest
TextThen w L xs = Placed (word w.bytes) w.place L xs ⊎ Placed (quoted w.bytes) w.place L xs

-- parts with commas between
abbrev pub Commas : {A : Type 0} → (A → Rest → Rest) → List A → Rest → Rest
Commas part [] L = L
Commas part (x ∷ []) L = part x L
Commas part (x ∷ y ∷ zs) L = part x (Mark Comma (Commas part (y ∷ zs) L))

abbrev pub ValueThen : RawValue → Rest → Rest
ValueThen (one w) L = TextThen w L
ValueThen (array place ws) L = Placed (mark OpenBrace) place (Commas TextThen ws (Mark CloseBrace L))

abbrev pub PairThen : Written × RawValue → Rest → Rest
PairThen p L = WordThen p.0 (Mark Equals (ValueThen p.1 L))

abbrev pub ParametersThen : RawParameters → Rest → Rest
ParametersThen (unnamed vs) L xs = Commas ValueThen vs L xs
ParametersThen (named []) L xs = ⊥
ParametersThen (named (p ∷ ps)) L xs = Commas PairThen (p ∷ ps) L xs

-- in round or square brackets; where there are none, also without brackets
abbrev pub BracketsThen : RawParameters → Rest → Rest
BracketsThen ps L xs = ((ps ≡ unnamed []) × L xs)
    ⊎ (Mark OpenRound (ParametersThen ps (Mark CloseRound L)) xs ⊎ Mark OpenSquare (ParametersThen ps (Mark CloseSquare L)) xs)

abbrev pub is_reserved : List ℕ → Bool
is_reserved name = list_any (bytes_eq name) (codes "and" ∷ codes "or" ∷ codes "not" ∷ codes "else" ∷ codes "restart" ∷ codes "done" ∷ [])

abbrev pub CallThen : RawCall → Rest → Rest
CallThen c L xs = (is_reserved c.name.bytes ≡ false) × WordThen c.name (BracketsThen c.parameters L) xs

abbrev mutual
  pub PredicateThen : RawPredicate → Rest → Rest
  PredicateThen (alone c) L = ConjunctionThen c L
  PredicateThen (or_more c p) L = ConjunctionThen c (Keyword (codes "or") (PredicateThen p L))

  pub ConjunctionThen : RawConjunction → Rest → Rest
  ConjunctionThen (single f) L = FactorThen f L
  ConjunctionThen (and_more f c) L = FactorThen f (Keyword (codes "and") (ConjunctionThen c L))

  pub FactorThen : RawFactor → Rest → Rest
  FactorThen (test c) L = CallThen c L
  FactorThen (negated f) L = Keyword (codes "not") (FactorThen f L)
  FactorThen (grouped p) L = Mark OpenRound (PredicateThen p (Mark CloseRound L))

-- a Newline or a Semi
abbrev pub SeparatorThen : Rest → Rest
SeparatorThen L xs = Mark Newline L xs ⊎ Mark Semi L xs

-- any number of them
abbrev pub SeparatorsThen : Rest → Rest
SeparatorsThen L [] = L []
SeparatorsThen L (x ∷ xs) = L (x ∷ xs) ⊎ (((x.sign ≡ mark Newline) ⊎ (x.sign ≡ mark Semi)) × SeparatorsThen L xs)

-- an Arrow or none
abbrev pub MaybeArrow : Rest → Rest
MaybeArrow L xs = L xs ⊎ Mark Arrow L xs

-- whether the last token of the statement is a block's closing brace
abbrev pub is_block : RawTarget → Bool
is_block (handler c) = false
is_block restart = false
is_block done = false
is_block (block raw) = true

abbrev pub ends_in_brace : RawStatement → Bool
ends_in_brace (act t) = is_block t
ends_in_brace (when p t) = is_block t
ends_in_brace (when_else p t s) = ends_in_brace s

-- what stands between two statements, of which the first ends in a brace or not
abbrev pub Between : Bool → Rest → Rest
Between true L = L
Between false L = SeparatorThen L

abbrev mutual
  pub TargetThen : RawTarget → Rest → Rest
  TargetThen (handler c) L = CallThen c L
  TargetThen restart L = Keyword (codes "restart") L
  TargetThen done L = Keyword (codes "done") L
  TargetThen (block raw) L = Mark OpenBrace (ListThen raw (Mark CloseBrace L))

  pub StatementThen : RawStatement → Rest → Rest
  StatementThen (act t) L = TargetThen t L
  StatementThen (when p t) L = PredicateThen p (Mark Arrow (TargetThen t L))
  StatementThen (when_else p t s) L =
      PredicateThen p (Mark Arrow (TargetThen t (SeparatorsThen (Keyword (codes "else") (MaybeArrow (StatementThen s L))))))

  pub ListThen : RawList → Rest → Rest
  ListThen none L = SeparatorsThen L
  ListThen (more s none) L = SeparatorsThen (StatementThen s (SeparatorsThen L))
  ListThen (more s (more t raw)) L = SeparatorsThen (StatementThen s (Between (ends_in_brace s) (ListThen (more t raw) L)))
