-- What may follow where a reader has some goals, and the parts that this adds.
use Rattle.std.specs.Prelude.{◌≡◌, ℕ, ◌+◌, ◌-◌, ◌<◌, Bool, true, false, Option, Some, None, List, [], ◌∷◌, ◌++◌, codes, ⊤}
use Rattle.tow_language.specs.declared.token.TokenKind.{TokenKind}
use Rattle.tow_language.specs.declared.token.TokenKind.TheVariants.{CloseRound, CloseSquare, CloseBrace, Arrow}
use Rattle.tow_language.specs.Raw.{RawParameters, RawCall, RawPredicate, RawConjunction, RawFactor, RawTarget, RawStatement, RawList, none, more}
use Rattle.tow_language.specs.Symbols.{Symbol}
use Rattle.tow_language.specs.Grammar.{Rest, AtEnd, Mark, Keyword, BracketsThen, PredicateThen, ConjunctionThen, FactorThen, SeparatorsThen, MaybeArrow, is_block, ends_in_brace, Between, TargetThen, StatementThen, ListThen}
use Rattle.tow_language.specs.Levels.{PredicateWithin, ConjunctionWithin, FactorWithin, TargetWithin, StatementWithin, ListWithin}
use Rattle.tow_parse.specs.declared.goal.Goal.{Goal}
use Rattle.tow_parse.specs.declared.goal.Goal.TheVariants.{Statements, Statement, Factor, Joined, Target, Else, Told, Called, Named, Parameters}
use Rattle.tow_parse.specs.declared.goal.Role.{Role}
use Rattle.tow_parse.specs.declared.goal.Role.TheVariants.{Test, Handler, Front}
use Rattle.tow_parse.specs.declared.goal.Joint.{Joint}
use Rattle.tow_parse.specs.declared.goal.Joint.TheVariants as joints
use Rattle.tow_fit.specs.Calls.{call_of, written_of}
use Rattle.tow_fit.specs.declared.call.WrittenText.{WrittenText}
use Rattle.tow_parse.specs.Phases.{PhaseFill, PhaseThen, phase_made}
use Rattle.tow_parse.specs.Parts.{RawPart, a_test, a_not, an_and, an_or, a_handler, a_close, a_when, a_when_else, an_end, and_parts, or_parts, factor_parts, target_parts, statement_parts, list_parts}

-- what may follow, where the last token is a separator or a block's closing brace, or is none of these
abbrev pub Onward : Type 1
Onward = Bool → Rest

-- further factors of a conjunction, and further conjunctions of a predicate
abbrev pub JoinedFill : Type 0
JoinedFill = Option RawConjunction × Option RawPredicate

abbrev pub AndThen : Option RawConjunction → Rest → Rest
AndThen None L = L
AndThen (Some c) L = Keyword (codes "and") (ConjunctionThen c L)

abbrev pub OrThen : Option RawPredicate → Rest → Rest
OrThen None L = L
OrThen (Some p) L = Keyword (codes "or") (PredicateThen p L)

-- what ends a predicate
abbrev pub ending : Bool → TokenKind
ending true = CloseRound
ending false = Arrow

abbrev pub JoinedThen : Bool → JoinedFill → Onward → Rest
JoinedThen grouped r K = AndThen r.0 (OrThen r.1 (Mark (ending grouped) (K false)))

abbrev pub and_more_parts : Option RawConjunction → List RawPart
and_more_parts None = []
and_more_parts (Some c) = and_parts c

abbrev pub or_more_parts : Option RawPredicate → List RawPart
or_more_parts None = []
or_more_parts (Some p) = or_parts p

abbrev pub pending_parts : Bool → List RawPart
pending_parts true = an_or ∷ []
pending_parts false = []

abbrev pub joined_parts : Bool → JoinedFill → List RawPart
joined_parts pending r = and_more_parts r.0 ++ (pending_parts pending ++ or_more_parts r.1)

abbrev pub AndWithin : ℕ → Option RawConjunction → Type 0
AndWithin n None = ⊤
AndWithin n (Some c) = ConjunctionWithin n c

abbrev pub OrWithin : ℕ → Option RawPredicate → Type 0
OrWithin n None = ⊤
OrWithin n (Some p) = PredicateWithin n p

abbrev pub JoinedWithin : ℕ → JoinedFill → Type 0
JoinedWithin n r = AndWithin n r.0 × OrWithin n r.1

-- an `else` with its statement, or none
abbrev pub ElseOrEnd : Option RawStatement → Onward → Onward
ElseOrEnd None K free = K free
ElseOrEnd (Some s) K free = SeparatorsThen (Keyword (codes "else") (MaybeArrow (StatementThen s (K (ends_in_brace s)))))

abbrev pub else_parts : Option RawStatement → List RawPart
else_parts None = a_when ∷ []
else_parts (Some s) = statement_parts s ++ a_when_else ∷ []

abbrev pub ElseWithin : ℕ → Option RawStatement → Type 0
ElseWithin n None = ⊤
ElseWithin n (Some s) = (0 < n) × StatementWithin (n - 1) s

-- further statements
abbrev pub After : Bool → RawList → Rest → Rest
After free none L = SeparatorsThen L
After free (more s raw) L = Between free (ListThen (more s raw) L)

abbrev pub Closed : Bool → Onward → Rest
Closed true K = Mark CloseBrace (K true)
Closed false K = AtEnd

abbrev pub close_parts : Bool → List RawPart
close_parts true = a_close ∷ []
close_parts false = []

-- what a call at the front of a statement becomes: a handler, or the first factor of a predicate
abbrev pub FrontFill : Type 0
FrontFill = Option (JoinedFill × RawTarget × Option RawStatement)

abbrev pub FrontThen : FrontFill → Onward → Rest
FrontThen None K = K false
FrontThen (Some w) K = JoinedThen false w.0 (λ free. TargetThen w.1 (ElseOrEnd w.2 K (is_block w.1)))

abbrev pub front_parts : RawCall → FrontFill → List RawPart
front_parts c None = a_handler c ∷ []
front_parts c (Some w) = a_test c ∷ (joined_parts false w.0 ++ (target_parts w.1 ++ else_parts w.2))

abbrev pub FrontWithin : ℕ → FrontFill → Type 0
FrontWithin n None = ⊤
FrontWithin n (Some w) = JoinedWithin n w.0 × TargetWithin n w.1 × ElseWithin n w.2

-- what becomes of a call
abbrev pub RoleFill : Role → Type 0
RoleFill Test = Unit {0}
RoleFill Handler = Unit {0}
RoleFill (Front levels) = FrontFill

abbrev pub RoleThen : (role : Role) → RoleFill role → Onward → Rest
RoleThen Test r K = K false
RoleThen Handler r K = K false
RoleThen (Front levels) r K = FrontThen r K

abbrev pub role_parts : (role : Role) → RawCall → RoleFill role → List RawPart
role_parts Test c r = a_test c ∷ []
role_parts Handler c r = a_handler c ∷ []
role_parts (Front levels) c r = front_parts c r

abbrev pub RoleWithin : ℕ → (role : Role) → RoleFill role → Type 0
RoleWithin d Test r = ⊤
RoleWithin d Handler r = ⊤
RoleWithin d (Front levels) r = FrontWithin (levels + d) r

-- what a goal becomes
abbrev pub Fill : Goal → Type 0
Fill (Statements levels nested) = RawList
Fill (Statement levels arrow) = RawStatement
Fill (Factor levels) = RawFactor
Fill (Joined levels pending grouped) = JoinedFill
Fill (Target levels) = RawTarget
Fill (Else levels) = Option RawStatement
Fill (Told joint) = Unit {0}
Fill (Called levels call) = FrontFill
Fill (Named role name) = RawParameters × RoleFill role
Fill (Parameters heading phase) = PhaseFill phase × RoleFill heading.role

abbrev pub MaybeThen : Bool → Rest → Rest
MaybeThen true L = MaybeArrow L
MaybeThen false L = L

abbrev pub bracket : Bool → TokenKind
bracket true = CloseSquare
bracket false = CloseRound

-- what may follow a goal
abbrev pub Then : (goal : Goal) → Fill goal → Onward → Onward
Then (Statements levels nested) r K free = After free r (Closed nested K)
Then (Statement levels arrow) r K free = MaybeThen arrow (StatementThen r (K (ends_in_brace r)))
Then (Factor levels) r K free = FactorThen r (K false)
Then (Joined levels pending grouped) r K free = JoinedThen grouped r K
Then (Target levels) r K free = TargetThen r (K (is_block r))
Then (Else levels) r K free = ElseOrEnd r K free
Then (Told joint) r K free = K free
Then (Called levels call) r K free = FrontThen r K
Then (Named role name) r K free = BracketsThen r.0 (RoleThen role r.1 K)
Then (Parameters heading phase) r K free = PhaseThen phase r.0 (Mark (bracket heading.square) (RoleThen heading.role r.1 K))

abbrev pub told_part : Joint → RawPart
told_part joints.Not = a_not
told_part joints.And = an_and
told_part joints.WhenElse = a_when_else
told_part joints.End = an_end

abbrev pub call_named : WrittenText → RawParameters → RawCall
call_named name ps = record { name = written_of name; parameters = ps }

abbrev pub fill_parts : (goal : Goal) → Fill goal → List RawPart
fill_parts (Statements levels nested) r = list_parts r ++ close_parts nested
fill_parts (Statement levels arrow) r = statement_parts r
fill_parts (Factor levels) r = factor_parts r
fill_parts (Joined levels pending grouped) r = joined_parts pending r
fill_parts (Target levels) r = target_parts r
fill_parts (Else levels) r = else_parts r
fill_parts (Told joint) r = told_part joint ∷ []
fill_parts (Called levels call) r = front_parts (call_of call) r
fill_parts (Named role name) r = role_parts role (call_named name r.0) r.1
fill_parts (Parameters heading phase) r = role_parts heading.role (call_named heading.name (phase_made phase r.0)) r.1

-- d more levels may be opened than the goal says
abbrev pub Within : ℕ → (goal : Goal) → Fill goal → Type 0
Within d (Statements levels nested) r = ListWithin (levels + d) r
Within d (Statement levels arrow) r = StatementWithin (levels + d) r
Within d (Factor levels) r = FactorWithin (levels + d) r
Within d (Joined levels pending grouped) r = JoinedWithin (levels + d) r
Within d (Target levels) r = TargetWithin (levels + d) r
Within d (Else levels) r = ElseWithin (levels + d) r
Within d (Told joint) r = ⊤
Within d (Called levels call) r = FrontWithin (levels + d) r
Within d (Named role name) r = RoleWithin d role r.1
Within d (Parameters heading phase) r = RoleWithin d heading.role r.1

-- the same of some goals, the next one first
abbrev pub Fills : List Goal → Type 0
Fills [] = Unit {0}
Fills (g ∷ gs) = Fill g × Fills gs

abbrev pub AllThen : (gs : List Goal) → Fills gs → Onward
AllThen [] rs free = AtEnd
AllThen (g ∷ gs) rs free = Then g rs.0 (AllThen gs rs.1) free

abbrev pub all_parts : (gs : List Goal) → Fills gs → List RawPart
all_parts [] rs = []
all_parts (g ∷ gs) rs = fill_parts g rs.0 ++ all_parts gs rs.1

abbrev pub AllWithin : ℕ → (gs : List Goal) → Fills gs → Type 0
AllWithin d [] rs = ⊤
AllWithin d (g ∷ gs) rs = Within d g rs.0 × AllWithin d gs rs.1

-- some symbols may follow the goals, where `out` was told before, and in the end all is told
abbrev pub Leads : ℕ → List Goal → Bool → List RawPart → List Symbol → List RawPart → Type 0
Leads d gs free out xs all = (rs : Fills gs) × AllWithin d gs rs × AllThen gs rs free xs × (out ++ all_parts gs rs ≡ all)

-- some symbols may follow the goals
abbrev pub Follows : ℕ → List Goal → Bool → List Symbol → Type 0
Follows d gs free xs = (rs : Fills gs) × AllWithin d gs rs × AllThen gs rs free xs
