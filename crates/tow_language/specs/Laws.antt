-- What is to hold of the definitions, apart from any code. A public empty function carries each of these as its clause.
use Rattle.std.specs.Prelude.{◌≡◌, ◌≢◌, ◌⊎◌, ◌↔◌, ℕ, ◌≤◌, Bool, true, not, ◌&&◌, ◌==◌, List, [], ◌∷◌, ◌++◌, length, codes, bytes_eq, Some, option_map, Ok, Err, IsTrue, ⊤}
use Rattle.std.specs.List.{list_all}
use Rattle.std.specs.Map.{lookup}
use Rattle.tow_language.specs.declared.kind.Kind.{Kind}
use Rattle.tow_model.specs.declared.attribute.Attribute.{Attribute}
use Rattle.tow_model.specs.declared.attribute.Attribute.TheVariants.{Context}
use Rattle.tow_model.specs.declared.attribute.Piece.{Piece}
use Rattle.tow_model.specs.declared.attribute.Piece.TheVariants.{Literal, Value}
use Rattle.tow_model.specs.declared.statement.Statement.{Statement}
use Rattle.tow_language.specs.declared.token.Token.{Token}
use Rattle.tow_language.specs.Tokens.{Cuts, next_is}
use Rattle.tow_language.specs.Raw.{RawList}
use Rattle.tow_language.specs.declared.table.Handler.{Handler}
use Rattle.tow_language.specs.declared.table.TestName.{TestName}
use Rattle.tow_language.specs.Table.{handler_name, handler_named, test_name, test_named}
use Rattle.tow_language.specs.Syntax.{Reads}
use Rattle.tow_language.specs.Fault.{IsTreeOf, IsFault}
use Rattle.tow_language.specs.Printed.{print_of}
use Rattle.tow_language.specs.Templates.{by_letter, by_word, by_kind, any_named, begins_value, spelled_piece, template_of}

-- a text is cut in one way
abbrev pub OneCut : Type 0
OneCut = (text : List ℕ) (a b : List Token) → Cuts text a → Cuts text b → a ≡ b

-- a text has at most one derivation
abbrev pub OneDerivation : Type 0
OneDerivation = (text : List ℕ) (a b : RawList) → Reads text a → Reads text b → a ≡ b

-- a text has at most one fault
abbrev pub OneFault : Type 0
OneFault = (text : List ℕ) (kind other : Kind) (place elsewhere : ℕ) → IsFault text kind place → IsFault text other elsewhere → (kind ≡ other) × (place ≡ elsewhere)

-- a text with a fault has no tree
abbrev pub NoTreeAtFault : Type 0
NoTreeAtFault = (text : List ℕ) (kind : Kind) (place : ℕ) (tree : List Statement) → IsFault text kind place → IsTreeOf text tree → ⊥

-- each handler and each predicate is found by its name
abbrev pub HandlersAreNamed : Type 0
HandlersAreNamed = (h : Handler) → handler_named (handler_name h) ≡ Some h

abbrev pub PredicatesAreNamed : Type 0
PredicatesAreNamed = (t : TestName) → test_named (test_name t) ≡ Some t

-- the printed form of a tree that some text has, where it is short enough, is a text with that tree
abbrev pub PrintReadsBack : Type 0
PrintReadsBack = (text : List ℕ) (tree : List Statement) → IsTreeOf text tree → length (print_of tree) ≤ 65536 → IsTreeOf (print_of tree) tree

-- a form of the attribute: `%` and its letter, or its word or its name in braces
abbrev pub IsFormOf : Attribute → List ℕ → Type 0
IsFormOf a spelled =
    ((c : ℕ) × (spelled ≡ 37 ∷ c ∷ []) × (lookup (λ k. k == c) by_letter ≡ Some a))
    ⊎ ((inside : List ℕ) × IsTrue (list_all (λ b. not (b == 125)) inside)
    × (((spelled ≡ codes "%{" ++ (inside ++ codes "}")) × ((lookup (bytes_eq inside) by_word ≡ Some a)
    ⊎ ((kind : ℕ) × (name : List ℕ) × (inside ≡ kind ∷ 44 ∷ name) × (by_kind (kind ∷ []) name ≡ Some a))))
    ⊎ ((spelled ≡ codes "${" ++ (inside ++ codes "}")) × (option_map Context (any_named inside) ≡ Some a))))

-- no byte begins an attribute of a context
abbrev pub has_no_context : List ℕ → Bool
has_no_context [] = true
has_no_context (b ∷ bs) = not (b == 36 && next_is 123 bs) && has_no_context bs

abbrev pub IsNoLiteral : List Piece → Type 0
IsNoLiteral [] = ⊤
IsNoLiteral (Literal bytes ∷ ps) = ⊥
IsNoLiteral (Value a ∷ ps) = ⊤

-- the text spells the pieces; no two pieces of plain bytes stand together
abbrev pub Spells : List ℕ → List Piece → Type 0
Spells text [] = text ≡ []
Spells text (Literal bytes ∷ ps) =
    (after : List ℕ) × (text ≡ spelled_piece (Literal bytes) ++ after) × (bytes ≢ []) × IsTrue (has_no_context bytes) × IsNoLiteral ps × Spells after ps
Spells text (Value a ∷ ps) = (spelled after : List ℕ) × (text ≡ spelled ++ after) × IsFormOf a spelled × Spells after ps

-- the text begins with `%` or `${`, and neither `%%` nor any form of an attribute stands there
abbrev pub BeginsNoPiece : List ℕ → Type 0
BeginsNoPiece text =
    (b : ℕ) × (after : List ℕ) × (text ≡ b ∷ after) × IsTrue (begins_value b after)
    × ((more : List ℕ) → text ≡ codes "%%" ++ more → ⊥) × ((a : Attribute) (spelled more : List ℕ) → text ≡ spelled ++ more → IsFormOf a spelled → ⊥)

-- `template_of` gives the pieces that the text spells, or the place up to which it spells some and where no further one stands
abbrev pub TemplatesSpelled : Type 0
TemplatesSpelled = (text : List ℕ) (ps : List Piece) → (template_of text ≡ Ok ps) ↔ Spells text ps

abbrev pub TemplateFaults : Type 0
TemplateFaults =
    (text : List ℕ) (place : ℕ) → (template_of text ≡ Err place)
    ↔ ((front left : List ℕ) × (ps : List Piece) × (text ≡ front ++ left) × (place ≡ length front) × Spells front ps × BeginsNoPiece left)
