-- A sign shows one look alone.
use Rattle.std.specs.Prelude.{◌≡◌, ℕ, Bool, true, false, ◌||◌, List, codes, bytes_eq, if◌then◌else◌}
use Rattle.std.proofs.Common.{refl, sym, ◌∙◌, ap}
use Rattle.tow_language.specs.declared.token.TokenKind.TheVariants as kinds
use Rattle.tow_language.specs.Symbols.{Sign, word, quoted, mark}
use Rattle.tow_language.specs.Grammar.{is_reserved}
use Rattle.tow_parse.specs.declared.look.Look.{Look}
use Rattle.tow_parse.specs.declared.look.Look.TheVariants.{And, Or, Not, Else, Restart, Done, Name, Quoted, Newline, Semi, Comma, Equals, OpenRound, CloseRound, OpenSquare, CloseSquare, OpenBrace, CloseBrace, Arrow, End}
use Rattle.tow_parse.specs.Looks.{Shows}

abbrev choose : Bool → Bool → Bool → Bool → Bool → Bool → Look
choose a b c d e f = if a then And else if b then Or else if c then Not else if d then Else else if e then Restart else if f then Done else Name

abbrev look_of : Sign → Look
look_of (word n) =
    choose (bytes_eq n (codes "and")) (bytes_eq n (codes "or")) (bytes_eq n (codes "not")) (bytes_eq n (codes "else")) (bytes_eq n (codes "restart")) (bytes_eq n (codes "done"))
look_of (quoted bytes) = Quoted
look_of (mark kinds.Newline) = Newline
look_of (mark kinds.Semi) = Semi
look_of (mark kinds.Comma) = Comma
look_of (mark kinds.Equals) = Equals
look_of (mark kinds.OpenRound) = OpenRound
look_of (mark kinds.CloseRound) = CloseRound
look_of (mark kinds.OpenSquare) = OpenSquare
look_of (mark kinds.CloseSquare) = CloseSquare
look_of (mark kinds.OpenBrace) = OpenBrace
look_of (mark kinds.CloseBrace) = CloseBrace
look_of (mark kinds.Arrow) = Arrow
look_of (mark kinds.Quoted) = End
look_of (mark kinds.Word) = End

chosen_none : (a b c d e f : Bool) → (a || (b || (c || (d || (e || (f || false)))))) ≡ false → choose a b c d e f ≡ Name
chosen_none true b c d e f h = absurd cc
chosen_none false true c d e f h = absurd cc
chosen_none false false true d e f h = absurd cc
chosen_none false false false true e f h = absurd cc
chosen_none false false false false true f h = absurd cc
chosen_none false false false false false true h = absurd cc
chosen_none false false false false false false h = refl

look_of_name : (n : List ℕ) → is_reserved n ≡ false → look_of (word n) ≡ Name
look_of_name n e =
    chosen_none (bytes_eq n (codes "and")) (bytes_eq n (codes "or")) (bytes_eq n (codes "not")) (bytes_eq n (codes "else")) (bytes_eq n (codes "restart"))
    (bytes_eq n (codes "done")) e

shown : (look : Look) (s : Sign) → Shows look s → look_of s ≡ look
shown Name s (bytes, e, free) = ap look_of e ∙ look_of_name bytes free
shown Quoted s (bytes, e) = ap look_of e
shown End s e = absurd e
shown And s e = ap look_of e
shown Or s e = ap look_of e
shown Not s e = ap look_of e
shown Else s e = ap look_of e
shown Restart s e = ap look_of e
shown Done s e = ap look_of e
shown Newline s e = ap look_of e
shown Semi s e = ap look_of e
shown Comma s e = ap look_of e
shown Equals s e = ap look_of e
shown OpenRound s e = ap look_of e
shown CloseRound s e = ap look_of e
shown OpenSquare s e = ap look_of e
shown CloseSquare s e = ap look_of e
shown OpenBrace s e = ap look_of e
shown CloseBrace s e = ap look_of e
shown Arrow s e = ap look_of e

pub same_look : (a b : Look) (s : Sign) → Shows a s → Shows b s → a ≡ b
same_look a b s p q = sym (shown a s p) ∙ shown b s q
