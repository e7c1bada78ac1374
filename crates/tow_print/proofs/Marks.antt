-- The marks of the printed form.
use Rattle.std.specs.Prelude.{◌≡◌, ℕ, ◌+◌, List, ◌∷◌, ◌++◌, length, codes, IsTrue}
use Rattle.std.specs.List.{list_all}
use Rattle.std.proofs.Common.{zero, suc, refl}
use Rattle.tow_language.specs.declared.token.TokenKind.{TokenKind}
use Rattle.tow_language.specs.declared.token.TokenKind.TheVariants.{Semi, Comma, Equals, OpenBrace, CloseBrace, Arrow}
use Rattle.tow_language.specs.Tokens.{is_white}
use Rattle.tow_language.specs.Symbols.{mark, Symbol, joined}
use Rattle.tow_language.specs.Grammar.{Mark, Placed}
use Rattle.tow_print.proofs.Shown.{Shown}
use Rattle.tow_print.proofs.Texts.{IsEnd, one_shown}

-- the mark stays, and opens and closes no bracket
abbrev Stays : TokenKind → Type 0
Stays kind = (place n : ℕ) (rest : List Symbol) → joined n (record { sign = mark kind; place = place } ∷ rest) ≡ record { sign = mark kind; place = place } ∷ joined n rest

semi_stays : Stays Semi
semi_stays place zero rest = refl
semi_stays place (suc n) rest = refl

comma_stays : Stays Comma
comma_stays place zero rest = refl
comma_stays place (suc n) rest = refl

equals_stays : Stays Equals
equals_stays place zero rest = refl
equals_stays place (suc n) rest = refl

open_stays : Stays OpenBrace
open_stays place zero rest = refl
open_stays place (suc n) rest = refl

close_stays : Stays CloseBrace
close_stays place zero rest = refl
close_stays place (suc n) rest = refl

arrow_stays : Stays Arrow
arrow_stays place zero rest = refl
arrow_stays place (suc n) rest = refl

pub semi_shown : (at : ℕ) (gap after : List ℕ) → IsTrue (list_all is_white gap) → Shown at (gap ++ (codes ";" ++ after)) after (λ n. n) (Mark Semi)
semi_shown at gap after white = one_shown Semi at gap (codes ";") after (mark Semi) (λ n. n) (Mark Semi) white refl refl (λ n rest. semi_stays _ n rest) (λ L rest l. (refl, l))

pub comma_shown : (at : ℕ) (gap after : List ℕ) → IsTrue (list_all is_white gap) → Shown at (gap ++ (codes "," ++ after)) after (λ n. n) (Mark Comma)
comma_shown at gap after white = one_shown Comma at gap (codes ",") after (mark Comma) (λ n. n) (Mark Comma) white refl refl (λ n rest. comma_stays _ n rest) (λ L rest l. (refl, l))

pub equals_shown : (at : ℕ) (gap after : List ℕ) → IsTrue (list_all is_white gap) → Shown at (gap ++ (codes "=" ++ after)) after (λ n. n) (Mark Equals)
equals_shown at gap after white = one_shown Equals at gap (codes "=") after (mark Equals) (λ n. n) (Mark Equals) white refl refl (λ n rest. equals_stays _ n rest) (λ L rest l. (refl, l))

pub open_brace_shown : (at : ℕ) (gap after : List ℕ) → IsTrue (list_all is_white gap) → Shown at (gap ++ (codes "{" ++ after)) after (λ n. n) (Mark OpenBrace)
open_brace_shown at gap after white = one_shown OpenBrace at gap (codes "{") after (mark OpenBrace) (λ n. n) (Mark OpenBrace) white refl refl (λ n rest. open_stays _ n rest) (λ L rest l. (refl, l))

-- an array's opening brace, whose place is the array's
pub placed_brace_shown : (at : ℕ) (gap after : List ℕ) → IsTrue (list_all is_white gap) → Shown at (gap ++ (codes "{" ++ after)) after (λ n. n) (Placed (mark OpenBrace) (at + length gap))
placed_brace_shown at gap after white =
    one_shown OpenBrace at gap (codes "{") after (mark OpenBrace) (λ n. n) (Placed (mark OpenBrace) (at + length gap)) white refl refl (λ n rest. open_stays _ n rest) (λ L rest l. (refl, refl, l))

pub close_brace_shown : (at : ℕ) (gap after : List ℕ) → IsTrue (list_all is_white gap) → Shown at (gap ++ (codes "}" ++ after)) after (λ n. n) (Mark CloseBrace)
close_brace_shown at gap after white = one_shown CloseBrace at gap (codes "}") after (mark CloseBrace) (λ n. n) (Mark CloseBrace) white refl refl (λ n rest. close_stays _ n rest) (λ L rest l. (refl, l))

pub arrow_shown : (at : ℕ) (gap after : List ℕ) → IsTrue (list_all is_white gap) → Shown at (gap ++ (codes "->" ++ after)) after (λ n. n) (Mark Arrow)
arrow_shown at gap after white = one_shown Arrow at gap (codes "->") after (mark Arrow) (λ n. n) (Mark Arrow) white refl refl (λ n rest. arrow_stays _ n rest) (λ L rest l. (refl, l))

pub semi_ends : (xs : List ℕ) → IsEnd (59 ∷ xs)
semi_ends xs = record { no_arrow = refl; no_brace = refl; dark = refl }

pub line_ends : (xs : List ℕ) → IsEnd (10 ∷ xs)
line_ends xs = record { no_arrow = refl; no_brace = refl; dark = refl }

pub comma_ends : (xs : List ℕ) → IsEnd (44 ∷ xs)
comma_ends xs = record { no_arrow = refl; no_brace = refl; dark = refl }

pub brace_ends : (xs : List ℕ) → IsEnd (125 ∷ xs)
brace_ends xs = record { no_arrow = refl; no_brace = refl; dark = refl }
