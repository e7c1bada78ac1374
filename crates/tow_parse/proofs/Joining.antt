-- The Newlines between brackets.
use Rattle.std.specs.Prelude.{◌≡◌, ℕ, zero, suc, ◌<◌, List, [], ◌∷◌}
use Rattle.std.proofs.Common.{refl, sym, ◌∙◌, ap, subst, arith}
use Rattle.tow_language.specs.declared.token.TokenKind.TheVariants as kinds
use Rattle.tow_language.specs.Symbols.{Sign, word, quoted, mark, Symbol, open_after, joined}
use Rattle.tow_parse.specs.declared.look.Look.{Look}
use Rattle.tow_parse.specs.declared.look.Look.TheVariants as looks
use Rattle.tow_parse.specs.Looks.{Shows, opened}
use Rattle.tow_parse.specs.Moves.{OneLine}
use Rattle.tow_parse.proofs.Shown.{same_look}

abbrev at : Sign → ℕ → Symbol
at s p = record { sign = s; place = p }

pub joined_blank : (n : ℕ) (x : Symbol) (xs : List Symbol) → 0 < n → x.sign ≡ mark kinds.Newline → joined n (x ∷ xs) ≡ joined n xs
joined_blank zero x xs some e = absurd (omega arith)
joined_blank (suc n) x xs some e = subst (λ (s : Sign). joined (suc n) (at s x.place ∷ xs) ≡ joined (suc n) xs) (sym e) refl

kept : (n : ℕ) (s : Sign) (p : ℕ) (xs : List Symbol) → (s ≡ mark kinds.Newline → n ≡ 0) → joined n (at s p ∷ xs) ≡ at s p ∷ joined (open_after s n) xs
kept zero s p xs off = refl
kept (suc n) (word b) p xs off = refl
kept (suc n) (quoted b) p xs off = refl
kept (suc n) (mark kinds.Newline) p xs off = let e = off refl in absurd (omega (arith, e))
kept (suc n) (mark kinds.Semi) p xs off = refl
kept (suc n) (mark kinds.Comma) p xs off = refl
kept (suc n) (mark kinds.Equals) p xs off = refl
kept (suc n) (mark kinds.OpenRound) p xs off = refl
kept (suc n) (mark kinds.CloseRound) p xs off = refl
kept (suc n) (mark kinds.OpenSquare) p xs off = refl
kept (suc n) (mark kinds.CloseSquare) p xs off = refl
kept (suc n) (mark kinds.OpenBrace) p xs off = refl
kept (suc n) (mark kinds.CloseBrace) p xs off = refl
kept (suc n) (mark kinds.Arrow) p xs off = refl
kept (suc n) (mark kinds.Quoted) p xs off = refl
kept (suc n) (mark kinds.Word) p xs off = refl

opened_is : (look : Look) (n : ℕ) (s : Sign) → Shows look s → opened look n ≡ open_after s n
opened_is looks.Name n s (b, e, f) = sym (ap (λ k. open_after k n) e)
opened_is looks.Quoted n s (b, e) = sym (ap (λ k. open_after k n) e)
opened_is looks.End n s e = absurd e
opened_is look n s e = sym (ap (λ k. open_after k n) e)

pub joined_kept : (look : Look) (n : ℕ) (x : Symbol) (xs : List Symbol) → Shows look x.sign → (look ≡ looks.Newline → n ≡ 0) → joined n (x ∷ xs) ≡ x ∷ joined (opened look n) xs
joined_kept look n x xs shows off =
    kept n x.sign x.place xs (λ e. off (same_look look looks.Newline x.sign shows e)) ∙ ap (λ k. x ∷ joined k xs) (sym (opened_is look n x.sign shows))

pub joined_line : (n : ℕ) (xs : List Symbol) → OneLine xs → joined n xs ≡ xs
joined_line n [] line = refl
joined_line n (x ∷ xs) line = kept n x.sign x.place xs (λ e. absurd (line.0 e)) ∙ ap (λ k. x ∷ k) (joined_line (open_after x.sign n) xs line.1)
