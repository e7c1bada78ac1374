-- Bytes that show symbols: each is cut off the front with the white space before it.
use Rattle.std.specs.Prelude.{◌≡◌, ℕ, ◌+◌, List, [], ◌∷◌, ◌++◌, length, IsTrue}
use Rattle.std.specs.List.{list_all}
use Rattle.std.proofs.Common.{sym, ap, ◌∙◌, subst, append_assoc}
use Rattle.tow_language.specs.declared.token.TokenKind.{TokenKind}
use Rattle.tow_language.specs.Tokens.{IsToken, is_white}
use Rattle.tow_language.specs.Symbols.{Symbol, sign_of, joined}
use Rattle.tow_language.specs.Grammar.{Rest}

-- from the place `at` on the bytes show the symbols, up to the place `end`, where `left` stands
abbrev pub Show : ℕ → List ℕ → List Symbol → ℕ → List ℕ → Type 0
Show at bytes [] end left = (bytes ≡ left) × (at ≡ end)
Show at bytes (s ∷ ss) end left = (kind : TokenKind) × (gap spelled after : List ℕ) × (bytes ≡ gap ++ (spelled ++ after)) × IsTrue (list_all is_white gap)
    × (s ≡ record { sign = sign_of kind spelled; place = at + length gap }) × IsToken kind spelled after × Show (at + length gap + length spelled) after ss end left

pub show_then : (at middle end : ℕ) (bytes mid left : List ℕ) (ss ts : List Symbol) → Show at bytes ss middle mid → Show middle mid ts end left → Show at bytes (ss ++ ts) end left
show_then at middle end bytes mid left [] ts (e, f) h = subst (λ b. Show at b ts end left) (sym e) (subst (λ k. Show k mid ts end left) (sym f) h)
show_then at middle end bytes mid left (s ∷ ss) ts (kind, gap, spelled, after, e, white, is, token, rest) h =
    (kind, gap, spelled, after, e, white, is, token, show_then (at + length gap + length spelled) middle end after mid left ss ts rest h)

-- bytes that show some symbols, on which a form stands whatever follows; `depth` is how many brackets are open behind them
pub record Shown (at : ℕ) (bytes left : List ℕ) (depth : ℕ → ℕ) (Form : Rest → Rest) : Type 1 where
  pub symbols : List Symbol
  pub end : ℕ
  pub show : Show at bytes symbols end left
  pub kept : (n : ℕ) (rest : List Symbol) → joined n (symbols ++ rest) ≡ symbols ++ joined (depth n) rest
  pub form : (L : Rest) (rest : List Symbol) → L rest → Form L (symbols ++ rest)

pub shown_then : {at : ℕ} {bytes mid left : List ℕ} {d e : ℕ → ℕ} {F G : Rest → Rest} (a : Shown at bytes mid d F) → Shown a.end mid left e G →
    Shown at bytes left (λ n. e (d n)) (λ L. F (G L))
shown_then {F = F} {G = G} a b = record {
  symbols = a.symbols ++ b.symbols;
  end = b.end;
  show = show_then _ a.end b.end _ _ _ a.symbols b.symbols a.show b.show;
  kept = λ n rest. ap (joined n) (append_assoc a.symbols b.symbols rest) ∙ a.kept n (b.symbols ++ rest) ∙ ap (λ k. a.symbols ++ k) (b.kept _ rest) ∙ sym (append_assoc a.symbols b.symbols _);
  form = λ L rest l. subst (λ k. F (G L) k) (sym (append_assoc a.symbols b.symbols rest)) (a.form (G L) (b.symbols ++ rest) (b.form L rest l));
}

-- the same form, or one that follows from it; and as many brackets
pub shown_as : {at : ℕ} {bytes left : List ℕ} {d e : ℕ → ℕ} {F G : Rest → Rest} → ((n : ℕ) → d n ≡ e n) → ((L : Rest) (xs : List Symbol) → F L xs → G L xs) →
    Shown at bytes left d F → Shown at bytes left e G
shown_as same to a = record {
  symbols = a.symbols;
  end = a.end;
  show = a.show;
  kept = λ n rest. a.kept n rest ∙ ap (λ k. a.symbols ++ joined k rest) (same n);
  form = λ L rest l. to L _ (a.form L rest l);
}
