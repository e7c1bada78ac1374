-- The longest of the texts that pass a test, text by text.
use Rattle.std.proofs.Common.{◌≡◌, ℕ, List, [], ◌∷◌, ◌++◌, length, fold, max, Option, Some, option_map, ap, ◌∙◌, arith, if◌then◌else◌, ltb}
use Rattle.std.proofs.lemmas.Bool.Decides.{nat_tests}
use Rattle.std.proofs.lemmas.List.Sums.{fold-append}
use Rattle.std.specs.Option.{unwrap_or}
use Rattle.tow_model.specs.Texts.{Text}
use Rattle.tow_semantics.specs.Predicates.{longest}

-- how long the longest of them is
abbrev pub most : List Text → Option ℕ
most texts = option_map (λ p. length p) (longest texts)

abbrev longer : Text → Text → Text
longer best t = if ltb (length best) (length t) then t else best

longer_length : (best t : Text) → length (longer best t) ≡ max (length t) (length best)
longer_length best t = grind (arith, nat_tests)

most_push : (texts : List Text) (p : Text) → most (texts ++ p ∷ []) ≡ Some (max (length p) (unwrap_or (most texts) 0))
most_push [] p = ap (λ k. Some k) (omega arith)
most_push (t ∷ texts) p =
    ap (λ k. Some (length k)) (fold-append longer t texts (p ∷ []))
    ∙ ap (λ k. Some k) (longer_length (fold longer t texts) p)
