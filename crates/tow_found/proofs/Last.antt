-- What follows the last sign of a text.
use Rattle.std.proofs.Common.{◌≡◌, ℕ, Bool, true, false, ◌==◌, [], ◌∷◌, ◌++◌, get_or, length, take, drop, ◌+◌, ◌<◌, reverse, Some, None, option_map, refl, sym, ap, ap₂, ◌∙◌, if◌then◌else◌, append_assoc, arith}
use Rattle.std.specs.List.{list_any}
use Rattle.std.proofs.lemmas.Bool.{or_parts}
use Rattle.std.proofs.lemmas.List.{reverse-append, reverse-reverse}
use Rattle.std.proofs.lemmas.List.Sorted.{IsPermutation-reverse, list_any-IsPermutation}
use Rattle.std.proofs.lemmas.List.{take-append-drop}
use Rattle.tow_model.proofs.Spans.{byte_then}
use Rattle.tow_model.specs.Texts.{Text, after, before}
use Rattle.tow_semantics.specs.Pages.{last_after}

-- the sign stands in the text
abbrev pub stands_in : ℕ → Text → Bool
stands_in c text = list_any (λ b. b == c) text

same : (c : ℕ) → (c == c) ≡ true
same c = grind (arith)

-- the first sign is the one behind a text that has none
abbrev Stops : ℕ → Text → Text → Type 0
Stops c xs ys = (before c (xs ++ c ∷ ys) ≡ xs) × (after c (xs ++ c ∷ ys) ≡ Some ys)

stops : (c : ℕ) (xs ys : Text) → stands_in c xs ≡ false → Stops c xs ys
stops c [] ys without =
    (ap (λ t. if t then [] else c ∷ before c ys) (same c), ap (λ t. if t then Some ys else after c ys) (same c))
stops c (x ∷ xs) ys without =
    let parts = or_parts (x == c) (stands_in c xs) without in
    let behind = stops c xs ys parts.1 in (
      ap (λ t. if t then [] else x ∷ before c (xs ++ c ∷ ys)) parts.0 ∙ ap (λ l. x ∷ l) behind.0,
      ap (λ t. if t then Some (xs ++ c ∷ ys) else after c (xs ++ c ∷ ys)) parts.0 ∙ behind.1,
    )

ends : (c : ℕ) (xs : Text) → stands_in c xs ≡ false → after c xs ≡ None
ends c [] without = refl
ends c (x ∷ xs) without =
    let parts = or_parts (x == c) (stands_in c xs) without in
    ap (λ t. if t then Some xs else after c xs) parts.0 ∙ ends c xs parts.1

-- backwards it has none either
backwards : (c : ℕ) (text : Text) → stands_in c text ≡ false → stands_in c (reverse text) ≡ false
backwards c text without = sym (list_any-IsPermutation (λ b. b == c) text (reverse text) (IsPermutation-reverse text)) ∙ without

-- a text without the sign has nothing behind it
pub nothing_behind : (c : ℕ) (text : Text) → stands_in c text ≡ false → last_after c text ≡ None
nothing_behind c text without =
    ap (λ o. option_map (λ rest. reverse (before c (reverse text))) o) (ends c (reverse text) (backwards c text without))

-- what has no sign stands behind the last one
pub behind_last : (c : ℕ) (front rest : Text) → stands_in c rest ≡ false → last_after c (front ++ c ∷ rest) ≡ Some rest
behind_last c front rest without =
    let turned : reverse (front ++ c ∷ rest) ≡ reverse rest ++ c ∷ reverse front =
    reverse-append front (c ∷ rest) ∙ ap (λ l. l ++ reverse front) (reverse-append (c ∷ []) rest)
    ∙ append_assoc (reverse rest) (c ∷ []) (reverse front) in
    let stop = stops c (reverse rest) (reverse front) (backwards c rest without) in
    ap₂ (λ (b : Text) o. option_map (λ rest. reverse b) o) (ap (before c) turned ∙ stop.0) (ap (after c) turned ∙ stop.1)
    ∙ ap Some (reverse-reverse rest)

-- the sign at this place is the last one
pub behind_at : (c : ℕ) (text : Text) (at : ℕ) → at < length text → get_or text at 0 ≡ c → stands_in c (drop (at + 1) text) ≡ false →
    last_after c text ≡ Some (drop (at + 1) text)
behind_at c text at within is without =
    let parts : text ≡ take at text ++ c ∷ drop (at + 1) text =
    sym (take-append-drop at text) ∙ ap (λ l. take at text ++ l) (byte_then text at within ∙ ap (λ b. b ∷ drop (at + 1) text) is) in
    ap (last_after c) parts ∙ behind_last c (take at text) (drop (at + 1) text) without
