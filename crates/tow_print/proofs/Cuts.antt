-- Bytes that show symbols are cut into tokens that the grammar sees as these.
use Rattle.std.specs.Prelude.{◌≡◌, ℕ, ◌+◌, ◌-◌, List, [], ◌∷◌, ◌++◌, length, take, drop, slice_range}
use Rattle.std.proofs.Common.{refl, sym, ap, ap₂, ◌∙◌, arith, append_assoc, length-append}
use Rattle.std.proofs.Math.Seq.{take-append_seam}
use Rattle.tow_language.specs.declared.token.Token.{Token}
use Rattle.tow_language.specs.Tokens.{CutsUpTo}
use Rattle.tow_language.specs.Symbols.{Symbol, sign_of, symbols_of}
use Rattle.tow_print.proofs.Shown.{Show}

drop_front : (front back : List ℕ) → drop (length front) (front ++ back) ≡ back
drop_front [] back = refl
drop_front (x ∷ front) back = drop_front front back

span_between : (front spelled after : List ℕ) (from to : ℕ) → from ≡ length front → to ≡ from + length spelled → slice_range (front ++ (spelled ++ after)) from to ≡ spelled
span_between front spelled after from to e f =
    ap₂ (λ k b. take k b) {x = to - from} {y = length spelled} (omega (arith, f)) (ap (λ k. drop k (front ++ (spelled ++ after))) e ∙ drop_front front (spelled ++ after))
    ∙ take-append_seam spelled after

pub show_cuts : (text front bytes : List ℕ) (at : ℕ) (ss : List Symbol) (end : ℕ) (left : List ℕ) → text ≡ front ++ bytes → at ≡ length front → Show at bytes ss end left →
    (tokens : List Token) × CutsUpTo at bytes tokens left × (symbols_of text tokens ≡ ss)
show_cuts text front bytes at [] end left e f h = ([], ([], h.0, refl), refl)
show_cuts text front bytes at (s ∷ ss) end left e f (kind, gap, spelled, after, split, white, is, token, rest) =
    let t : Token = record { kind = kind; from = at + length gap; to = at + length gap + length spelled } in
    let whole : text ≡ (front ++ gap) ++ (spelled ++ after) = e ∙ ap (λ k. front ++ k) split ∙ sym (append_assoc front gap (spelled ++ after)) in
    let further : text ≡ ((front ++ gap) ++ spelled) ++ after = whole ∙ sym (append_assoc (front ++ gap) spelled after) in
    let more = show_cuts text ((front ++ gap) ++ spelled) after (at + length gap + length spelled) ss end left further
    (omega (arith, f, length-append (front ++ gap) spelled, length-append front gap)) rest in
    let span : slice_range text t.from t.to ≡ spelled = ap (λ k. slice_range k t.from t.to) whole ∙ span_between (front ++ gap) spelled after t.from t.to (omega (arith, f, length-append front gap)) refl in (
      t ∷ more.0,
      (gap, spelled, after, split, white, refl, refl, token, more.1),
      ap₂ (λ x xs. x ∷ xs) (ap (λ (k : List ℕ). let y : Symbol = record { sign = sign_of kind k; place = at + length gap } in y) span ∙ sym is) more.2,
    )
