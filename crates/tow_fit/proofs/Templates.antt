-- Templates, one after the other.
use Rattle.std.specs.Prelude.{◌≡◌, ℕ, ◌+◌, ◌<◌, List, [], ◌∷◌, ◌++◌, length, get_or, drop, Option, Some, None, IfSome, Result, Ok, Err}
use Rattle.std.proofs.Common.{refl, sym, ◌∙◌, ap, subst, append_assoc, add-one, drop-cons}
use Rattle.std.proofs.lemmas.List.{append-nil}
use Rattle.tow_model.specs.declared.attribute.Piece.{Piece}
use Rattle.tow_language.specs.Fit.{TextFault, template_at, templates_at, ◌>>=◌}
use Rattle.tow_fit.specs.declared.fault.ParseFault.{ParseFault}
use Rattle.tow_fit.specs.Faults.{Fails, parse_fault}
use Rattle.tow_fit.specs.Fitting.{joined}

pub nothing_done : {A : Type 0} (rest : Result (List A) TextFault) → rest ≡ joined [] rest
nothing_done (Ok xs) = refl
nothing_done (Err e) = refl

pub all_done : {A : Type 0} (done : List A) → done ≡ done ++ []
all_done done = sym (append-nil done)

-- the first of the texts from a place on
drop_at : (texts : List (List ℕ)) (i : ℕ) (d : List ℕ) → i < length texts → drop i texts ≡ get_or texts i d ∷ drop (i + 1) texts
drop_at texts i d lt = rw add-one (drop-cons texts i d lt)

first_fits : (place : ℕ) (text : List ℕ) (texts : List (List ℕ)) (done : List (List Piece)) (t : List Piece) → template_at place text ≡ Ok t →
    joined done (templates_at place (text ∷ texts)) ≡ joined (done ++ t ∷ []) (templates_at place texts)
first_fits place text texts done t e = rw e (behind (templates_at place texts))
  where
    behind : (rest : Result (List (List Piece)) TextFault) → joined done (rest >>= λ ts. Ok (t ∷ ts)) ≡ joined (done ++ t ∷ []) rest
    behind (Ok ts) = ap (λ k. Ok k) (sym (append_assoc done (t ∷ []) ts))
    behind (Err e) = refl

-- one more template
pub one_more : (place : ℕ) (texts : List (List ℕ)) (i : ℕ) (d : List ℕ) (done : List (List Piece)) (t : List Piece) → i < length texts →
    template_at place (get_or texts i d) ≡ Ok t →
    joined done (templates_at place (drop i texts)) ≡ joined (done ++ t ∷ []) (templates_at place (drop (i + 1) texts))
one_more place texts i d done t lt e =
    ap (λ k. joined done (templates_at place k)) (drop_at texts i d lt) ∙ first_fits place (get_or texts i d) (drop (i + 1) texts) done t e

-- a fault of a text is that of the whole
pub one_fails : (place : ℕ) (texts : List (List ℕ)) (i : ℕ) (d : List ℕ) (done : List (List Piece)) (e : ParseFault) → i < length texts →
    Fails e (template_at place (get_or texts i d)) → Fails e (joined done (templates_at place (drop i texts)))
one_fails place texts i d done e lt fails =
    subst (λ k. Fails e (joined done (templates_at place k))) (sym (drop_at texts i d lt))
    (first_fails (parse_fault e) (template_at place (get_or texts i d)) (templates_at place (drop (i + 1) texts)) fails)
  where
    first_fails : (f : Option TextFault) (first : Result (List Piece) TextFault) (rest : Result (List (List Piece)) TextFault) → IfSome f (λ k. first ≡ Err k) →
        IfSome f (λ k. joined done (first >>= λ t. rest >>= λ ts. Ok (t ∷ ts)) ≡ Err k)
    first_fails None first rest is = tt
    first_fails (Some k) first rest is = rw is
