-- The last byte of a template's spelling, and the place of its last long form.
use Rattle.std.specs.Prelude.{◌≡◌, ℕ, ◌+◌, ◌<◌, Bool, true, false, ◌==◌, List, [], ◌∷◌, ◌++◌, length, take, drop, get_or, if◌then◌else◌, Option, Some, None, option_map}
use Rattle.std.proofs.Common.{refl, sym, ap, ◌∙◌, append_assoc, append-nil}
use Rattle.std.proofs.lemmas.Bool.{eqb-true}
use Rattle.std.proofs.lemmas.Grind.{flat_map-append}
use Rattle.std.proofs.lemmas.List.{drop_more, take_more, take-append-drop}
use Rattle.tow_model.specs.declared.attribute.Piece.{Piece}
use Rattle.tow_model.specs.declared.attribute.Piece.TheVariants.{Literal}
use Rattle.tow_language.specs.Tokens.{last_byte}
use Rattle.tow_language.specs.Templates.{spelled_piece, spelled_template, long_form, spelled_long}

pub last_append : (before : ℕ) (a b : List ℕ) → last_byte before (a ++ b) ≡ last_byte (last_byte before a) b
last_append before [] b = refl
last_append before (x ∷ a) b = last_append x a b

pub last_of_literal : (before : ℕ) (bytes : List ℕ) → last_byte before (spelled_piece (Literal bytes)) ≡ last_byte before bytes
last_of_literal before [] = refl
last_of_literal before (b ∷ bytes) = by_test (last_of_literal b bytes) (b == 37) refl
  where
    by_test : last_byte b (spelled_piece (Literal bytes)) ≡ last_byte b bytes → (t : Bool) → (b == 37) ≡ t →
        last_byte before ((if t then 37 ∷ 37 ∷ [] else b ∷ []) ++ spelled_piece (Literal bytes)) ≡ last_byte b bytes
    by_test more true e = ap (λ k. last_byte k (spelled_piece (Literal bytes))) (sym (eqb-true b 37 e)) ∙ more
    by_test more false e = more

-- the last byte of a template's first pieces, with one more piece
pub last_of_more : (before : ℕ) (ps : List Piece) (i : ℕ) (p : Piece) → i < length ps → p ≡ get_or ps i p →
    last_byte before (spelled_template (take (i + 1) ps)) ≡ last_byte (last_byte before (spelled_template (take i ps))) (spelled_piece p)
last_of_more before ps i p within is =
    let more : spelled_template (take (i + 1) ps) ≡ spelled_template (take i ps) ++ spelled_piece p =
    ap spelled_template (take_more ps i p within ∙ ap (λ q. take i ps ++ q ∷ []) (sym is))
    ∙ flat_map-append spelled_piece (take i ps) (p ∷ []) ∙ ap (λ k. spelled_template (take i ps) ++ k) (append-nil (spelled_piece p)) in
    ap (last_byte before) more ∙ last_append before (spelled_template (take i ps)) (spelled_piece p)

-- the spelling with the long form of a piece, or of one behind it
abbrev pub spelled_before : Piece → List Piece → Option (List ℕ) → Option (List ℕ)
spelled_before p ps (Some later) = Some (spelled_piece p ++ later)
spelled_before p ps None = option_map (λ form. form ++ spelled_template ps) (long_form p)

pub long_is : (p : Piece) (ps : List Piece) → spelled_long (p ∷ ps) ≡ spelled_before p ps (spelled_long ps)
long_is p ps = by_later (spelled_long ps)
  where
    by_later : (o : Option (List ℕ)) → elim o [ Some later ↦ Some (spelled_piece p ++ later) | None ↦ option_map (λ form. form ++ spelled_template ps) (long_form p) ] ≡ spelled_before p ps o
    by_later (Some later) = refl
    by_later None = refl

-- the last piece that has a long form is spelled by it
pub long_found : (front behind : List Piece) (p : Piece) (form : List ℕ) → spelled_long behind ≡ None → long_form p ≡ Some form →
    spelled_long (front ++ p ∷ behind) ≡ Some (spelled_template front ++ (form ++ spelled_template behind))
long_found [] behind p form none some =
    long_is p behind ∙ ap (spelled_before p behind) none ∙ ap (option_map (λ form. form ++ spelled_template behind)) some
long_found (q ∷ front) behind p form none some =
    long_is q (front ++ p ∷ behind) ∙ ap (spelled_before q (front ++ p ∷ behind)) (long_found front behind p form none some)
    ∙ ap Some (sym (append_assoc (spelled_piece q) (spelled_template front) (form ++ spelled_template behind)))

pub long_nowhere : (p : Piece) (ps : List Piece) → spelled_long ps ≡ None → long_form p ≡ None → spelled_long (p ∷ ps) ≡ None
long_nowhere p ps none bare = long_is p ps ∙ ap (spelled_before p ps) none ∙ ap (option_map (λ form. form ++ spelled_template ps)) bare

pub long_at : (ps : List Piece) (at : ℕ) (p : Piece) (form : List ℕ) → at < length ps → p ≡ get_or ps at p → spelled_long (drop (at + 1) ps) ≡ None → long_form p ≡ Some form →
    spelled_long ps ≡ Some (spelled_template (take at ps) ++ (form ++ spelled_template (drop (at + 1) ps)))
long_at ps at p form within is none some =
    let e : take at ps ++ p ∷ drop (at + 1) ps ≡ ps =
    ap (λ k. take at ps ++ k) (ap (λ q. q ∷ drop (at + 1) ps) is ∙ sym (drop_more ps at p within)) ∙ take-append-drop at ps in
    ap spelled_long (sym e) ∙ long_found (take at ps) (drop (at + 1) ps) p form none some
