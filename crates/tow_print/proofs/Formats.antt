-- The format of a log is read from what it is printed as.
use Rattle.std.specs.Prelude.{◌≡◌, ℕ, Bool, true, false, List, [], ◌∷◌, ◌++◌, codes, bytes_eq, if◌then◌else◌, Ok}
use Rattle.std.proofs.Common.{refl, sym, ap, ap₂, ◌∙◌, subst}
use Rattle.std.proofs.lemmas.Slice.Eq.{bytes_eq-Decides}
use mathlib.Core.Logic.{inr}
use Rattle.tow_model.specs.declared.attribute.Piece.{Piece}
use Rattle.tow_model.specs.declared.attribute.Piece.TheVariants.{Literal}
use Rattle.tow_language.specs.Laws.{Spells}
use Rattle.tow_language.specs.Templates.{template_of, spelled_piece, common, combined}
use Rattle.tow_language.specs.Fit.{template_at, format_at}
use Rattle.tow_language.specs.Printed.{written_template}
use Rattle.tow_attr.proofs.Spelled.{templates_are_spelled}
use Rattle.tow_print.proofs.Fits.{template_is}
use Rattle.tow_print.proofs.Textual.{IsTextual}
use Rattle.tow_print.proofs.Utf8Templates.{utf8_common, utf8_combined}
use Rattle.tow_print.proofs.Good.{IsFormat, template_was, template_good}

pub common_again : IsFormat common
common_again = ((inr refl, utf8_common), λ place. refl)

pub combined_again : IsFormat combined
combined_again = ((inr refl, utf8_combined), λ place. refl)

-- a word that stands for itself
record IsOwn (name : List ℕ) : Type 0 where
  read : template_of name ≡ Ok (Literal name ∷ [])
  spelled : spelled_piece (Literal name) ++ [] ≡ name

-- only the word is a text with it as its template
only_so : (name text : List ℕ) → IsOwn name → template_of text ≡ Ok (Literal name ∷ []) → text ≡ name
only_so name text own e = from_spelled ((templates_are_spelled text (Literal name ∷ [])).0 e)
  where
    from_spelled : Spells text (Literal name ∷ []) → text ≡ name
    from_spelled (after, is, some, free, apart, rest) = is ∙ ap (λ k. spelled_piece (Literal name) ++ k) rest ∙ own.spelled

-- a template of another text is not printed as the word
not_printed : (name text : List ℕ) (t : List Piece) → IsOwn name → template_of text ≡ Ok t → template_of (written_template t) ≡ Ok t → bytes_eq text name ≡ false →
    bytes_eq (written_template t) name ≡ false
not_printed name text t own was again other = by_test (bytes_eq (written_template t) name) refl
  where
    by_test : (s : Bool) → bytes_eq (written_template t) name ≡ s → s ≡ false
    by_test false f = refl
    by_test true f =
        let both : Ok t ≡ Ok (Literal name ∷ []) = sym again ∙ ap template_of ((bytes_eq-Decides (written_template t) name).0 f) ∙ own.read in
        let is = only_so name text own (was ∙ both) in
        sym ((bytes_eq-Decides text name).1 is) ∙ other

pub format_good : (place : ℕ) (text : List ℕ) (t : List Piece) → IsTextual text → format_at place text ≡ Ok t → IsFormat t
format_good place text t textual e = by_test (bytes_eq text (codes "common")) (bytes_eq text (codes "combined")) refl refl e
  where
    by_test : (a b : Bool) → bytes_eq text (codes "common") ≡ a → bytes_eq text (codes "combined") ≡ b → (if a then Ok common else (if b then Ok combined else template_at place text)) ≡ Ok t → IsFormat t
    by_test true b f g h = let k : common ≡ t = cc in subst IsFormat k common_again
    by_test false true f g h = let k : combined ≡ t = cc in subst IsFormat k combined_again
    by_test false false f g h =
        let good = template_good place text t textual h in
        let was = template_was place text t h in
        let x = not_printed (codes "common") text t (record { read = refl; spelled = refl }) was good.1 f in
        let y = not_printed (codes "combined") text t (record { read = refl; spelled = refl }) was good.1 g in
        (good.0, λ at. ap₂ (λ (p q : Bool). if p then Ok common else (if q then Ok combined else template_at at (written_template t))) x y ∙ template_is at (written_template t) t good.1)
