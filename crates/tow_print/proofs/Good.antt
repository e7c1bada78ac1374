-- What is known of the values of a textual call: what they are printed as is textual, and stands for them again.
use Rattle.std.specs.Prelude.{◌≡◌, ℕ, Bool, true, List, [], ◌∷◌, map, decimal, Some, Result, Ok, Err}
use Rattle.std.specs.List.{list_all}
use Rattle.std.proofs.Common.{refl, sym, ap, ◌∙◌, subst}
use Rattle.tow_model.specs.declared.attribute.Piece.{Piece}
use Rattle.tow_model.specs.declared.action.Target.{Target}
use Rattle.tow_model.specs.declared.predicate.Segment.{Segment}
use Rattle.tow_language.specs.declared.table.Shape.{Shape}
use Rattle.tow_language.specs.declared.table.Shape.TheVariants as shapes
use Rattle.tow_language.specs.declared.table.Given.{Given}
use Rattle.tow_language.specs.declared.table.Given.TheVariants as givens
use Rattle.tow_language.specs.Raw.{Written, RawValue, one, array}
use Rattle.tow_language.specs.Templates.{template_of}
use Rattle.tow_model.specs.Paths.{rooted}
use Rattle.tow_language.specs.Shapes.{prefix_of, number_of, status_of, segments_of}
use Rattle.tow_language.specs.Fit.{◌>>=◌, single_text, some_texts, template_at, templates_at, format_at, is_method}
use Rattle.tow_language.specs.Printed.{written_template}
use Rattle.tow_print.proofs.Predicates.{bind_ok}
use Rattle.tow_print.proofs.Fits.{with_slash, spelled_match, AreAgain}
use Rattle.tow_print.proofs.Long.{written_again}
use Rattle.tow_print.proofs.Names.{IsWritable, IsOwnName}
use Rattle.tow_print.proofs.Numbers.{IsWritten}
use Rattle.tow_print.proofs.Textual.{IsTextual, OfEach, AllTextual, TextualValue}
use Rattle.tow_print.proofs.Utf8Templates.{utf8_written}

abbrev pub EachTextual : List (List ℕ) → Type 0
EachTextual = OfEach IsTextual

-- what the template is printed as is read as it
abbrev pub IsAgain : List Piece → Type 0
IsAgain t = IsTextual (written_template t) × (template_of (written_template t) ≡ Ok t)

-- the same of the format of a log
abbrev pub IsFormat : List Piece → Type 0
IsFormat t = IsTextual (written_template t) × ((place : ℕ) → format_at place (written_template t) ≡ Ok t)

-- what is known of what a value of this shape stands for
abbrev pub Good : Shape → Given → Type 0
Good shapes.Pattern g = (b : List ℕ) × (place : ℕ) × (g ≡ givens.Pattern b place) × IsTextual b
Good shapes.Texts g = (b : List ℕ) × (bs : List (List ℕ)) × (g ≡ givens.Texts (b ∷ bs)) × EachTextual (b ∷ bs)
Good shapes.Paths g = (b : List ℕ) × (bs : List (List ℕ)) × (g ≡ givens.Texts (b ∷ bs)) × EachTextual (b ∷ bs) × (map rooted (b ∷ bs) ≡ b ∷ bs)
Good shapes.Prefixes g =
    (p : List ℕ) × (ps : List (List ℕ)) × (g ≡ givens.Texts (p ∷ ps)) × EachTextual (map with_slash (p ∷ ps)) × (map prefix_of (map with_slash (p ∷ ps)) ≡ p ∷ ps)
Good shapes.Location g = (p : List ℕ) × (g ≡ givens.Text p) × IsTextual (with_slash p) × (prefix_of (with_slash p) ≡ p)
Good shapes.Match g = (parts : List Segment) × (g ≡ givens.Segments parts) × IsTextual (spelled_match parts) × (segments_of (spelled_match parts) ≡ Some parts)
Good shapes.Tokens g = (b : List ℕ) × (bs : List (List ℕ)) × (g ≡ givens.Texts (b ∷ bs)) × EachTextual (b ∷ bs) × (list_all is_method (b ∷ bs) ≡ true)
Good shapes.OneTemplate g = (t : List Piece) × (g ≡ givens.Template t) × IsAgain t
Good shapes.Templates g =
    (t : List Piece) × (ts : List (List Piece)) × (g ≡ givens.Templates (t ∷ ts)) × EachTextual (map written_template (t ∷ ts)) × AreAgain (t ∷ ts)
Good shapes.Format g = (t : List Piece) × (g ≡ givens.Template t) × IsFormat t
Good shapes.Writable g = (x : Target) × (g ≡ givens.Target x) × IsWritable x
Good shapes.FieldName g = (name : List ℕ) × (g ≡ givens.Text name) × IsOwnName name
Good (shapes.Number low high) g = (n : ℕ) × (g ≡ givens.Number n) × (number_of low high (decimal n) ≡ Some n) × IsWritten n
Good shapes.Status g = (n : ℕ) × (g ≡ givens.Number n) × (status_of (decimal n) ≡ Some n) × IsWritten n
Good shapes.Truth g = (b : Bool) × (g ≡ givens.Truth b)

-- the texts of a textual value
pub text_is : (v : RawValue) (text : List ℕ) → TextualValue v → single_text v ≡ Ok text → IsTextual text
text_is (one w) text textual e = let f : w.bytes ≡ text = cc in subst IsTextual f textual
text_is (array place ws) text textual e = absurd (cc)

all_are : (ws : List Written) → AllTextual ws → EachTextual (map (λ (x : Written). x.bytes) ws)
all_are [] textual = tt
all_are (w ∷ ws) textual = (textual.0, all_are ws textual.1)

pub texts_are : (v : RawValue) (texts : List (List ℕ)) → TextualValue v → some_texts v ≡ Ok texts → (b : List ℕ) × (bs : List (List ℕ)) × (texts ≡ b ∷ bs) × EachTextual (b ∷ bs)
texts_are (one w) texts textual e = let f : w.bytes ∷ [] ≡ texts = cc in (w.bytes, [], sym f, (textual, tt))
texts_are (array place []) texts textual e = absurd (cc)
texts_are (array place (w ∷ ws)) texts textual e =
    let f : map (λ (x : Written). x.bytes) (w ∷ ws) ≡ texts = cc in (w.bytes, map (λ (x : Written). x.bytes) ws, sym f, (textual.0, all_are ws textual.1))

-- the template of a textual text
pub template_was : (place : ℕ) (text : List ℕ) (t : List Piece) → template_at place text ≡ Ok t → template_of text ≡ Ok t
template_was place text t e = by_result (template_of text) refl
  where
    by_result : (r : Result (List Piece) ℕ) → template_of text ≡ r → template_of text ≡ Ok t
    by_result (Ok s) f = let g = rw f at e in f ∙ (let h : s ≡ t = cc in ap (λ k. Ok k) h)
    by_result (Err at) f = absurd (let g = rw f at e in cc)

pub template_good : (place : ℕ) (text : List ℕ) (t : List Piece) → IsTextual text → template_at place text ≡ Ok t → IsAgain t
template_good place text t textual e =
    let f = template_was place text t e in
    let a = written_again text t textual.0 f in
    ((a.0, utf8_written text t textual.1 f), a.1)

pub templates_good : (place : ℕ) (texts : List (List ℕ)) (ts : List (List Piece)) → EachTextual texts → templates_at place texts ≡ Ok ts → EachTextual (map written_template ts) × AreAgain ts
templates_good place [] ts textual e = let f : [] ≡ ts = cc in subst (λ k. EachTextual (map written_template k) × AreAgain k) f (tt, tt)
templates_good place (text ∷ texts) ts textual e =
    let a = bind_ok (template_at place text) (λ t. templates_at place texts >>= λ k. Ok (t ∷ k)) ts e in
    let b = bind_ok (templates_at place texts) (λ k. Ok (a.0 ∷ k)) ts a.2 in
    let f : a.0 ∷ b.0 ≡ ts = let g = b.2 in cc in
    let t = template_good place text a.0 textual.0 a.1 in
    let more = templates_good place texts b.0 textual.1 b.1 in
    subst (λ k. EachTextual (map written_template k) × AreAgain k) f ((t.0, more.0), (t.1, more.1))
