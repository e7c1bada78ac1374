-- Each value of a textual call stands for what can be printed and is read as it again.
use Rattle.std.specs.Prelude.{◌≡◌, ℕ, Bool, true, false, List, [], ◌∷◌, map, codes, if◌then◌else◌, Some, Option, None, Result, Ok}
use Rattle.std.specs.List.{list_all}
use Rattle.std.proofs.Common.{refl, sym, ap, ap₂, ◌∙◌, subst}
use mathlib.Core.Logic.{inr}
use Rattle.tow_language.specs.declared.kind.Kind.{Kind}
use Rattle.tow_language.specs.declared.kind.Kind.TheVariants.{BadParameter, BadTarget}
use Rattle.tow_model.specs.declared.attribute.Piece.{Piece}
use Rattle.tow_model.specs.declared.attribute.Piece.TheVariants.{Value}
use Rattle.tow_model.specs.declared.attribute.Attribute.TheVariants.{RelativePath}
use Rattle.tow_model.specs.declared.action.Target.{Target}
use Rattle.tow_language.specs.declared.table.Shape.{Shape}
use Rattle.tow_language.specs.declared.table.Shape.TheVariants as shapes
use Rattle.tow_language.specs.declared.table.Given.{Given}
use Rattle.tow_language.specs.declared.table.Given.TheVariants as givens
use Rattle.tow_language.specs.Raw.{RawValue}
use Rattle.tow_language.specs.Templates.{template_of, common}
use Rattle.tow_model.specs.Paths.{rooted}
use Rattle.tow_language.specs.Shapes.{prefix_of, number_of, status_of, truth_of, segments_of, target_of}
use Rattle.tow_language.specs.Table.{the_path}
use Rattle.tow_language.specs.Fit.{TextFault, ◌>>=◌, fault, wanted, place_of, single_text, some_texts, template_at, templates_at, writable_at, field_at, format_at, is_method, given_of}
use Rattle.tow_print.proofs.Predicates.{bind_ok}
use Rattle.tow_print.proofs.Fits.{with_slash}
use Rattle.tow_print.proofs.Names.{IsWritable, writable_again, name_again}
use Rattle.tow_print.proofs.Numbers.{number_again, status_again}
use Rattle.tow_print.proofs.Paths.{rooted_fine, rooted_twice, with_slash_fine, prefix_again, match_is, match_again}
use Rattle.tow_print.proofs.Textual.{IsTextual, TextualValue}
use Rattle.tow_print.proofs.Utf8.{utf8_ascii}
use Rattle.tow_print.proofs.Utf8Forms.{utf8_rooted, utf8_prefix, utf8_with_slash}
use Rattle.tow_print.proofs.Formats.{common_again, format_good}
use Rattle.tow_print.proofs.Good.{EachTextual, Good, text_is, texts_are, template_was, template_good, templates_good}

-- a value that is wanted is there
pub wanted_is : {A : Type 0} (o : Option A) (kind : Kind) (place : ℕ) (x : A) → wanted o kind place ≡ Ok x → o ≡ Some x
wanted_is None kind place x e = absurd (cc)
wanted_is (Some y) kind place x e = let f : y ≡ x = cc in ap (λ k. Some k) f

-- what a fit gives at last
ok_given : (g h : Given) → ◌≡◌ {A = Result Given TextFault} (Ok g) (Ok h) → h ≡ g
ok_given g h e = cc

-- paths with their leading `/`
rooted_textual : (bs : List (List ℕ)) → EachTextual bs → EachTextual (map rooted bs)
rooted_textual [] textual = tt
rooted_textual (b ∷ bs) textual = ((rooted_fine b textual.0.0, utf8_rooted b textual.0.1), rooted_textual bs textual.1)

rooted_again : (bs : List (List ℕ)) → map rooted (map rooted bs) ≡ map rooted bs
rooted_again [] = refl
rooted_again (b ∷ bs) = ap₂ (λ x xs. x ∷ xs) (rooted_twice b) (rooted_again bs)

-- prefixes
prefix_textual : (b : List ℕ) → IsTextual b → IsTextual (with_slash (prefix_of b))
prefix_textual b textual = (with_slash_fine (prefix_of b), utf8_with_slash (prefix_of b) (utf8_prefix b textual.1))

prefixes_textual : (bs : List (List ℕ)) → EachTextual bs → EachTextual (map with_slash (map prefix_of bs))
prefixes_textual [] textual = tt
prefixes_textual (b ∷ bs) textual = (prefix_textual b textual.0, prefixes_textual bs textual.1)

prefixes_again : (bs : List (List ℕ)) → map prefix_of (map with_slash (map prefix_of bs)) ≡ map prefix_of bs
prefixes_again [] = refl
prefixes_again (b ∷ bs) = ap₂ (λ x xs. x ∷ xs) (prefix_again b) (prefixes_again bs)

-- the attribute of a target
target_was : (place : ℕ) (t : List Piece) (text : List ℕ) (x : Target) → IsTextual text → template_of text ≡ Ok t → writable_at place t ≡ Ok x → IsWritable x
target_was place (Value a ∷ []) text x textual e f = writable_again text a x textual.1 e (wanted_is (target_of a) BadTarget place x f)
target_was place other text x textual e f = absurd (cc)

-- texts, by their shape
texts_good : (v : RawValue) (g : Given) → TextualValue v → given_of shapes.Texts v ≡ Ok g → Good shapes.Texts g
texts_good v g textual e =
    let a = bind_ok (some_texts v) (λ texts. Ok (givens.Texts texts)) g e in
    let b = texts_are v a.0 textual a.1 in
    (b.0, b.1, ok_given (givens.Texts a.0) g a.2 ∙ ap (λ k. givens.Texts k) b.2, b.3)

paths_good : (v : RawValue) (g : Given) → TextualValue v → given_of shapes.Paths v ≡ Ok g → Good shapes.Paths g
paths_good v g textual e =
    let a = bind_ok (some_texts v) (λ texts. Ok (givens.Texts (map rooted texts))) g e in
    let b = texts_are v a.0 textual a.1 in
    (rooted b.0, map rooted b.1, ok_given (givens.Texts (map rooted a.0)) g a.2 ∙ ap (λ k. givens.Texts (map rooted k)) b.2, rooted_textual (b.0 ∷ b.1) b.3, rooted_again (b.0 ∷ b.1))

prefixes_good : (v : RawValue) (g : Given) → TextualValue v → given_of shapes.Prefixes v ≡ Ok g → Good shapes.Prefixes g
prefixes_good v g textual e =
    let a = bind_ok (some_texts v) (λ texts. Ok (givens.Texts (map prefix_of texts))) g e in
    let b = texts_are v a.0 textual a.1 in
    (prefix_of b.0, map prefix_of b.1, ok_given (givens.Texts (map prefix_of a.0)) g a.2 ∙ ap (λ k. givens.Texts (map prefix_of k)) b.2, prefixes_textual (b.0 ∷ b.1) b.3, prefixes_again (b.0 ∷ b.1))

tokens_good : (v : RawValue) (g : Given) → TextualValue v → given_of shapes.Tokens v ≡ Ok g → Good shapes.Tokens g
tokens_good v g textual e =
    let a = bind_ok (some_texts v) (λ texts. if list_all is_method texts then Ok (givens.Texts texts) else fault BadParameter (place_of v)) g e in
    let b = texts_are v a.0 textual a.1 in
    by_test a.0 b.0 b.1 b.2 b.3 (list_all is_method a.0) refl a.2
  where
    by_test : (texts : List (List ℕ)) (b : List ℕ) (bs : List (List ℕ)) → texts ≡ b ∷ bs → EachTextual (b ∷ bs) → (t : Bool) → list_all is_method texts ≡ t →
        (if t then Ok (givens.Texts texts) else fault BadParameter (place_of v)) ≡ Ok g → Good shapes.Tokens g
    by_test texts b bs is are true f h = (b, bs, ok_given (givens.Texts texts) g h ∙ ap (λ k. givens.Texts k) is, are, subst (λ k. list_all is_method k ≡ true) is f)
    by_test texts b bs is are false f h = absurd (cc)

all_templates_good : (v : RawValue) (g : Given) → TextualValue v → given_of shapes.Templates v ≡ Ok g → Good shapes.Templates g
all_templates_good v g textual e =
    let a = bind_ok (some_texts v) (λ texts. templates_at (place_of v) texts >>= λ ts. Ok (givens.Templates ts)) g e in
    let b = texts_are v a.0 textual a.1 in
    let c = bind_ok (templates_at (place_of v) a.0) (λ ts. Ok (givens.Templates ts)) g a.2 in
    by_list b.0 b.1 c.0 b.3 (ap (templates_at (place_of v)) (sym b.2) ∙ c.1) (ok_given (givens.Templates c.0) g c.2)
  where
    by_list : (b : List ℕ) (bs : List (List ℕ)) (ts : List (List Piece)) → EachTextual (b ∷ bs) → templates_at (place_of v) (b ∷ bs) ≡ Ok ts → g ≡ givens.Templates ts → Good shapes.Templates g
    by_list b bs [] are f is =
        let d = bind_ok (template_at (place_of v) b) (λ t. templates_at (place_of v) bs >>= λ k. Ok (t ∷ k)) [] f in
        let h = bind_ok (templates_at (place_of v) bs) (λ k. Ok (d.0 ∷ k)) [] d.2 in
        absurd (let k = h.2 in cc)
    by_list b bs (t ∷ ts) are f is = let all = templates_good (place_of v) (b ∷ bs) (t ∷ ts) are f in (t, ts, is, all.0, all.1)

-- one text, by its shape
pattern_good : (v : RawValue) (g : Given) → TextualValue v → given_of shapes.Pattern v ≡ Ok g → Good shapes.Pattern g
pattern_good v g textual e =
    let a = bind_ok (single_text v) (λ text. Ok (givens.Pattern text (place_of v))) g e in
    (a.0, place_of v, ok_given (givens.Pattern a.0 (place_of v)) g a.2, text_is v a.0 textual a.1)

location_good : (v : RawValue) (g : Given) → TextualValue v → given_of shapes.Location v ≡ Ok g → Good shapes.Location g
location_good v g textual e =
    let a = bind_ok (single_text v) (λ text. Ok (givens.Text (prefix_of text))) g e in
    (prefix_of a.0, ok_given (givens.Text (prefix_of a.0)) g a.2, prefix_textual a.0 (text_is v a.0 textual a.1), prefix_again a.0)

match_good : (v : RawValue) (g : Given) → TextualValue v → given_of shapes.Match v ≡ Ok g → Good shapes.Match g
match_good v g textual e =
    let a = bind_ok (single_text v) (λ text. wanted (segments_of text) BadParameter (place_of v) >>= λ parts. Ok (givens.Segments parts)) g e in
    let b = bind_ok (wanted (segments_of a.0) BadParameter (place_of v)) (λ parts. Ok (givens.Segments parts)) g a.2 in
    let is = wanted_is (segments_of a.0) BadParameter (place_of v) b.0 b.1 in
    let text = text_is v a.0 textual a.1 in
    (b.0, ok_given (givens.Segments b.0) g b.2, subst IsTextual (sym (match_is a.0 b.0 is)) (rooted_fine a.0 text.0, utf8_rooted a.0 text.1), match_again a.0 b.0 is)

one_template_good : (v : RawValue) (g : Given) → TextualValue v → given_of shapes.OneTemplate v ≡ Ok g → Good shapes.OneTemplate g
one_template_good v g textual e =
    let a = bind_ok (single_text v) (λ text. template_at (place_of v) text >>= λ t. Ok (givens.Template t)) g e in
    let b = bind_ok (template_at (place_of v) a.0) (λ t. Ok (givens.Template t)) g a.2 in
    (b.0, ok_given (givens.Template b.0) g b.2, template_good (place_of v) a.0 b.0 (text_is v a.0 textual a.1) b.1)

one_format_good : (v : RawValue) (g : Given) → TextualValue v → given_of shapes.Format v ≡ Ok g → Good shapes.Format g
one_format_good v g textual e =
    let a = bind_ok (single_text v) (λ text. format_at (place_of v) text >>= λ t. Ok (givens.Template t)) g e in
    let b = bind_ok (format_at (place_of v) a.0) (λ t. Ok (givens.Template t)) g a.2 in
    (b.0, ok_given (givens.Template b.0) g b.2, format_good (place_of v) a.0 b.0 (text_is v a.0 textual a.1) b.1)

writable_good : (v : RawValue) (g : Given) → TextualValue v → given_of shapes.Writable v ≡ Ok g → Good shapes.Writable g
writable_good v g textual e =
    let a = bind_ok (single_text v) (λ text. template_at (place_of v) text >>= λ t. writable_at (place_of v) t >>= λ x. Ok (givens.Target x)) g e in
    let b = bind_ok (template_at (place_of v) a.0) (λ t. writable_at (place_of v) t >>= λ x. Ok (givens.Target x)) g a.2 in
    let c = bind_ok (writable_at (place_of v) b.0) (λ x. Ok (givens.Target x)) g b.2 in
    (c.0, ok_given (givens.Target c.0) g c.2, target_was (place_of v) b.0 a.0 c.0 (text_is v a.0 textual a.1) (template_was (place_of v) a.0 b.0 b.1) c.1)

field_good : (v : RawValue) (g : Given) → TextualValue v → given_of shapes.FieldName v ≡ Ok g → Good shapes.FieldName g
field_good v g textual e =
    let a = bind_ok (single_text v) (λ text. field_at (place_of v) text >>= λ name. Ok (givens.Text name)) g e in
    let b = bind_ok (field_at (place_of v) a.0) (λ name. Ok (givens.Text name)) g a.2 in
    (b.0, ok_given (givens.Text b.0) g b.2, name_again (place_of v) a.0 b.0 (text_is v a.0 textual a.1).1 b.1)

number_good : (low high : ℕ) (v : RawValue) (g : Given) → TextualValue v → given_of (shapes.Number low high) v ≡ Ok g → Good (shapes.Number low high) g
number_good low high v g textual e =
    let a = bind_ok (single_text v) (λ text. wanted (number_of low high text) BadParameter (place_of v) >>= λ n. Ok (givens.Number n)) g e in
    let b = bind_ok (wanted (number_of low high a.0) BadParameter (place_of v)) (λ n. Ok (givens.Number n)) g a.2 in
    let c = number_again low high b.0 a.0 (wanted_is (number_of low high a.0) BadParameter (place_of v) b.0 b.1) in
    (b.0, ok_given (givens.Number b.0) g b.2, c.0, c.1)

status_good : (v : RawValue) (g : Given) → TextualValue v → given_of shapes.Status v ≡ Ok g → Good shapes.Status g
status_good v g textual e =
    let a = bind_ok (single_text v) (λ text. wanted (status_of text) BadParameter (place_of v) >>= λ n. Ok (givens.Number n)) g e in
    let b = bind_ok (wanted (status_of a.0) BadParameter (place_of v)) (λ n. Ok (givens.Number n)) g a.2 in
    let c = status_again b.0 a.0 (wanted_is (status_of a.0) BadParameter (place_of v) b.0 b.1) in
    (b.0, ok_given (givens.Number b.0) g b.2, c.0, c.1)

truth_good : (v : RawValue) (g : Given) → TextualValue v → given_of shapes.Truth v ≡ Ok g → Good shapes.Truth g
truth_good v g textual e =
    let a = bind_ok (single_text v) (λ text. wanted (truth_of text) BadParameter (place_of v) >>= λ b. Ok (givens.Truth b)) g e in
    let b = bind_ok (wanted (truth_of a.0) BadParameter (place_of v)) (λ b. Ok (givens.Truth b)) g a.2 in
    (b.0, ok_given (givens.Truth b.0) g b.2)

pub given_good : (shape : Shape) (v : RawValue) (g : Given) → TextualValue v → given_of shape v ≡ Ok g → Good shape g
given_good shapes.Pattern v g textual e = pattern_good v g textual e
given_good shapes.Texts v g textual e = texts_good v g textual e
given_good shapes.Paths v g textual e = paths_good v g textual e
given_good shapes.Prefixes v g textual e = prefixes_good v g textual e
given_good shapes.Location v g textual e = location_good v g textual e
given_good shapes.Match v g textual e = match_good v g textual e
given_good shapes.Tokens v g textual e = tokens_good v g textual e
given_good shapes.OneTemplate v g textual e = one_template_good v g textual e
given_good shapes.Templates v g textual e = all_templates_good v g textual e
given_good shapes.Format v g textual e = one_format_good v g textual e
given_good shapes.Writable v g textual e = writable_good v g textual e
given_good shapes.FieldName v g textual e = field_good v g textual e
given_good (shapes.Number low high) v g textual e = number_good low high v g textual e
given_good shapes.Status v g textual e = status_good v g textual e
given_good shapes.Truth v g textual e = truth_good v g textual e

-- the defaults of the tables
pub path_good : Good shapes.OneTemplate the_path
path_good = (Value RelativePath ∷ [], refl, ((inr refl, utf8_ascii (codes "%R") refl), refl))

pub common_good : Good shapes.Format (givens.Template common)
common_good = (common, refl, common_again)
