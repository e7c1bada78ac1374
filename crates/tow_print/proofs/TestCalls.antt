-- The test of a textual call is printed as a call that fits it again, and its printed form is UTF-8.
use Rattle.std.specs.Prelude.{◌≡◌, ℕ, List, [], ◌∷◌, ◌++◌, map, length, Option, None, Some, Ok, IsUtf8}
use Rattle.std.proofs.Common.{refl, sym, ap, ap₂, ◌∙◌, subst, length-append}
use Rattle.tow_language.specs.declared.kind.Kind.TheVariants.{UnknownName}
use Rattle.tow_model.specs.declared.attribute.Piece.{Piece}
use Rattle.tow_model.specs.declared.predicate.Test.{Test}
use Rattle.tow_model.specs.declared.predicate.Test.TheVariants as tests
use Rattle.tow_language.specs.declared.table.TestName.{TestName}
use Rattle.tow_language.specs.declared.table.TestName.TheVariants as test_names
use Rattle.tow_language.specs.declared.table.Given.{Given}
use Rattle.tow_language.specs.declared.table.Given.TheVariants as givens
use Rattle.tow_language.specs.declared.table.Shape.{Shape}
use Rattle.tow_language.specs.declared.table.Shape.TheVariants as shapes
use Rattle.tow_language.specs.Raw.{RawCall}
use Rattle.tow_language.specs.Table.{the_path, test_named, test_parameters}
use Rattle.tow_language.specs.Fit.{Counts, ◌>>=◌, wanted, givens_of, made_test, fit_test}
use Rattle.tow_language.specs.Printed.{printed_text, printed_prefix, printed_template, printed_array, printed_match, written_template, printed_test}
use Rattle.tow_print.proofs.Predicates.{Same, TestReads, TestsRead, bind_ok, ok_pair}
use Rattle.tow_print.proofs.Fits.{with_slash, spelled_match, true_reads, false_reads, path_reads, prefix_reads, suffix_reads, path_template_reads, regex_reads, method_reads, equals_reads, contains_reads, exists_reads}
use Rattle.tow_print.proofs.Textual.{OfEach, TextualCall}
use Rattle.tow_print.proofs.Utf8Forms.{utf8_printed, utf8_texts, utf8_array, utf8_test_call}
use Rattle.tow_print.proofs.Values.{AreFine}
use Rattle.tow_print.proofs.Good.{EachTextual, Good}
use Rattle.tow_print.proofs.Givens.{path_good}
use Rattle.tow_print.proofs.Filled.{AreOwn, AreGood, givens_good}

pub each_fine : (bs : List (List ℕ)) → EachTextual bs → AreFine bs
each_fine [] are = tt
each_fine (b ∷ bs) are = (are.0.0, each_fine bs are.1)

pub array_utf8 : (bs : List (List ℕ)) → EachTextual bs → IsUtf8 (printed_array (map printed_text bs))
array_utf8 bs are = utf8_array (map printed_text bs) (utf8_texts bs (each_utf8 bs are))
  where
    each_utf8 : (bs : List (List ℕ)) → EachTextual bs → OfEach IsUtf8 bs
    each_utf8 [] are = tt
    each_utf8 (b ∷ bs) are = (are.0.1, each_utf8 bs are.1)

prefixes_utf8 : (ps : List (List ℕ)) → EachTextual (map with_slash ps) → OfEach IsUtf8 (map printed_prefix ps)
prefixes_utf8 [] are = tt
prefixes_utf8 (p ∷ ps) are = (utf8_printed (with_slash p) are.0.1, prefixes_utf8 ps are.1)

templates_utf8 : (ts : List (List Piece)) → EachTextual (map written_template ts) → OfEach IsUtf8 (map printed_template ts)
templates_utf8 [] are = tt
templates_utf8 (t ∷ ts) are = (utf8_printed (written_template t) are.0.1, templates_utf8 ts are.1)

-- a parameter that has no default, and one that has
pub no_default : {A : Type 0} (g : Given) → ◌≡◌ {A = Option Given} None (Some g) → A
no_default g e = absurd (cc)

pub this_default : (shape : Shape) (d g : Given) → Good shape d → ◌≡◌ {A = Option Given} (Some d) (Some g) → Good shape g
this_default shape d g good e = let f : d ≡ g = cc in subst (Good shape) f good

tests_own : (name : TestName) → AreOwn (test_parameters name) (test_parameters name)
tests_own test_names.True = tt
tests_own test_names.False = tt
tests_own test_names.Path = (refl, λ g e. no_default g e, tt)
tests_own test_names.PathPrefix = (refl, λ g e. no_default g e, tt)
tests_own test_names.PathSuffix = (refl, λ g e. no_default g e, tt)
tests_own test_names.PathTemplate = (refl, λ g e. no_default g e, (refl, λ g e. this_default shapes.OneTemplate the_path g path_good e, tt))
tests_own test_names.Regex = (refl, λ g e. no_default g e, (refl, λ g e. this_default shapes.OneTemplate the_path g path_good e, tt))
tests_own test_names.Method = (refl, λ g e. no_default g e, tt)
tests_own test_names.Equals = (refl, λ g e. no_default g e, tt)
tests_own test_names.Contains = (refl, λ g e. no_default g e, (refl, λ g e. no_default g e, tt))
tests_own test_names.Exists = (refl, λ g e. no_default g e, tt)

-- a test that stands before the counts i, and behind the counts n
record TestBack (n : Counts) (x : Test × Counts) : Type 1 where
  utf8 : IsUtf8 (printed_test x.0)
  reads : (m : Counts) → Same n m → TestReads x.1 m x.0 (printed_test x.0)

-- what the givens make is this
made_back : (name : TestName) (gs hs : List Given) (n : Counts) (x y : Test × Counts) → gs ≡ hs → made_test name hs n ≡ y → made_test name gs n ≡ x → TestBack n y → TestBack n x
made_back name gs hs n x y is makes made back = subst (TestBack n) (sym makes ∙ sym (ap (λ k. made_test name k n) is) ∙ made) back

-- the givens of one parameter, and of two
pub one_given : {gs hs : List Given} {g h : Given} → gs ≡ g ∷ hs → g ≡ h → hs ≡ [] → gs ≡ h ∷ []
one_given is e none = is ∙ ap₂ (λ x xs. x ∷ xs) e none

pub two_given : {gs hs js : List Given} {g h j k : Given} → gs ≡ g ∷ hs → g ≡ j → hs ≡ h ∷ js → h ≡ k → js ≡ [] → gs ≡ j ∷ k ∷ []
two_given is e more f none = is ∙ ap₂ (λ x xs. x ∷ xs) e (one_given more f none)

test_back : (name : TestName) (gs : List Given) (n : Counts) (x : Test × Counts) → AreGood (test_parameters name) gs → made_test name gs n ≡ x → TestBack n x
test_back test_names.True gs n x none made =
    made_back test_names.True gs [] n x (tests.True, n) none refl made (record { utf8 = utf8_test_call test_names.True [] tt; reads = λ m same. true_reads n m same })
test_back test_names.False gs n x none made =
    made_back test_names.False gs [] n x (tests.False, n) none refl made (record { utf8 = utf8_test_call test_names.False [] tt; reads = λ m same. false_reads n m same })
test_back test_names.Path gs n x (g, hs, is, (b, bs, e, are, kept), none) made =
    made_back test_names.Path gs (givens.Texts (b ∷ bs) ∷ []) n x (tests.Path (b ∷ bs), n) (one_given is e none) refl made (record {
      utf8 = utf8_test_call test_names.Path (printed_array (map printed_text (b ∷ bs)) ∷ []) (array_utf8 (b ∷ bs) are, tt);
      reads = λ m same. path_reads n m b bs (each_fine (b ∷ bs) are) kept same;
    })
test_back test_names.PathPrefix gs n x (g, hs, is, (p, ps, e, are, kept), none) made =
    made_back test_names.PathPrefix gs (givens.Texts (p ∷ ps) ∷ []) n x (tests.Prefix (p ∷ ps), n) (one_given is e none) refl made (record {
      utf8 = utf8_test_call test_names.PathPrefix (printed_array (map printed_prefix (p ∷ ps)) ∷ []) (utf8_array (map printed_prefix (p ∷ ps)) (prefixes_utf8 (p ∷ ps) are), tt);
      reads = λ m same. prefix_reads n m p ps (each_fine (map with_slash (p ∷ ps)) are) kept same;
    })
test_back test_names.PathSuffix gs n x (g, hs, is, (b, bs, e, are), none) made =
    made_back test_names.PathSuffix gs (givens.Texts (b ∷ bs) ∷ []) n x (tests.Suffix (b ∷ bs), n) (one_given is e none) refl made (record {
      utf8 = utf8_test_call test_names.PathSuffix (printed_array (map printed_text (b ∷ bs)) ∷ []) (array_utf8 (b ∷ bs) are, tt);
      reads = λ m same. suffix_reads n m b bs (each_fine (b ∷ bs) are) same;
    })
test_back test_names.PathTemplate gs n x (g, hs, is, (parts, e, text, read), (h, js, more, (t, f, (fine, again)), none)) made =
    made_back test_names.PathTemplate gs (givens.Segments parts ∷ givens.Template t ∷ []) n x (tests.PathTemplate parts t, n) (two_given is e more f none) refl made (record {
      utf8 = utf8_test_call test_names.PathTemplate (printed_match parts ∷ printed_template t ∷ []) (utf8_printed (spelled_match parts) text.1, (utf8_printed (written_template t) fine.1, tt));
      reads = λ m same. path_template_reads n m parts t text.0 read fine.0 again same;
    })
test_back test_names.Regex gs n x (g, hs, is, (b, place, e, text), (h, js, more, (t, f, (fine, again)), none)) made =
    let i : Counts = record n { patterns = n.patterns ++ place ∷ [] } in
    made_back test_names.Regex gs (givens.Pattern b place ∷ givens.Template t ∷ []) n x (tests.Regex (length n.patterns) b t, i) (two_given is e more f none) refl made (record {
      utf8 = utf8_test_call test_names.Regex (printed_text b ∷ printed_template t ∷ []) (utf8_printed b text.1, (utf8_printed (written_template t) fine.1, tt));
      reads = λ m same. regex_reads n i m b t text.0 fine.0 again same (refl, refl, length-append n.patterns (place ∷ []));
    })
test_back test_names.Method gs n x (g, hs, is, (b, bs, e, are), none) made =
    made_back test_names.Method gs (givens.Texts (b ∷ bs) ∷ []) n x (tests.Method (b ∷ bs), n) (one_given is e none) refl made (record {
      utf8 = utf8_test_call test_names.Method (printed_array (map printed_text (b ∷ bs)) ∷ []) (array_utf8 (b ∷ bs) are, tt);
      reads = λ m same. method_reads n m b bs (each_fine (b ∷ bs) are) same;
    })
test_back test_names.Equals gs n x (g, hs, is, (t, ts, e, are, again), none) made =
    made_back test_names.Equals gs (givens.Templates (t ∷ ts) ∷ []) n x (tests.Equals (t ∷ ts), n) (one_given is e none) refl made (record {
      utf8 = utf8_test_call test_names.Equals (printed_array (map printed_template (t ∷ ts)) ∷ []) (utf8_array (map printed_template (t ∷ ts)) (templates_utf8 (t ∷ ts) are), tt);
      reads = λ m same. equals_reads n m t ts (each_fine (map written_template (t ∷ ts)) are) again same;
    })
test_back test_names.Contains gs n x (g, hs, is, (t, e, (fine, again)), (h, js, more, (b, bs, f, are), none)) made =
    made_back test_names.Contains gs (givens.Template t ∷ givens.Texts (b ∷ bs) ∷ []) n x (tests.Contains t (b ∷ bs), n) (two_given is e more f none) refl made (record {
      utf8 = utf8_test_call test_names.Contains (printed_template t ∷ printed_array (map printed_text (b ∷ bs)) ∷ []) (utf8_printed (written_template t) fine.1, (array_utf8 (b ∷ bs) are, tt));
      reads = λ m same. contains_reads n m t b bs fine.0 again (each_fine (b ∷ bs) are) same;
    })
test_back test_names.Exists gs n x (g, hs, is, (t, e, (fine, again)), none) made =
    made_back test_names.Exists gs (givens.Template t ∷ []) n x (tests.Exists t, n) (one_given is e none) refl made (record {
      utf8 = utf8_test_call test_names.Exists (printed_template t ∷ []) (utf8_printed (written_template t) fine.1, tt);
      reads = λ m same. exists_reads n m t fine.0 again same;
    })

call_back : (c : RawCall) (n i : Counts) (t : Test) → TextualCall c → fit_test c n ≡ Ok (t, i) → TestBack n (t, i)
call_back c n i t textual e =
    let a = bind_ok (wanted (test_named c.name.bytes) UnknownName c.name.place) (λ (name : TestName). givens_of (test_parameters name) c >>= λ gs. Ok (made_test name gs n)) (t, i) e in
    let b = bind_ok (givens_of (test_parameters a.0) c) (λ gs. Ok (made_test a.0 gs n)) (t, i) a.2 in
    test_back a.0 b.0 n (t, i) (givens_good (test_parameters a.0) c b.0 (tests_own a.0) textual b.1) (ok_pair (made_test a.0 b.0 n) (t, i) b.2)

pub tests_read : TestsRead TextualCall
tests_read c n i m t textual e same = (call_back c n i t textual e).reads m same

pub test_utf8 : (c : RawCall) (n i : Counts) (t : Test) → TextualCall c → fit_test c n ≡ Ok (t, i) → IsUtf8 (printed_test t)
test_utf8 c n i t textual e = (call_back c n i t textual e).utf8
