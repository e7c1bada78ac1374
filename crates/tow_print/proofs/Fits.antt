-- What is read of the printed parameters of a call; and the tests that are printed as calls that fit them again.
use Rattle.std.specs.Prelude.{◌≡◌, ℕ, ◌+◌, ◌==◌, true, false, if◌then◌else◌, List, [], ◌∷◌, ◌++◌, map, length, codes, Some, None, Ok}
use Rattle.std.specs.List.{join_with_byte}
use Rattle.std.proofs.Common.{refl, sym, ap, ◌∙◌, subst, length-append}
use Rattle.tow_language.specs.declared.kind.Kind.TheVariants.{UnknownName, BadParameter}
use Rattle.tow_model.specs.declared.attribute.Piece.{Piece}
use Rattle.tow_model.specs.declared.predicate.Test.{Test}
use Rattle.tow_model.specs.declared.predicate.Test.TheVariants as tests
use Rattle.tow_language.specs.declared.table.TestName.{TestName}
use Rattle.tow_language.specs.declared.table.TestName.TheVariants as test_names
use Rattle.tow_language.specs.declared.table.Given.{Given}
use Rattle.tow_language.specs.declared.table.Given.TheVariants as givens
use Rattle.tow_language.specs.declared.table.Shape.TheVariants as shapes
use Rattle.tow_language.specs.Raw.{Written, RawValue, named, unnamed, RawCall}
use Rattle.tow_language.specs.Grammar.{is_reserved}
use Rattle.tow_model.specs.declared.predicate.Segment.{Segment}
use Rattle.tow_language.specs.Tokens.{last_byte}
use Rattle.tow_language.specs.Shapes.{prefix_of, segments_of}
use Rattle.tow_language.specs.Table.{the_path, Parameter, test_name, test_named, test_parameters}
use Rattle.tow_language.specs.Templates.{template_of}
use Rattle.tow_model.specs.Paths.{rooted}
use Rattle.tow_language.specs.Fit.{Counts, ◌>>=◌, wanted, given_of, unused, found_of, filled, givens_of, made_test, fit_test, template_at, templates_at}
use Rattle.tow_language.specs.Printed.{is_word, printed_text, printed_prefix, written_template, printed_template, printed_array, printed_match, spelled_segment, printed_test}
use Rattle.tow_print.proofs.Predicates.{Same, TestReads, bind_is}
use Rattle.tow_print.proofs.Texts.{IsFine, written}
use Rattle.tow_print.proofs.Values.{AreFine, ValueReads, IsOne, IsArray, IsPair, ArePairs, text_reads, array_reads, one_pair, two_pairs, bare_reads, call_reads}

found_one : (q : Parameter) (qs : List Parameter) (found more : List (List ℕ × Given)) (i : ℕ) (v : RawValue) (g : Given) (ps : List (Written × RawValue)) → unused qs found q.name ≡ Some q →
    given_of q.shape v ≡ Ok g → found_of qs (found ++ (q.name, g) ∷ []) ps ≡ Ok more → found_of qs found ((written q.name i, v) ∷ ps) ≡ Ok more
found_one q qs found more i v g ps free is rest =
    bind_is (wanted (unused qs found q.name) BadParameter i) (λ (p : Parameter). given_of p.shape v >>= λ k. found_of qs (found ++ (p.name, k) ∷ []) ps) q (Ok more)
    (ap (λ o. wanted o BadParameter i) free) (bind_is (given_of q.shape v) (λ k. found_of qs (found ++ (q.name, k) ∷ []) ps) g (Ok more) is rest)

pub givens_one : (q : Parameter) (w : Written) (i : ℕ) (v : RawValue) (g : Given) → unused (q ∷ []) [] q.name ≡ Some q → filled (q ∷ []) ((q.name, g) ∷ []) w.place ≡ Ok (g ∷ []) →
    given_of q.shape v ≡ Ok g → givens_of (q ∷ []) (record { name = w; parameters = named ((written q.name i, v) ∷ []) }) ≡ Ok (g ∷ [])
givens_one q w i v g free fills is =
    bind_is (found_of (q ∷ []) [] ((written q.name i, v) ∷ [])) (λ f. filled (q ∷ []) f w.place) ((q.name, g) ∷ []) (Ok (g ∷ []))
    (found_one q (q ∷ []) [] ((q.name, g) ∷ []) i v g [] free is refl) fills

pub givens_two : (q r : Parameter) (w : Written) (i j : ℕ) (u v : RawValue) (g h : Given) → unused (q ∷ r ∷ []) [] q.name ≡ Some q → unused (q ∷ r ∷ []) ((q.name, g) ∷ []) r.name ≡ Some r →
    filled (q ∷ r ∷ []) ((q.name, g) ∷ (r.name, h) ∷ []) w.place ≡ Ok (g ∷ h ∷ []) → given_of q.shape u ≡ Ok g → given_of r.shape v ≡ Ok h →
    givens_of (q ∷ r ∷ []) (record { name = w; parameters = named ((written q.name i, u) ∷ (written r.name j, v) ∷ []) }) ≡ Ok (g ∷ h ∷ [])
givens_two q r w i j u v g h free next fills is so =
    bind_is (found_of (q ∷ r ∷ []) [] ((written q.name i, u) ∷ (written r.name j, v) ∷ [])) (λ f. filled (q ∷ r ∷ []) f w.place) ((q.name, g) ∷ (r.name, h) ∷ []) (Ok (g ∷ h ∷ []))
    (found_one q (q ∷ r ∷ []) [] ((q.name, g) ∷ (r.name, h) ∷ []) i u g ((written r.name j, v) ∷ []) free is
    (found_one r (q ∷ r ∷ []) ((q.name, g) ∷ []) ((q.name, g) ∷ (r.name, h) ∷ []) j v h [] next so refl)) fills

pub givens_three : (q r s : Parameter) (w : Written) (i j l : ℕ) (u v x : RawValue) (g h k : Given) → unused (q ∷ r ∷ s ∷ []) [] q.name ≡ Some q → unused (q ∷ r ∷ s ∷ []) ((q.name, g) ∷ []) r.name ≡ Some r →
    unused (q ∷ r ∷ s ∷ []) ((q.name, g) ∷ (r.name, h) ∷ []) s.name ≡ Some s → filled (q ∷ r ∷ s ∷ []) ((q.name, g) ∷ (r.name, h) ∷ (s.name, k) ∷ []) w.place ≡ Ok (g ∷ h ∷ k ∷ []) →
    given_of q.shape u ≡ Ok g → given_of r.shape v ≡ Ok h → given_of s.shape x ≡ Ok k →
    givens_of (q ∷ r ∷ s ∷ []) (record { name = w; parameters = named ((written q.name i, u) ∷ (written r.name j, v) ∷ (written s.name l, x) ∷ []) }) ≡ Ok (g ∷ h ∷ k ∷ [])
givens_three q r s w i j l u v x g h k free next last fills is so also =
    let qs = q ∷ r ∷ s ∷ [] in let all = (q.name, g) ∷ (r.name, h) ∷ (s.name, k) ∷ [] in
    bind_is (found_of qs [] ((written q.name i, u) ∷ (written r.name j, v) ∷ (written s.name l, x) ∷ [])) (λ f. filled qs f w.place) all (Ok (g ∷ h ∷ k ∷ []))
    (found_one q qs [] all i u g ((written r.name j, v) ∷ (written s.name l, x) ∷ []) free is
    (found_one r qs ((q.name, g) ∷ []) all j v h ((written s.name l, x) ∷ []) next so
    (found_one s qs ((q.name, g) ∷ (r.name, h) ∷ []) all l x k [] last also refl))) fills

-- a test of no parameters
bare_test : (name : TestName) (t : Test) (n m : Counts) → is_word (test_name name) ≡ true → is_reserved (test_name name) ≡ false →
    ((place : ℕ) → fit_test (record { name = written (test_name name) place; parameters = unnamed [] }) m ≡ Ok (t, m)) → Same n m → TestReads n m t (test_name name)
bare_test name t n m is free fits same at gap after white end =
    let a = bare_reads (test_name name) is free at gap after white end in
    record { raw = record { name = written (test_name name) a.place; parameters = unnamed [] }; counts = m; shown = a.shown; fits = fits a.place; same = same; within = tt }

pub true_reads : (n m : Counts) → Same n m → TestReads n m tests.True (printed_test tests.True)
true_reads n m same = bare_test test_names.True tests.True n m refl refl (λ place. refl) same

pub false_reads : (n m : Counts) → Same n m → TestReads n m tests.False (printed_test tests.False)
false_reads n m same = bare_test test_names.False tests.False n m refl refl (λ place. refl) same

-- a test of one parameter
record OneTest (name : TestName) (q : Parameter) (P : RawValue → Type 0) (g : Given) (t : Test) (m : Counts) : Type 0 where
  is : is_word (test_name name) ≡ true
  free : is_reserved (test_name name) ≡ false
  word : is_word q.name ≡ true
  called : test_named (test_name name) ≡ Some name
  takes : test_parameters name ≡ q ∷ []
  unused_first : unused (q ∷ []) [] q.name ≡ Some q
  fills : (place : ℕ) → filled (q ∷ []) ((q.name, g) ∷ []) place ≡ Ok (g ∷ [])
  makes : made_test name (g ∷ []) m ≡ (t, m)
  stands : (v : RawValue) → P v → given_of q.shape v ≡ Ok g

one_test : (name : TestName) (q : Parameter) (P : RawValue → Type 0) (g : Given) (printed : List ℕ) (t : Test) (n m : Counts) → OneTest name q P g t m → ValueReads P printed → Same n m →
    TestReads n m t (test_name name ++ (codes "(" ++ ((q.name ++ (codes "=" ++ printed)) ++ codes ")")))
one_test name q P g printed t n m o reads same at gap after white end =
    let a = call_reads (IsPair q.name P) (test_name name) (q.name ++ (codes "=" ++ printed)) o.is o.free (one_pair P q.name printed o.word reads) at gap after white end in
    let call : RawCall = record { name = written (test_name name) a.place; parameters = named a.pairs } in
    let given : givens_of (q ∷ []) call ≡ Ok (g ∷ []) =
    subst (λ (ps : List (Written × RawValue)). givens_of (q ∷ []) (record { name = written (test_name name) a.place; parameters = named ps }) ≡ Ok (g ∷ [])) (sym a.holds.2)
    (givens_one q (written (test_name name) a.place) a.holds.0 a.holds.1 g o.unused_first (o.fills a.place) (o.stands a.holds.1 a.holds.3)) in
    record {
      raw = call;
      counts = m;
      shown = a.shown;
      fits = bind_is (wanted (test_named (test_name name)) UnknownName a.place) (λ (k : TestName). givens_of (test_parameters k) call >>= λ gs. Ok (made_test k gs m)) name (Ok (t, m))
          (ap (λ o. wanted o UnknownName a.place) o.called)
          (bind_is (givens_of (test_parameters name) call) (λ gs. Ok (made_test name gs m)) (g ∷ []) (Ok (t, m)) (ap (λ qs. givens_of qs call) o.takes ∙ given) (ap Ok o.makes));
      same = same;
      within = tt;
    }

-- what an array of texts gives
texts_given : (bs : List (List ℕ)) (b : List ℕ) (v : RawValue) → IsArray (b ∷ bs) v → given_of shapes.Texts v ≡ Ok (givens.Texts (b ∷ bs))
texts_given bs b v (place, [], e, are) = absurd (cc)
texts_given bs b v (place, w ∷ ws, e, are) = subst (λ k. given_of shapes.Texts k ≡ Ok (givens.Texts (b ∷ bs))) (sym e) (ap (λ xs. Ok (givens.Texts xs)) are)

paths_given : (bs : List (List ℕ)) (b : List ℕ) (v : RawValue) → map rooted (b ∷ bs) ≡ b ∷ bs → IsArray (b ∷ bs) v → given_of shapes.Paths v ≡ Ok (givens.Texts (b ∷ bs))
paths_given bs b v kept (place, [], e, are) = absurd (cc)
paths_given bs b v kept (place, w ∷ ws, e, are) = subst (λ k. given_of shapes.Paths k ≡ Ok (givens.Texts (b ∷ bs))) (sym e) (ap (λ xs. Ok (givens.Texts (map rooted xs))) are ∙ ap (λ xs. Ok (givens.Texts xs)) kept)

pub template_is : (place : ℕ) (text : List ℕ) (t : List Piece) → template_of text ≡ Ok t → template_at place text ≡ Ok t
template_is place text t again = rw again

pub template_given : (t : List Piece) (v : RawValue) → template_of (written_template t) ≡ Ok t → IsOne (written_template t) v → given_of shapes.OneTemplate v ≡ Ok (givens.Template t)
template_given t v again (place, e) =
    subst (λ k. given_of shapes.OneTemplate k ≡ Ok (givens.Template t)) (sym e)
    (bind_is (template_at place (written_template t)) (λ k. Ok (givens.Template k)) t (Ok (givens.Template t)) (template_is place (written_template t) t again) refl)

pub suffix_reads : (n m : Counts) (b : List ℕ) (bs : List (List ℕ)) → AreFine (b ∷ bs) → Same n m → TestReads n m (tests.Suffix (b ∷ bs)) (printed_test (tests.Suffix (b ∷ bs)))
suffix_reads n m b bs fine same =
    one_test test_names.PathSuffix (record { name = codes "path"; shape = shapes.Texts; default = None }) (IsArray (b ∷ bs)) (givens.Texts (b ∷ bs)) _ (tests.Suffix (b ∷ bs)) n m
    (record { is = refl; free = refl; word = refl; called = refl; takes = refl; unused_first = refl; fills = λ place. refl; makes = refl; stands = texts_given bs b }) (array_reads b bs fine) same

pub method_reads : (n m : Counts) (b : List ℕ) (bs : List (List ℕ)) → AreFine (b ∷ bs) → Same n m → TestReads n m (tests.Method (b ∷ bs)) (printed_test (tests.Method (b ∷ bs)))
method_reads n m b bs fine same =
    one_test test_names.Method (record { name = codes "value"; shape = shapes.Texts; default = None }) (IsArray (b ∷ bs)) (givens.Texts (b ∷ bs)) _ (tests.Method (b ∷ bs)) n m
    (record { is = refl; free = refl; word = refl; called = refl; takes = refl; unused_first = refl; fills = λ place. refl; makes = refl; stands = texts_given bs b }) (array_reads b bs fine) same

-- paths that have their leading `/`
pub path_reads : (n m : Counts) (b : List ℕ) (bs : List (List ℕ)) → AreFine (b ∷ bs) → map rooted (b ∷ bs) ≡ b ∷ bs → Same n m → TestReads n m (tests.Path (b ∷ bs)) (printed_test (tests.Path (b ∷ bs)))
path_reads n m b bs fine kept same =
    one_test test_names.Path (record { name = codes "path"; shape = shapes.Paths; default = None }) (IsArray (b ∷ bs)) (givens.Texts (b ∷ bs)) _ (tests.Path (b ∷ bs)) n m
    (record { is = refl; free = refl; word = refl; called = refl; takes = refl; unused_first = refl; fills = λ place. refl; makes = refl; stands = λ v. paths_given bs b v kept }) (array_reads b bs fine) same

-- a template whose spelling can be printed and is read as it
pub exists_reads : (n m : Counts) (t : List Piece) → IsFine (written_template t) → template_of (written_template t) ≡ Ok t → Same n m → TestReads n m (tests.Exists t) (printed_test (tests.Exists t))
exists_reads n m t fine again same =
    one_test test_names.Exists (record { name = codes "value"; shape = shapes.OneTemplate; default = None }) (IsOne (written_template t)) (givens.Template t) _ (tests.Exists t) n m
    (record { is = refl; free = refl; word = refl; called = refl; takes = refl; unused_first = refl; fills = λ place. refl; makes = refl; stands = λ v. template_given t v again }) (text_reads (written_template t) fine) same

-- what prefixes are printed as
abbrev pub with_slash : List ℕ → List ℕ
with_slash bytes = if last_byte 92 bytes == 92 then bytes ++ codes "/" else bytes

prefixes_printed : (ps : List (List ℕ)) → map printed_prefix ps ≡ map printed_text (map with_slash ps)
prefixes_printed [] = refl
prefixes_printed (p ∷ ps) = ap (λ xs. printed_prefix p ∷ xs) (prefixes_printed ps)

templates_printed : (ts : List (List Piece)) → map printed_template ts ≡ map printed_text (map written_template ts)
templates_printed [] = refl
templates_printed (t ∷ ts) = ap (λ xs. printed_template t ∷ xs) (templates_printed ts)

prefixes_given : (b : List ℕ) (bs : List (List ℕ)) (ps : List (List ℕ)) (v : RawValue) → map prefix_of (b ∷ bs) ≡ ps → IsArray (b ∷ bs) v → given_of shapes.Prefixes v ≡ Ok (givens.Texts ps)
prefixes_given b bs ps v kept (place, [], e, are) = absurd (cc)
prefixes_given b bs ps v kept (place, w ∷ ws, e, are) = subst (λ k. given_of shapes.Prefixes k ≡ Ok (givens.Texts ps)) (sym e) (ap (λ xs. Ok (givens.Texts (map prefix_of xs))) are ∙ ap (λ xs. Ok (givens.Texts xs)) kept)

-- each template is read from its own spelling
abbrev pub AreAgain : List (List Piece) → Type 0
AreAgain [] = Unit {0}
AreAgain (t ∷ ts) = (template_of (written_template t) ≡ Ok t) × AreAgain ts

templates_are : (place : ℕ) (ts : List (List Piece)) → AreAgain ts → templates_at place (map written_template ts) ≡ Ok ts
templates_are place [] h = refl
templates_are place (t ∷ ts) h =
    bind_is (template_at place (written_template t)) (λ k. templates_at place (map written_template ts) >>= λ ks. Ok (k ∷ ks)) t (Ok (t ∷ ts)) (template_is place (written_template t) t h.0)
    (bind_is (templates_at place (map written_template ts)) (λ ks. Ok (t ∷ ks)) ts (Ok (t ∷ ts)) (templates_are place ts h.1) refl)

templates_given : (t : List Piece) (ts : List (List Piece)) (v : RawValue) → AreAgain (t ∷ ts) → IsArray (map written_template (t ∷ ts)) v → given_of shapes.Templates v ≡ Ok (givens.Templates (t ∷ ts))
templates_given t ts v again (place, [], e, are) = absurd (cc)
templates_given t ts v again (place, w ∷ ws, e, are) =
    subst (λ k. given_of shapes.Templates k ≡ Ok (givens.Templates (t ∷ ts))) (sym e)
    (bind_is (templates_at place (map (λ (x : Written). x.bytes) (w ∷ ws))) (λ ks. Ok (givens.Templates ks)) (t ∷ ts) (Ok (givens.Templates (t ∷ ts)))
    (ap (templates_at place) are ∙ templates_are place (t ∷ ts) again) refl)

pub prefix_reads : (n m : Counts) (p : List ℕ) (ps : List (List ℕ)) → AreFine (map with_slash (p ∷ ps)) → map prefix_of (map with_slash (p ∷ ps)) ≡ p ∷ ps → Same n m →
    TestReads n m (tests.Prefix (p ∷ ps)) (printed_test (tests.Prefix (p ∷ ps)))
prefix_reads n m p ps fine kept same =
    one_test test_names.PathPrefix (record { name = codes "path"; shape = shapes.Prefixes; default = None }) (IsArray (map with_slash (p ∷ ps))) (givens.Texts (p ∷ ps)) (printed_array (map printed_prefix (p ∷ ps)))
    (tests.Prefix (p ∷ ps)) n m
    (record { is = refl; free = refl; word = refl; called = refl; takes = refl; unused_first = refl; fills = λ place. refl; makes = refl; stands = λ v. prefixes_given (with_slash p) (map with_slash ps) (p ∷ ps) v kept })
    (subst (λ k. ValueReads (IsArray (map with_slash (p ∷ ps))) (printed_array k)) (sym (prefixes_printed (p ∷ ps))) (array_reads (with_slash p) (map with_slash ps) fine)) same

pub equals_reads : (n m : Counts) (t : List Piece) (ts : List (List Piece)) → AreFine (map written_template (t ∷ ts)) → AreAgain (t ∷ ts) → Same n m →
    TestReads n m (tests.Equals (t ∷ ts)) (printed_test (tests.Equals (t ∷ ts)))
equals_reads n m t ts fine again same =
    one_test test_names.Equals (record { name = codes "value"; shape = shapes.Templates; default = None }) (IsArray (map written_template (t ∷ ts))) (givens.Templates (t ∷ ts)) (printed_array (map printed_template (t ∷ ts)))
    (tests.Equals (t ∷ ts)) n m
    (record { is = refl; free = refl; word = refl; called = refl; takes = refl; unused_first = refl; fills = λ place. refl; makes = refl; stands = λ v. templates_given t ts v again })
    (subst (λ k. ValueReads (IsArray (map written_template (t ∷ ts))) (printed_array k)) (sym (templates_printed (t ∷ ts))) (array_reads (written_template t) (map written_template ts) fine)) same

-- a test of two parameters, of which the first may stand for its place too
record TwoTest (name : TestName) (q r : Parameter) (P Q : RawValue → Type 0) (t : Test) (n m : Counts) : Type 0 where
  is : is_word (test_name name) ≡ true
  free : is_reserved (test_name name) ≡ false
  word : is_word q.name ≡ true
  next : is_word r.name ≡ true
  called : test_named (test_name name) ≡ Some name
  takes : test_parameters name ≡ q ∷ r ∷ []
  unused_first : unused (q ∷ r ∷ []) [] q.name ≡ Some q
  unused_next : (g : Given) → unused (q ∷ r ∷ []) ((q.name, g) ∷ []) r.name ≡ Some r
  fills : (g h : Given) (place : ℕ) → filled (q ∷ r ∷ []) ((q.name, g) ∷ (r.name, h) ∷ []) place ≡ Ok (g ∷ h ∷ [])
  stands : (u v : RawValue) → P u → Q v → (g h : Given) × (k : Counts) × (given_of q.shape u ≡ Ok g) × (given_of r.shape v ≡ Ok h) × (made_test name (g ∷ h ∷ []) m ≡ (t, k)) × Same n k

two_test : (name : TestName) (q r : Parameter) (P Q : RawValue → Type 0) (printed shown_so : List ℕ) (t : Test) (n m : Counts) → TwoTest name q r P Q t n m → ValueReads P printed → ValueReads Q shown_so →
    TestReads n m t (test_name name ++ (codes "(" ++ (((q.name ++ (codes "=" ++ printed)) ++ (codes ", " ++ (r.name ++ (codes "=" ++ shown_so)))) ++ codes ")")))
two_test name q r P Q printed shown_so t n m o reads reads_so at gap after white end =
    let a = call_reads (ArePairs q.name P r.name Q) (test_name name) ((q.name ++ (codes "=" ++ printed)) ++ (codes ", " ++ (r.name ++ (codes "=" ++ shown_so)))) o.is o.free
    (two_pairs P Q q.name r.name printed shown_so o.word o.next reads reads_so) at gap after white end in
    let call : RawCall = record { name = written (test_name name) a.place; parameters = named a.pairs } in
    let s = o.stands a.holds.2 a.holds.3 a.holds.5 a.holds.6 in
    let given : givens_of (q ∷ r ∷ []) call ≡ Ok (s.0 ∷ s.1 ∷ []) =
    subst (λ (ps : List (Written × RawValue)). givens_of (q ∷ r ∷ []) (record { name = written (test_name name) a.place; parameters = named ps }) ≡ Ok (s.0 ∷ s.1 ∷ [])) (sym a.holds.4)
    (givens_two q r (written (test_name name) a.place) a.holds.0 a.holds.1 a.holds.2 a.holds.3 s.0 s.1 o.unused_first (o.unused_next s.0) (o.fills s.0 s.1 a.place) s.3 s.4) in
    record {
      raw = call;
      counts = s.2;
      shown = a.shown;
      fits = bind_is (wanted (test_named (test_name name)) UnknownName a.place) (λ (k : TestName). givens_of (test_parameters k) call >>= λ gs. Ok (made_test k gs m)) name (Ok (t, s.2))
          (ap (λ o. wanted o UnknownName a.place) o.called)
          (bind_is (givens_of (test_parameters name) call) (λ gs. Ok (made_test name gs m)) (s.0 ∷ s.1 ∷ []) (Ok (t, s.2)) (ap (λ qs. givens_of qs call) o.takes ∙ given) (ap Ok s.5));
      same = s.6;
      within = tt;
    }

pub contains_reads : (n m : Counts) (t : List Piece) (b : List ℕ) (bs : List (List ℕ)) → IsFine (written_template t) → template_of (written_template t) ≡ Ok t → AreFine (b ∷ bs) → Same n m →
    TestReads n m (tests.Contains t (b ∷ bs)) (printed_test (tests.Contains t (b ∷ bs)))
contains_reads n m t b bs fine again are same =
    two_test test_names.Contains (record { name = codes "value"; shape = shapes.OneTemplate; default = None }) (record { name = codes "search"; shape = shapes.Texts; default = None })
    (IsOne (written_template t)) (IsArray (b ∷ bs)) (printed_template t) (printed_array (map printed_text (b ∷ bs))) (tests.Contains t (b ∷ bs)) n m
    (record {
      is = refl;
      free = refl;
      word = refl;
      next = refl;
      called = refl;
      takes = refl;
      unused_first = refl;
      unused_next = λ g. refl;
      fills = λ g h place. refl;
      stands = λ u v x y. (givens.Template t, givens.Texts (b ∷ bs), m, template_given t u again x, texts_given bs b v y, refl, same);
    }) (text_reads (written_template t) fine) (array_reads b bs are)

-- the text of a path with names in braces
abbrev pub spelled_match : List Segment → List ℕ
spelled_match parts = join_with_byte 47 (map spelled_segment parts)

match_given : (parts : List Segment) (v : RawValue) → segments_of (spelled_match parts) ≡ Some parts → IsOne (spelled_match parts) v → given_of shapes.Match v ≡ Ok (givens.Segments parts)
match_given parts v again (place, e) =
    subst (λ k. given_of shapes.Match k ≡ Ok (givens.Segments parts)) (sym e)
    (bind_is (wanted (segments_of (spelled_match parts)) BadParameter place) (λ ps. Ok (givens.Segments ps)) parts (Ok (givens.Segments parts)) (ap (λ o. wanted o BadParameter place) again) refl)

pub path_template_reads : (n m : Counts) (parts : List Segment) (t : List Piece) → IsFine (spelled_match parts) → segments_of (spelled_match parts) ≡ Some parts →
    IsFine (written_template t) → template_of (written_template t) ≡ Ok t → Same n m → TestReads n m (tests.PathTemplate parts t) (printed_test (tests.PathTemplate parts t))
path_template_reads n m parts t good read fine again same =
    two_test test_names.PathTemplate (record { name = codes "match"; shape = shapes.Match; default = None }) (record { name = codes "value"; shape = shapes.OneTemplate; default = Some the_path })
    (IsOne (spelled_match parts)) (IsOne (written_template t)) (printed_match parts) (printed_template t) (tests.PathTemplate parts t) n m
    (record {
      is = refl;
      free = refl;
      word = refl;
      next = refl;
      called = refl;
      takes = refl;
      unused_first = refl;
      unused_next = λ g. refl;
      fills = λ g h place. refl;
      stands = λ u v x y. (givens.Segments parts, givens.Template t, m, match_given parts u read x, template_given t v again y, refl, same);
    }) (text_reads (spelled_match parts) good) (text_reads (written_template t) fine)

pattern_given : (b : List ℕ) (v : RawValue) → IsOne b v → (place : ℕ) × (given_of shapes.Pattern v ≡ Ok (givens.Pattern b place))
pattern_given b v (place, e) = (place, subst (λ k. given_of shapes.Pattern k ≡ Ok (givens.Pattern b place)) (sym e) refl)

-- the pattern gets the number that it had; n are the counts before it
pub regex_reads : (n i m : Counts) (b : List ℕ) (t : List Piece) → IsFine b → IsFine (written_template t) → template_of (written_template t) ≡ Ok t → Same n m →
    (i.limits ≡ n.limits) × (i.logs ≡ n.logs) × (length i.patterns ≡ length n.patterns + 1) →
    TestReads i m (tests.Regex (length n.patterns) b t) (printed_test (tests.Regex (length n.patterns) b t))
regex_reads n i m b t good fine again same more =
    two_test test_names.Regex (record { name = codes "pattern"; shape = shapes.Pattern; default = None }) (record { name = codes "value"; shape = shapes.OneTemplate; default = Some the_path })
    (IsOne b) (IsOne (written_template t)) (printed_text b) (printed_template t) (tests.Regex (length n.patterns) b t) i m
    (record {
      is = refl;
      free = refl;
      word = refl;
      next = refl;
      called = refl;
      takes = refl;
      unused_first = refl;
      unused_next = λ g. refl;
      fills = λ g h place. refl;
      stands = λ u v x y.
          let p = pattern_given b u x in
          let k : Counts = record m { patterns = m.patterns ++ p.0 ∷ [] } in (
            givens.Pattern b p.0,
            givens.Template t,
            k,
            p.1,
            template_given t v again y,
            ap (λ (c : ℕ). let z : Test × Counts = (tests.Regex c b t, k) in z) (sym same.patterns),
            record { limits = more.0 ∙ same.limits; logs = more.1 ∙ same.logs; patterns = more.2 ∙ ap (λ (c : ℕ). c + 1) same.patterns ∙ sym (length-append m.patterns (p.0 ∷ [])) },
          );
    }) (text_reads b good) (text_reads (written_template t) fine)
