-- The parameters of a textual call, in the table's order, are what can be printed and is read as it again.
use Rattle.std.specs.Prelude.{◌≡◌, ◌⊎◌, ℕ, Bool, true, false, List, [], ◌∷◌, ◌++◌, map, bytes_eq, find, if◌then◌else◌, Option, None, Some, Ok, option_map, is_some}
use Rattle.std.specs.Map.{lookup}
use Rattle.std.specs.Option.{option_or}
use Rattle.std.proofs.Common.{refl, sym, ap, ap₂, ◌∙◌, subst}
use mathlib.Core.Logic.{inl, inr}
use Rattle.std.proofs.lemmas.Slice.Eq.{bytes_eq-Decides}
use Rattle.tow_language.specs.declared.kind.Kind.TheVariants.{BadParameter}
use Rattle.tow_language.specs.declared.table.Given.{Given}
use Rattle.tow_language.specs.Raw.{Written, RawValue, one, array, RawParameters, unnamed, named, RawCall}
use Rattle.tow_language.specs.Shapes.{all_some}
use Rattle.tow_language.specs.Table.{Parameter, takes_array}
use Rattle.tow_language.specs.Fit.{◌>>=◌, fault, wanted, place_of, given_of, text_of, gathered, paired, Found, unused, found_of, filled, givens_of}
use Rattle.tow_print.proofs.Predicates.{bind_ok}
use Rattle.tow_print.proofs.Paths.{some_mapped}
use Rattle.tow_print.proofs.Textual.{OfEach, AllTextual, TextualValue, TextualParameters, TextualCall}
use Rattle.tow_print.proofs.Good.{Good}
use Rattle.tow_print.proofs.Givens.{wanted_is, given_good}

abbrev ArePairsTextual : List (Written × RawValue) → Type 0
ArePairsTextual = OfEach (λ (p : Written × RawValue). TextualValue p.1)

-- several textual texts are a textual array
texts_of_textual : (vs : List RawValue) (ws : List Written) → OfEach TextualValue vs → all_some (map text_of vs) ≡ Some ws → AllTextual ws
texts_of_textual [] ws textual e = let f : [] ≡ ws = cc in subst AllTextual f tt
texts_of_textual (one w ∷ vs) ws textual e =
    let a = some_mapped (all_some (map text_of vs)) (λ xs. w ∷ xs) ws e in subst AllTextual a.2 (textual.0, texts_of_textual vs a.0 textual.1 a.1)
texts_of_textual (array place us ∷ vs) ws textual e = absurd (cc)

gathered_textual : (place : ℕ) (vs : List RawValue) (v : RawValue) → OfEach TextualValue vs → gathered place vs ≡ Ok v → TextualValue v
gathered_textual place vs v textual e =
    let a = some_mapped (all_some (map text_of vs)) (array place) v (wanted_is (option_map (array place) (all_some (map text_of vs))) BadParameter place v e) in
    subst TextualValue a.2 (texts_of_textual vs a.0 textual a.1)

-- with their names, or those of the table
paired_textual : (qs : List Parameter) (given : RawParameters) (ps : List (Written × RawValue)) → TextualParameters given → paired qs given ≡ Ok ps → ArePairsTextual ps
paired_textual qs (named rs) ps textual e = let f : rs ≡ ps = cc in subst ArePairsTextual f textual
paired_textual qs (unnamed []) ps textual e = let f : [] ≡ ps = cc in subst ArePairsTextual f tt
paired_textual [] (unnamed (v ∷ vs)) ps textual e = absurd (cc)
paired_textual (q ∷ qs) (unnamed (v ∷ [])) ps textual e =
    let f : (record { bytes = q.name; place = place_of v }, v) ∷ [] ≡ ps = cc in subst ArePairsTextual f (textual.0, tt)
paired_textual (q ∷ qs) (unnamed (v ∷ w ∷ vs)) ps textual e = by_test (takes_array q.shape) e
  where
    by_test : (t : Bool) → (if t then (gathered (place_of v) (v ∷ w ∷ vs) >>= λ a. Ok ((record { bytes = q.name; place = place_of v }, a) ∷ [])) else fault BadParameter (place_of w)) ≡ Ok ps → ArePairsTextual ps
    by_test true f =
        let a = bind_ok (gathered (place_of v) (v ∷ w ∷ vs)) (λ a. Ok ((record { bytes = q.name; place = place_of v }, a) ∷ [])) ps f in
        let g : (record { bytes = q.name; place = place_of v }, a.0) ∷ [] ≡ ps = let h = a.2 in cc in
        subst ArePairsTextual g (gathered_textual (place_of v) (v ∷ w ∷ vs) a.0 textual a.1, tt)
    by_test false f = absurd (cc)

-- the table's parameter of this name
abbrev named_so : List ℕ → List Parameter → Option Parameter
named_so name qs = find (λ (q : Parameter). bytes_eq q.name name) qs

named_is : (qs : List Parameter) (name : List ℕ) (q : Parameter) → named_so name qs ≡ Some q → q.name ≡ name
named_is [] name q e = absurd (cc)
named_is (r ∷ qs) name q e = by_test (named_is qs name q) (bytes_eq r.name name) refl e
  where
    by_test : (named_so name qs ≡ Some q → q.name ≡ name) → (t : Bool) → bytes_eq r.name name ≡ t → (if t then Some r else named_so name qs) ≡ Some q → q.name ≡ name
    by_test more true f g = let h : r ≡ q = cc in ap (λ (k : Parameter). k.name) (sym h) ∙ (bytes_eq-Decides r.name name).0 f
    by_test more false f g = more g

-- what was found under the name of a parameter is good for it
abbrev AreFound : List Parameter → Found → Type 0
AreFound qs found = (q : Parameter) (g : Given) → named_so q.name qs ≡ Some q → lookup (bytes_eq q.name) found ≡ Some g → Good q.shape g

found_more : (test : List ℕ → Bool) (found : Found) (x : List ℕ × Given) (g : Given) → lookup test (found ++ x ∷ []) ≡ Some g → (lookup test found ≡ Some g) ⊎ ((test x.0 ≡ true) × (x.1 ≡ g))
found_more test [] x g e = by_test (test x.0) refl e
  where
    by_test : (t : Bool) → test x.0 ≡ t → (if t then Some x.1 else None) ≡ Some g → (None ≡ Some g) ⊎ ((test x.0 ≡ true) × (x.1 ≡ g))
    by_test true f h = inr (f, cc)
    by_test false f h = absurd (cc)
found_more test (y ∷ found) x g e = by_test (test y.0) (found_more test found x g) e
  where
    by_test : (t : Bool) → (lookup test (found ++ x ∷ []) ≡ Some g → (lookup test found ≡ Some g) ⊎ ((test x.0 ≡ true) × (x.1 ≡ g))) → (if t then Some y.1 else lookup test (found ++ x ∷ [])) ≡ Some g →
        ((if t then Some y.1 else lookup test found) ≡ Some g) ⊎ ((test x.0 ≡ true) × (x.1 ≡ g))
    by_test true more h = inl h
    by_test false more h = more h

one_found : (qs : List Parameter) (found : Found) (q : Parameter) (g : Given) → named_so q.name qs ≡ Some q → Good q.shape g → AreFound qs found → AreFound qs (found ++ (q.name, g) ∷ [])
one_found qs found q g is good are r h own e = by_place (found_more (bytes_eq r.name) found (q.name, g) h e)
  where
    by_place : (lookup (bytes_eq r.name) found ≡ Some h) ⊎ ((bytes_eq r.name q.name ≡ true) × (g ≡ h)) → Good r.shape h
    by_place (inl f) = are r h own f
    by_place (inr (f, k)) =
        let both : Some q ≡ Some r = sym is ∙ ap (λ name. named_so name qs) (sym ((bytes_eq-Decides r.name q.name).0 f)) ∙ own in
        let same : q ≡ r = cc in
        subst (λ (p : Parameter × Given). Good p.0.shape p.1) (ap₂ (λ (a : Parameter) (b : Given). let p : Parameter × Given = (a, b) in p) same k) good

unused_is : (qs : List Parameter) (found : Found) (name : List ℕ) (q : Parameter) → unused qs found name ≡ Some q → named_so name qs ≡ Some q
unused_is qs found name q e = by_test (is_some (lookup (bytes_eq name) found)) e
  where
    by_test : (t : Bool) → (if t then None else named_so name qs) ≡ Some q → named_so name qs ≡ Some q
    by_test true f = absurd (cc)
    by_test false f = f

all_found : (qs : List Parameter) (found more : Found) (ps : List (Written × RawValue)) → ArePairsTextual ps → AreFound qs found → found_of qs found ps ≡ Ok more → AreFound qs more
all_found qs found more [] textual are e = let f : found ≡ more = cc in subst (AreFound qs) f are
all_found qs found more (p ∷ ps) textual are e =
    let a = bind_ok (wanted (unused qs found p.0.bytes) BadParameter p.0.place) (λ (q : Parameter). given_of q.shape p.1 >>= λ g. found_of qs (found ++ (q.name, g) ∷ []) ps) more e in
    let q = a.0 in
    let b = bind_ok (given_of q.shape p.1) (λ g. found_of qs (found ++ (q.name, g) ∷ []) ps) more a.2 in
    let n = unused_is qs found p.0.bytes q (wanted_is (unused qs found p.0.bytes) BadParameter p.0.place q a.1) in
    let own = ap (λ name. named_so name qs) (named_is qs p.0.bytes q n) ∙ n in
    all_found qs (found ++ (q.name, b.0) ∷ []) more ps textual.1 (one_found qs found q b.0 own (given_good q.shape p.1 b.0 textual.0 b.1) are) b.2

-- each parameter is the first of its name in the table, and its default is good
abbrev pub AreOwn : List Parameter → List Parameter → Type 0
AreOwn qs [] = Unit {0}
AreOwn qs (r ∷ rs) = (find (λ (q : Parameter). bytes_eq q.name r.name) qs ≡ Some r) × ((g : Given) → r.default ≡ Some g → Good r.shape g) × AreOwn qs rs

-- what each parameter stands for is good for it
abbrev pub AreGood : List Parameter → List Given → Type 0
AreGood [] gs = gs ≡ []
AreGood (q ∷ qs) gs = (g : Given) × (hs : List Given) × (gs ≡ g ∷ hs) × Good q.shape g × AreGood qs hs

found_or : (o d : Option Given) (g : Given) → option_or o d ≡ Some g → (o ≡ Some g) ⊎ (d ≡ Some g)
found_or None d g e = inr e
found_or (Some x) d g e = inl e

filled_good : (qs rs : List Parameter) (found : Found) (place : ℕ) (gs : List Given) → AreOwn qs rs → AreFound qs found → filled rs found place ≡ Ok gs → AreGood rs gs
filled_good qs [] found place gs own are e = let f : [] ≡ gs = cc in sym f
filled_good qs (r ∷ rs) found place gs own are e =
    let a = bind_ok (wanted (option_or (lookup (bytes_eq r.name) found) r.default) BadParameter place) (λ g. filled rs found place >>= λ hs. Ok (g ∷ hs)) gs e in
    let b = bind_ok (filled rs found place) (λ hs. Ok (a.0 ∷ hs)) gs a.2 in
    let is : a.0 ∷ b.0 ≡ gs = let h = b.2 in cc in
    (a.0, b.0, sym is, good (found_or (lookup (bytes_eq r.name) found) r.default a.0 (wanted_is (option_or (lookup (bytes_eq r.name) found) r.default) BadParameter place a.0 a.1)), filled_good qs rs found place b.0 own.2 are b.1)
  where
    good : {g : Given} → (lookup (bytes_eq r.name) found ≡ Some g) ⊎ (r.default ≡ Some g) → Good r.shape g
    good {g = g} (inl f) = are r g own.0 f
    good {g = g} (inr f) = own.1 g f

pub givens_good : (qs : List Parameter) (c : RawCall) (gs : List Given) → AreOwn qs qs → TextualCall c → givens_of qs c ≡ Ok gs → AreGood qs gs
givens_good qs c gs own textual e =
    let a = bind_ok (paired qs c.parameters) (λ ps. found_of qs [] ps >>= λ found. filled qs found c.name.place) gs e in
    let b = bind_ok (found_of qs [] a.0) (λ found. filled qs found c.name.place) gs a.2 in
    filled_good qs qs b.0 c.name.place gs own (all_found qs [] b.0 a.0 (paired_textual qs c.parameters a.0 textual a.1) (λ q g n f. absurd (cc)) b.1) b.2
