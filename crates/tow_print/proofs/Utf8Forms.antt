-- What is printed of texts that are UTF-8 is UTF-8: texts, paths, arrays and calls.
use Rattle.std.specs.Prelude.{◌≡◌, ◌⊎◌, ℕ, ◌<◌, ◌≤◌, ◌==◌, Bool, true, false, List, [], ◌∷◌, ◌++◌, map, codes, flat_map, if◌then◌else◌, IsUtf8}
use Rattle.std.specs.List.{list_all}
use Rattle.std.specs.Char.{is_ascii}
use Rattle.std.proofs.Common.{refl, sym, ap, ap₂, arith, rules, subst}
use Rattle.std.proofs.lemmas.Bool.{eqb-true, and_parts}
use Rattle.std.proofs.lemmas.Str.{IsUtf8-nil, IsUtf8-append}
use mathlib.Core.Logic.{inl, inr}
use Rattle.tow_language.specs.declared.table.TestName.{TestName}
use Rattle.tow_language.specs.declared.table.TestName.TheVariants as tests
use Rattle.tow_language.specs.declared.table.Handler.{Handler}
use Rattle.tow_language.specs.declared.table.Handler.TheVariants as handlers
use Rattle.tow_model.specs.Texts.{begins_with}
use Rattle.tow_language.specs.Tokens.{last_byte}
use Rattle.tow_model.specs.Paths.{rooted}
use Rattle.tow_language.specs.Shapes.{without_last_slashes, prefix_of}
use Rattle.tow_language.specs.Table.{Parameter, test_name, test_parameters, handler_name, handler_parameters}
use Rattle.tow_language.specs.Printed.{is_word, joined_by, printed_text, printed_prefix, printed_array, printed_truth, printed_pairs, printed_call}
use Rattle.tow_print.specs.Words.{quoted_byte}
use Rattle.tow_print.proofs.Fits.{with_slash}
use Rattle.tow_print.proofs.Textual.{OfEach}
use Rattle.tow_print.proofs.Utf8.{utf8_cons, utf8_ascii, utf8_before, utf8_flat_map}

one_of : (t : Bool) (a b : List ℕ) → IsUtf8 a → IsUtf8 b → IsUtf8 (if t then a else b)
one_of true a b u v = u
one_of false a b u v = v

-- what holds of each holds of what becomes of each
pub each_mapped : {A B : Type 0} (P : A → Type 0) (Q : B → Type 0) (f : A → B) → ((x : A) → P x → Q (f x)) → (xs : List A) → OfEach P xs → OfEach Q (map f xs)
each_mapped P Q f goes [] are = tt
each_mapped P Q f goes (x ∷ xs) are = (goes x are.0, each_mapped P Q f goes xs are.1)

-- a text, bare or in quotes
pub utf8_printed : (bs : List ℕ) → IsUtf8 bs → IsUtf8 (printed_text bs)
utf8_printed bs u =
    one_of (is_word bs) bs (codes "'" ++ (flat_map quoted_byte bs ++ codes "'")) u
    (utf8_cons 39 (flat_map quoted_byte bs ++ codes "'") (omega arith) (IsUtf8-append (flat_map quoted_byte bs) (codes "'") (utf8_flat_map quoted_byte low high bs u) (utf8_ascii (codes "'") refl)))
  where
    low : (b : ℕ) → b < 128 → IsUtf8 (quoted_byte b)
    low b small = one_of (b == 39) (codes "\\'") (b ∷ []) (utf8_ascii (codes "\\'") refl) (utf8_cons b [] small IsUtf8-nil)

    high : (b : ℕ) → 128 ≤ b → quoted_byte b ≡ b ∷ []
    high b big = let other : (b == 39) ≡ false = search rules in ap (λ t. if t then codes "\\'" else b ∷ []) other

pub utf8_texts : (texts : List (List ℕ)) → OfEach IsUtf8 texts → OfEach IsUtf8 (map printed_text texts)
utf8_texts = each_mapped IsUtf8 IsUtf8 printed_text utf8_printed

-- with a leading slash
pub utf8_rooted : (path : List ℕ) → IsUtf8 path → IsUtf8 (rooted path)
utf8_rooted path u = one_of (begins_with (codes "/") path) path (47 ∷ path) u (utf8_cons 47 path (omega arith) u)

-- the whole path, or what stands before one of its slashes
abbrev IsFront : List ℕ → List ℕ → Type 0
IsFront front path = (front ≡ path) ⊎ ((more : List ℕ) × (path ≡ front ++ 47 ∷ more))

-- a path without its last slashes
slashes_off : (path : List ℕ) → IsFront (without_last_slashes path) path
slashes_off [] = inl refl
slashes_off (b ∷ path) = one_more b path (without_last_slashes path) (b == 47) refl (slashes_off path)
  where
    before_rest : Bool → ℕ → List ℕ → List ℕ
    before_rest t b [] = if t then [] else b ∷ []
    before_rest t b (c ∷ cs) = b ∷ c ∷ cs

    one_more : (b : ℕ) (path rest : List ℕ) (t : Bool) → (b == 47) ≡ t → IsFront rest path → IsFront (before_rest t b rest) (b ∷ path)
    one_more b path [] true e (inl f) = inr ([], ap₂ (λ k ks. k ∷ ks) (eqb-true b 47 e) (sym f))
    one_more b path [] true e (inr (more, f)) = inr (path, ap (λ k. k ∷ path) (eqb-true b 47 e))
    one_more b path [] false e (inl f) = inl (ap (λ ks. b ∷ ks) f)
    one_more b path [] false e (inr (more, f)) = inr (more, ap (λ ks. b ∷ ks) f)
    one_more b path (c ∷ cs) t e (inl f) = inl (ap (λ ks. b ∷ ks) f)
    one_more b path (c ∷ cs) t e (inr (more, f)) = inr (more, ap (λ ks. b ∷ ks) f)

-- a prefix
pub utf8_prefix : (path : List ℕ) → IsUtf8 path → IsUtf8 (prefix_of path)
utf8_prefix path u = by_end (slashes_off (rooted path)) (utf8_rooted path u)
  where
    by_end : IsFront (prefix_of path) (rooted path) → IsUtf8 (rooted path) → IsUtf8 (prefix_of path)
    by_end (inl e) v = subst IsUtf8 (sym e) v
    by_end (inr (more, e)) v = utf8_before (prefix_of path) 47 more (omega arith) (subst IsUtf8 e v)

pub utf8_with_slash : (path : List ℕ) → IsUtf8 path → IsUtf8 (with_slash path)
utf8_with_slash path u = one_of (last_byte 92 path == 92) (path ++ codes "/") path (IsUtf8-append path (codes "/") u (utf8_ascii (codes "/") refl)) u

pub utf8_printed_prefix : (path : List ℕ) → IsUtf8 path → IsUtf8 (printed_prefix path)
utf8_printed_prefix path u = utf8_printed (with_slash path) (utf8_with_slash path u)

pub utf8_joined : (between : List ℕ) (texts : List (List ℕ)) → IsUtf8 between → OfEach IsUtf8 texts → IsUtf8 (joined_by between texts)
utf8_joined between [] u are = IsUtf8-nil
utf8_joined between (x ∷ []) u are = are.0
utf8_joined between (x ∷ y ∷ xs) u are =
    IsUtf8-append x (between ++ joined_by between (y ∷ xs)) are.0 (IsUtf8-append between (joined_by between (y ∷ xs)) u (utf8_joined between (y ∷ xs) u are.1))

pub utf8_array : (texts : List (List ℕ)) → OfEach IsUtf8 texts → IsUtf8 (printed_array texts)
utf8_array texts are =
    utf8_cons 123 (joined_by (codes ", ") texts ++ codes "}") (omega arith)
    (IsUtf8-append (joined_by (codes ", ") texts) (codes "}") (utf8_joined (codes ", ") texts (utf8_ascii (codes ", ") refl) are) (utf8_ascii (codes "}") refl))

pub utf8_truth : (b : Bool) → IsUtf8 (printed_truth b)
utf8_truth true = utf8_ascii (codes "true") refl
utf8_truth false = utf8_ascii (codes "false") refl

-- the names of the parameters are ASCII
abbrev are_named : List Parameter → Bool
are_named qs = list_all (λ (q : Parameter). list_all is_ascii q.name) qs

pairs_utf8 : (qs : List Parameter) (values : List (List ℕ)) → are_named qs ≡ true → OfEach IsUtf8 values → OfEach IsUtf8 (printed_pairs qs values)
pairs_utf8 [] values e are = tt
pairs_utf8 (q ∷ qs) [] e are = tt
pairs_utf8 (q ∷ qs) (v ∷ vs) e are =
    let h = and_parts (list_all is_ascii q.name) (are_named qs) e in
    (IsUtf8-append q.name (codes "=" ++ v) (utf8_ascii q.name h.0) (utf8_cons 61 v (omega arith) are.0), pairs_utf8 qs vs h.1 are.1)

call_utf8 : (name : List ℕ) (qs : List Parameter) (values : List (List ℕ)) → list_all is_ascii name ≡ true → are_named qs ≡ true → OfEach IsUtf8 values → IsUtf8 (printed_call name qs values)
call_utf8 name [] values small e are = utf8_ascii name small
call_utf8 name (q ∷ qs) values small e are =
    let J = joined_by (codes ", ") (printed_pairs (q ∷ qs) values) in
    IsUtf8-append name (codes "(" ++ (J ++ codes ")")) (utf8_ascii name small)
    (utf8_cons 40 (J ++ codes ")") (omega arith)
    (IsUtf8-append J (codes ")") (utf8_joined (codes ", ") (printed_pairs (q ∷ qs) values) (utf8_ascii (codes ", ") refl) (pairs_utf8 (q ∷ qs) values e are)) (utf8_ascii (codes ")") refl)))

-- a test whose printed values are UTF-8
pub utf8_test_call : (name : TestName) (values : List (List ℕ)) → OfEach IsUtf8 values → IsUtf8 (printed_call (test_name name) (test_parameters name) values)
utf8_test_call name values are = call_utf8 (test_name name) (test_parameters name) values (named_so name).0 (named_so name).1 are
  where
    named_so : (name : TestName) → (list_all is_ascii (test_name name) ≡ true) × (are_named (test_parameters name) ≡ true)
    named_so tests.True = (refl, refl)
    named_so tests.False = (refl, refl)
    named_so tests.Path = (refl, refl)
    named_so tests.PathPrefix = (refl, refl)
    named_so tests.PathSuffix = (refl, refl)
    named_so tests.PathTemplate = (refl, refl)
    named_so tests.Regex = (refl, refl)
    named_so tests.Method = (refl, refl)
    named_so tests.Equals = (refl, refl)
    named_so tests.Contains = (refl, refl)
    named_so tests.Exists = (refl, refl)

-- an action whose printed values are UTF-8
pub utf8_action_call : (name : Handler) (values : List (List ℕ)) → OfEach IsUtf8 values → IsUtf8 (printed_call (handler_name name) (handler_parameters name) values)
utf8_action_call name values are = call_utf8 (handler_name name) (handler_parameters name) values (named_so name).0 (named_so name).1 are
  where
    named_so : (name : Handler) → (list_all is_ascii (handler_name name) ≡ true) × (are_named (handler_parameters name) ≡ true)
    named_so handlers.Set = (refl, refl)
    named_so handlers.Clear = (refl, refl)
    named_so handlers.Rewrite = (refl, refl)
    named_so handlers.Redirect = (refl, refl)
    named_so handlers.ResponseCode = (refl, refl)
    named_so handlers.Header = (refl, refl)
    named_so handlers.AllowedMethods = (refl, refl)
    named_so handlers.RequestLimit = (refl, refl)
    named_so handlers.Resource = (refl, refl)
    named_so handlers.Blocking = (refl, refl)
    named_so handlers.AccessLog = (refl, refl)
    named_so handlers.Echo = (refl, refl)
