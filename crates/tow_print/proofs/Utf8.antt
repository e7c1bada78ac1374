-- UTF-8 at its ASCII bytes: where it may be cut, and which changes of these bytes keep it.
use Rattle.std.specs.Prelude.{◌≡◌, ℕ, suc, ◌<◌, ◌≤◌, ◌==◌, ◌&&◌, Bool, true, false, List, [], ◌∷◌, ◌++◌, length, get_or, flat_map, if◌then◌else◌, IsUtf8}
use Rattle.std.specs.List.{list_all}
use Rattle.std.specs.Char.{is_ascii, to_ascii_lowercase}
use Rattle.std.proofs.Common.{refl, sym, ap, ap₂, ◌∙◌, arith, rules, subst, append-nil, length-append, ltb-true}
use Rattle.std.proofs.Math.Seq.{take-append_seam, drop-append_seam, get_or-append_seam}
use Rattle.std.proofs.lemmas.Bool.{and_parts, cases_lt}
use Rattle.std.proofs.lemmas.Grind.{flat_map-append}
use Rattle.std.proofs.lemmas.List.Concat.{flat_map_single}
use Rattle.std.proofs.lemmas.Str.{IsUtf8-nil, IsUtf8-append, IsUtf8-encode, IsUtf8-take, IsUtf8-drop, IsUtf8-past_char, IsCharBoundary-before_ascii, encode_ascii, inside_one}
use mathlib.Core.Logic.{inl, inr}
use lib.Utf8.{scalars, encode, encodes, low_scalar}
use Rattle.http_header.specs.Token.{lowercase}
use Rattle.tow_language.specs.Tokens.{next_is}
use Rattle.tow_language.specs.Symbols.{unescaped}

-- an ASCII byte before a text
pub utf8_cons : (b : ℕ) (bs : List ℕ) → b < 128 → IsUtf8 bs → IsUtf8 (b ∷ bs)
utf8_cons b bs small u = IsUtf8-append (b ∷ []) bs (subst IsUtf8 (encode_ascii b small) (IsUtf8-encode b (low_scalar b (omega arith)))) u

-- ASCII bytes
pub utf8_ascii : (bs : List ℕ) → list_all is_ascii bs ≡ true → IsUtf8 bs
utf8_ascii [] e = IsUtf8-nil
utf8_ascii (b ∷ bs) e = let h = and_parts (is_ascii b) (list_all is_ascii bs) e in utf8_cons b bs (ltb-true b 128 h.0) (utf8_ascii bs h.1)

-- what stands before an ASCII byte
pub utf8_before : (a : List ℕ) (b : ℕ) (c : List ℕ) → b < 128 → IsUtf8 (a ++ b ∷ c) → IsUtf8 a
utf8_before a b c small u =
    let at : get_or (a ++ b ∷ c) (length a) 0 ≡ b = get_or-append_seam a b c 0 in
    subst IsUtf8 (take-append_seam a (b ∷ c)) (IsUtf8-take (a ++ b ∷ c) (length a) u (IsCharBoundary-before_ascii (a ++ b ∷ c) (length a) (omega (arith, length-append a (b ∷ c))) (omega (arith, at, small))))

-- an ASCII byte and what follows it
pub utf8_from : (a : List ℕ) (b : ℕ) (c : List ℕ) → b < 128 → IsUtf8 (a ++ b ∷ c) → IsUtf8 (b ∷ c)
utf8_from a b c small u =
    let at : get_or (a ++ b ∷ c) (length a) 0 ≡ b = get_or-append_seam a b c 0 in
    subst IsUtf8 (drop-append_seam a (b ∷ c)) (IsUtf8-drop (a ++ b ∷ c) (length a) u (IsCharBoundary-before_ascii (a ++ b ∷ c) (length a) (omega (arith, length-append a (b ∷ c))) (omega (arith, at, small))))

-- what follows an ASCII byte
pub utf8_uncons : (b : ℕ) (c : List ℕ) → b < 128 → IsUtf8 (b ∷ c) → IsUtf8 c
utf8_uncons b c small u = IsUtf8-past_char (b ∷ c) c b u (ap (λ k. k ++ c) (sym (encode_ascii b small)))

pub utf8_behind : (a : List ℕ) (b : ℕ) (c : List ℕ) → b < 128 → IsUtf8 (a ++ b ∷ c) → IsUtf8 c
utf8_behind a b c small u = utf8_uncons b c small (utf8_from a b c small u)

-- what follows ASCII bytes
pub utf8_behind_ascii : (a c : List ℕ) → list_all is_ascii a ≡ true → IsUtf8 (a ++ c) → IsUtf8 c
utf8_behind_ascii [] c e u = u
utf8_behind_ascii (b ∷ a) c e u =
    let h = and_parts (is_ascii b) (list_all is_ascii a) e in utf8_behind_ascii a c h.1 (utf8_uncons b (a ++ c) (ltb-true b 128 h.0) u)

-- no byte is of ASCII
abbrev AreHigh : List ℕ → Type 0
AreHigh bs = (k : ℕ) → k < length bs → 128 ≤ get_or bs k 0

high_tail : (b : ℕ) (bs : List ℕ) → AreHigh (b ∷ bs) → (128 ≤ b) × AreHigh bs
high_tail b bs high = (high 0 (omega arith), λ k within. high (suc k) (omega (arith, within)))

encode_high : (c : ℕ) → 128 ≤ c → AreHigh (encode c)
encode_high c big k within = elim (cases_lt (get_or (encode c) k 0) 128) [
  | inl small ↦ absurd (let e = inside_one c [] (encode c) k (sym (append-nil (encode c))) within small in omega (arith, e, small, big))
  | inr high ↦ high
]

-- a fact of texts goes from the end to the front, over ASCII bytes and over the bytes of other characters
by_characters : (P : List ℕ → Type 0) → P [] → ((b : ℕ) (bs : List ℕ) → b < 128 → P bs → P (b ∷ bs)) → ((xs bs : List ℕ) → AreHigh xs → IsUtf8 xs → P bs → P (xs ++ bs)) →
    (bs : List ℕ) → IsUtf8 bs → P bs
by_characters P none low high bs (cs, (are, e)) = subst P e (walk cs are)
  where
    walk : (cs : List ℕ) → scalars cs ≡ true → P (encodes cs)
    walk [] are = none
    walk (c ∷ cs) are =
        let h = and_parts _ (scalars cs) are in
        elim (cases_lt c 128) [
          | inl small ↦ subst (λ k. P (k ++ encodes cs)) (sym (encode_ascii c small)) (low c (encodes cs) small (walk cs h.1))
          | inr big ↦ high (encode c) (encodes cs) (encode_high c big) (IsUtf8-encode c h.0) (walk cs h.1)
        ]

-- each ASCII byte by a text, and the other bytes as they are
pub utf8_flat_map : (f : ℕ → List ℕ) → ((b : ℕ) → b < 128 → IsUtf8 (f b)) → ((b : ℕ) → 128 ≤ b → f b ≡ b ∷ []) → (bs : List ℕ) → IsUtf8 bs → IsUtf8 (flat_map f bs)
utf8_flat_map f low high =
    by_characters (λ bs. IsUtf8 (flat_map f bs)) IsUtf8-nil (λ b bs small u. IsUtf8-append (f b) (flat_map f bs) (low b small) u)
    (λ xs bs are v u. subst IsUtf8 (sym (flat_map-append f xs bs ∙ ap (λ k. k ++ flat_map f bs) (kept xs are))) (IsUtf8-append xs (flat_map f bs) v u))
  where
    kept : (xs : List ℕ) → AreHigh xs → flat_map f xs ≡ xs
    kept [] are = refl
    kept (x ∷ xs) are = let h = high_tail x xs are in ap₂ (λ (s t : List ℕ). s ++ t) (high x h.0) (kept xs h.1)

-- in lower case
pub utf8_lowercase : (bs : List ℕ) → IsUtf8 bs → IsUtf8 (lowercase bs)
utf8_lowercase bs u = subst IsUtf8 (flat_map_single to_ascii_lowercase bs) (utf8_flat_map (λ b. to_ascii_lowercase b ∷ []) low high bs u)
  where
    low : (b : ℕ) → b < 128 → IsUtf8 (to_ascii_lowercase b ∷ [])
    low b small = utf8_cons (to_ascii_lowercase b) [] (search rules) IsUtf8-nil

    high : (b : ℕ) → 128 ≤ b → to_ascii_lowercase b ∷ [] ≡ b ∷ []
    high b big = ap (λ k. k ∷ []) (search rules)

-- without the backslash before each quote
pub utf8_unescaped : (q : ℕ) (bs : List ℕ) → IsUtf8 bs → IsUtf8 (unescaped q bs)
utf8_unescaped q = by_characters (λ bs. IsUtf8 (unescaped q bs)) IsUtf8-nil low (λ xs bs are v u. subst IsUtf8 (sym (kept xs bs are)) (IsUtf8-append xs (unescaped q bs) v u))
  where
    by_test : (b : ℕ) (bs : List ℕ) → b < 128 → IsUtf8 bs → (t : Bool) → IsUtf8 (if t then bs else b ∷ bs)
    by_test b bs small u true = u
    by_test b bs small u false = utf8_cons b bs small u

    low : (b : ℕ) (bs : List ℕ) → b < 128 → IsUtf8 (unescaped q bs) → IsUtf8 (unescaped q (b ∷ bs))
    low b bs small u = by_test b (unescaped q bs) small u (b == 92 && next_is q bs)

    kept : (xs bs : List ℕ) → AreHigh xs → unescaped q (xs ++ bs) ≡ xs ++ unescaped q bs
    kept [] bs are = refl
    kept (x ∷ xs) bs are =
        let h = high_tail x xs are in
        let other : (x == 92) ≡ false = search rules in
        ap (λ t. if t && next_is q (xs ++ bs) then unescaped q (xs ++ bs) else x ∷ unescaped q (xs ++ bs)) other ∙ ap (λ k. x ∷ k) (kept xs bs h.1)
