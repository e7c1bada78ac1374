-- The values that a loop over fields has found so far.
use Rattle.std.specs.Prelude.{◌≡◌, ℕ, suc, ◌+◌, ◌<◌, Bool, true, false, List, [], ◌∷◌, ◌++◌, map, filter, find, flat_map, length, get_or, drop, Option, Some, None, option_map, if◌then◌else◌, cond, codes, Result, Ok, Err, OnOk}
use Rattle.std.specs.Result.{is_ok}
use Rattle.std.specs.Option.{option_or}
use Rattle.std.specs.Str.{byte, bytes_eq}
use Rattle.std.proofs.Common.{refl, sym, ◌∙◌, ap, ap₂, arith}
use Rattle.std.proofs.lemmas.List.Folds.{find-append}
use Rattle.std.proofs.Math.Seq.{drop-cons}
use Rattle.tow_model.specs.declared.request.Field.{Field}
use Rattle.percent_encoding.specs.Percent.{percent_decode}
use Rattle.tow_model.specs.Texts.{Text, cut_at, trimmed}
use Rattle.tow_model.specs.Fields.{is_named, values_of, bound_to}
use Rattle.tow_semantics.specs.Values.{decoded, joined, name_and_value, or_empty, query_parameters}
use Rattle.tow_attr.specs.Finding.{cookie_pieces, cookies_of, is_cookie, is_parameter}

-- JOINED VALUES

abbrev pub is_none : List Text → Bool
is_none [] = true
is_none (v ∷ vs) = false

-- the values so far stand behind the text that was there
pub record AreJoined (before out : Text) (is_first : Bool) (values : List Text) : Type 0 where
  pub first : is_first ≡ is_none values
  pub so_far : out ≡ before ++ joined values

-- THE FIRST OF A NAME

-- what is found from a field on is found in its pieces, or behind it
pub find_on : {X : Type 0} (test : X → Bool) (g : Field → List X) (fields : List Field) (i : ℕ) (f : Field) → i < length fields → f ≡ get_or fields i f →
    find test (flat_map g (drop i fields)) ≡ option_or (find test (g f)) (find test (flat_map g (drop (i + 1) fields)))
find_on test g fields i f lt is =
    let e : suc i ≡ i + 1 = omega arith in
    ap (λ k. find test (flat_map g k)) (drop-cons fields i f lt ∙ ap₂ (λ h n. h ∷ drop n fields) (sym is) e)
    ∙ find-append test (g f) (flat_map g (drop (i + 1) fields))

find_mapped : {X Y : Type 0} (f : X → Y) (p : Y → Bool) (xs : List X) → find p (map f xs) ≡ option_map f (find (λ x. p (f x)) xs)
find_mapped f p [] = refl
find_mapped f p (x ∷ xs) = by_test (p (f x)) (find_mapped f p xs)
  where
    by_test : (t : Bool) → find p (map f xs) ≡ option_map f (find (λ y. p (f y)) xs) →
        cond t (Some (f x)) (find p (map f xs)) ≡ option_map f (cond t (Some x) (find (λ y. p (f y)) xs))
    by_test true e = refl
    by_test false e = e

-- what a name is bound to among pieces that were made into fields
pub bound_among : (make : Text → Field) (name : Text) (pieces : List Text) (found : Option Text) → found ≡ find (λ piece. bytes_eq (make piece).name name) pieces →
    or_empty (bound_to name (map make pieces)) ≡ or_empty (option_map (λ piece. (make piece).value) found)
bound_among make name pieces found e =
    ap (λ o. or_empty (option_map (λ f. f.value) o)) (find_mapped make (λ f. bytes_eq f.name name) pieces ∙ ap (option_map make) (sym e))
    ∙ twice found
  where
    twice : (o : Option Text) → or_empty (option_map (λ f. f.value) (option_map make o)) ≡ or_empty (option_map (λ piece. (make piece).value) o)
    twice None = refl
    twice (Some piece) = refl

-- the cookies of all Cookie lines, line by line
pub cookies_by_line : (fields : List Field) → flat_map (cut_at (byte ";")) (values_of (codes "cookie") fields) ≡ flat_map cookie_pieces fields
cookies_by_line [] = refl
cookies_by_line (f ∷ fields) = by_test (is_named (codes "cookie") f) (cookies_by_line fields)
  where
    by_test : (t : Bool) → flat_map (cut_at (byte ";")) (values_of (codes "cookie") fields) ≡ flat_map cookie_pieces fields →
        flat_map (cut_at (byte ";")) (map (λ g. g.value) (cond t (f ∷ filter (is_named (codes "cookie")) fields) (filter (is_named (codes "cookie")) fields)))
        ≡ (if t then cut_at (byte ";") f.value else []) ++ flat_map cookie_pieces fields
    by_test true e = ap (λ k. cut_at (byte ";") f.value ++ k) e
    by_test false e = e

pub cookie_bound : (name : Text) (fields : List Field) (found : Option Text) → found ≡ find (is_cookie name) (flat_map cookie_pieces fields) →
    or_empty (bound_to name (cookies_of fields)) ≡ or_empty (option_map (λ piece. (name_and_value (trimmed piece)).value) found)
cookie_bound name fields found e =
    bound_among (λ piece. name_and_value (trimmed piece)) name (flat_map (cut_at (byte ";")) (values_of (codes "cookie") fields)) found
    (e ∙ ap (find (is_cookie name)) (sym (cookies_by_line fields)))

pub parameter_bound : (name query : Text) (found : Option Text) → found ≡ find (is_parameter name) (cut_at (byte "&") query) →
    or_empty (bound_to name (query_parameters (Some query))) ≡ or_empty (option_map (λ piece. percent_decode (name_and_value piece).value) found)
parameter_bound name query found e = bound_among (λ piece. decoded (name_and_value piece)) name (cut_at (byte "&") query) found e

-- what a call of `extend_from_slice` wrote, in other words
pub on_written : {T E : Type 0} (r : Result T E) (new old written value : Text) → new ≡ (if is_ok r then old ++ written else old) → written ≡ value → OnOk r (new ≡ old ++ value)
on_written (Ok x) new old written value e same = e ∙ ap (λ k. old ++ k) same
on_written (Err x) new old written value e same = tt
