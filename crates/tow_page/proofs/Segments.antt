-- The segments of a path: whether they are filled is read from the left.
use Rattle.std.proofs.Common.{◌≡◌, ℕ, ◌+◌, ◌-◌, ◌<◌, ◌≤◌, get_or, Bool, true, false, not, ◌&&◌, ◌==◌, List, [], ◌∷◌, ◌++◌, length, take, drop, arith, suc, refl, sym, ap, ◌∙◌, codes, if◌then◌else◌, cond}
use Rattle.std.specs.Str.{bytes_eq}
use Rattle.std.proofs.Math.ListN.{drop_of_length-le}
use Rattle.std.proofs.Math.Seq.{drop-cons}
use Rattle.std.proofs.lemmas.Bool.Decides.{nat_tests}
use Rattle.std.specs.List.{list_all, onto_first}
use Rattle.tow_model.specs.Texts.{Text, is_empty, but_last, cut_at, ends_in}
use Rattle.tow_model.specs.Paths.{slash}
use Rattle.tow_page.specs.Segments.{all_filled, are_filled}

-- all but the first, all but the last, all but both
abbrev rest : List Text → Bool
rest [] = true
rest (s ∷ ss) = list_all (λ s. not (is_empty s)) ss

abbrev front : List Text → Bool
front [] = true
front (s ∷ []) = true
front (s ∷ t ∷ ss) = not (is_empty s) && front (t ∷ ss)

abbrev inner : List Text → Bool
inner [] = true
inner (s ∷ ss) = front ss

one_less : (n : ℕ) → suc n - 1 ≡ n
one_less n = omega arith

abbrev all_of : List Text → Bool
all_of segments = list_all (λ s. not (is_empty s)) segments

front_is : (segments : List Text) → front segments ≡ all_of (but_last segments)
front_is [] = refl
front_is (s ∷ []) = refl
front_is (s ∷ t ∷ ss) =
    ap (λ b. not (is_empty s) && b) (front_is (t ∷ ss) ∙ ap (λ n. all_of (take n (t ∷ ss))) (one_less (length ss)))
    ∙ ap (λ n. all_of (take n (s ∷ t ∷ ss))) (sym (one_less (suc (length ss))))

onto_all : (b : ℕ) (segments : List Text) → list_all (λ s. not (is_empty s)) (onto_first b segments) ≡ rest segments
onto_all b [] = refl
onto_all b (s ∷ ss) = refl

onto_rest : (b : ℕ) (segments : List Text) → rest (onto_first b segments) ≡ rest segments
onto_rest b [] = refl
onto_rest b (s ∷ ss) = refl

onto_front : (b : ℕ) (segments : List Text) → front (onto_first b segments) ≡ inner segments
onto_front b [] = refl
onto_front b (s ∷ []) = refl
onto_front b (s ∷ t ∷ ss) = refl

onto_inner : (b : ℕ) (segments : List Text) → inner (onto_first b segments) ≡ inner segments
onto_inner b [] = refl
onto_inner b (s ∷ ss) = refl

all_both : (text : Text) → (all_filled true text ≡ all_of (cut_at slash text)) × (all_filled false text ≡ rest (cut_at slash text))
all_both [] = (refl, refl)
all_both (b ∷ bs) = by (b == slash) (all_both bs)
  where
    by : (t : Bool) → (all_filled true bs ≡ all_of (cut_at slash bs)) × (all_filled false bs ≡ rest (cut_at slash bs)) →
        ((if t then not true && all_filled true bs else all_filled false bs) ≡ all_of (cond t ([] ∷ cut_at slash bs) (onto_first b (cut_at slash bs))))
        × ((if t then not false && all_filled true bs else all_filled false bs) ≡ rest (cond t ([] ∷ cut_at slash bs) (onto_first b (cut_at slash bs))))
    by true h = (refl, h.0)
    by false h = (h.1 ∙ sym (onto_all b (cut_at slash bs)), h.1 ∙ sym (onto_rest b (cut_at slash bs)))

-- there is a segment, so that an empty one before it is not the last
after_empty : (text : Text) → front ([] ∷ cut_at slash text) ≡ false
after_empty [] = refl
after_empty (b ∷ bs) = by (b == slash) (cut_at slash bs)
  where
    by : (t : Bool) (ss : List Text) → front ([] ∷ cond t ([] ∷ ss) (onto_first b ss)) ≡ false
    by true ss = refl
    by false [] = refl
    by false (s ∷ ss) = refl

front_both : (text : Text) → (are_filled true text ≡ front (cut_at slash text)) × (are_filled false text ≡ inner (cut_at slash text))
front_both [] = (refl, refl)
front_both (b ∷ bs) = by (b == slash) (front_both bs)
  where
    by : (t : Bool) → (are_filled true bs ≡ front (cut_at slash bs)) × (are_filled false bs ≡ inner (cut_at slash bs)) →
        ((if t then not true && are_filled true bs else are_filled false bs) ≡ front (cond t ([] ∷ cut_at slash bs) (onto_first b (cut_at slash bs))))
        × ((if t then not false && are_filled true bs else are_filled false bs) ≡ inner (cond t ([] ∷ cut_at slash bs) (onto_first b (cut_at slash bs))))
    by true h = (sym (after_empty bs), h.0)
    by false h = (h.1 ∙ sym (onto_front b (cut_at slash bs)), h.1 ∙ sym (onto_inner b (cut_at slash bs)))

pub filled_is : (text : Text) → are_filled true text ≡ list_all (λ s. not (is_empty s)) (but_last (cut_at slash text))
filled_is text = (front_both text).0 ∙ front_is (cut_at slash text)

pub all_is : (text : Text) → all_filled true text ≡ list_all (λ s. not (is_empty s)) (cut_at slash text)
all_is text = (all_both text).0

-- before a `/` at the end all segments are filled
pub before_slash : (empty : Bool) (text : Text) → are_filled empty (text ++ slash ∷ []) ≡ all_filled empty text
before_slash true [] = refl
before_slash false [] = refl
before_slash empty (b ∷ bs) = by (b == slash) (before_slash true bs) (before_slash false bs)
  where
    by : (t : Bool) → are_filled true (bs ++ slash ∷ []) ≡ all_filled true bs → are_filled false (bs ++ slash ∷ []) ≡ all_filled false bs →
        (if t then not empty && are_filled true (bs ++ slash ∷ []) else are_filled false (bs ++ slash ∷ []))
        ≡ (if t then not empty && all_filled true bs else all_filled false bs)
    by true h k = ap (λ b. not empty && b) h
    by false h k = k

-- a name after it is one more segment
pub with_name : (empty : Bool) (text name : Text) → all_filled empty (text ++ slash ∷ name) ≡ (all_filled empty text && all_filled true name)
with_name empty [] name = refl
with_name empty (b ∷ bs) name = by (b == slash) empty (with_name true bs name) (with_name false bs name)
  where
    by : (t empty : Bool) → all_filled true (bs ++ slash ∷ name) ≡ (all_filled true bs && all_filled true name) →
        all_filled false (bs ++ slash ∷ name) ≡ (all_filled false bs && all_filled true name) →
        (if t then not empty && all_filled true (bs ++ slash ∷ name) else all_filled false (bs ++ slash ∷ name))
        ≡ ((if t then not empty && all_filled true bs else all_filled false bs) && all_filled true name)
    by true true h k = refl
    by true false h k = h
    by false empty h k = k

-- only the last byte says whether a `/` is at the end
pub ends_later : (b c : ℕ) (bs : Text) → ends_in (codes "/") (b ∷ c ∷ bs) ≡ ends_in (codes "/") (c ∷ bs)
ends_later b c bs =
    ap (λ n. bytes_eq (codes "/") (drop n (b ∷ c ∷ bs))) (one_less (suc (length bs)))
    ∙ ap (λ n. bytes_eq (codes "/") (drop n (c ∷ bs))) (sym (one_less (length bs)))

-- and where no `/` is at the end, the last segment is filled too
pub without_end : (empty : Bool) (b : ℕ) (bs : Text) → ends_in (codes "/") (b ∷ bs) ≡ false →
    are_filled empty (b ∷ bs) ≡ true → all_filled empty (b ∷ bs) ≡ true
without_end empty b [] other is = by (b == slash) refl is
  where
    by : (t : Bool) → (b == slash) ≡ t → (if t then not empty && true else true) ≡ true → (if t then not empty && not true else not false) ≡ true
    by true e is =
        let at : b ≡ slash = grind (arith, nat_tests, e) in
        let ends : ends_in (codes "/") (slash ∷ []) ≡ false = ap (λ c. ends_in (codes "/") (c ∷ [])) (sym at) ∙ other in
        absurd (cc)
    by false e is = refl
without_end empty b (c ∷ bs) other is =
    by (b == slash) empty is (without_end true c bs (sym (ends_later b c bs) ∙ other)) (without_end false c bs (sym (ends_later b c bs) ∙ other))
  where
    by : (t empty : Bool) → (if t then not empty && are_filled true (c ∷ bs) else are_filled false (c ∷ bs)) ≡ true →
        (are_filled true (c ∷ bs) ≡ true → all_filled true (c ∷ bs) ≡ true) → (are_filled false (c ∷ bs) ≡ true → all_filled false (c ∷ bs) ≡ true) →
        (if t then not empty && all_filled true (c ∷ bs) else all_filled false (c ∷ bs)) ≡ true
    by true true is h k = is
    by true false is h k = h is
    by false empty is h k = k is

pub stops_at : (text : Text) (i : ℕ) → i < length text → get_or text i 0 ≡ slash → are_filled true (drop i text) ≡ false
stops_at text i within at = ap (are_filled true) (drop-cons text i 0 within ∙ ap (λ b. b ∷ drop (suc i) text) at)

pub ends_at : (empty : Bool) (text : Text) (i : ℕ) → length text ≤ i → are_filled empty (drop i text) ≡ true
ends_at empty text i past = ap (are_filled empty) (drop_of_length-le text past)
