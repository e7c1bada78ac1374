-- A part that stands somewhere in a text.
use Rattle.std.proofs.Common.{◌≡◌, ℕ, zero, suc, ◌+◌, ◌≤◌, Bool, true, false, ◌||◌, [], ◌∷◌, ◌++◌, length, drop, Option, Some, None, is_some, refl, sym, ap, ◌∙◌, arith}
use Rattle.std.proofs.lemmas.Bool.Decides.{Decides-eqb}
use Rattle.std.proofs.lemmas.List.{length-append, length-drop}
use Rattle.std.proofs.lemmas.List.Prefix.{at_reads, at_from_reads}
use Rattle.std.proofs.lemmas.Slice.Eq.{starts_is}
use Rattle.memchr.specs.Find.{OccursAt, FindsNeedle}
use Rattle.tow_model.specs.Texts.{Text, begins_with, contains, is_empty}

-- the part stands in the text from place `at` on
record Stands (part text : Text) : Type 0 where
  at : ℕ
  within : at ≤ length text
  rest : Text
  is : drop at text ≡ part ++ rest

or_right : (a b : Bool) → b ≡ true → (a || b) ≡ true
or_right true b is = refl
or_right false b is = is

nothing_in : (part rest : Text) → [] ≡ part ++ rest → is_empty part ≡ true
nothing_in [] rest e = refl
nothing_in (b ∷ part) rest e = cc

-- a part that stands somewhere is contained
contained : (part text : Text) (at : ℕ) (rest : Text) → drop at text ≡ part ++ rest → contains part text ≡ true
contained part [] zero rest e = nothing_in part rest e
contained part [] (suc at) rest e = nothing_in part rest e
contained part (b ∷ text) zero rest e =
    let begins = (starts_is Decides-eqb (b ∷ text) part (begins_with part (b ∷ text)) refl).1 rest e in rw begins refl
contained part (b ∷ text) (suc at) rest e = or_right (begins_with part (b ∷ text)) (contains part text) (contained part text at rest e)

nothing : (part : Text) → is_empty part ≡ true → [] ≡ part ++ []
nothing [] is = refl
nothing (b ∷ part) is = absurd cc

here_or_later : (part : Text) (b : ℕ) (text : Text) (begins : Bool) → begins ≡ begins_with part (b ∷ text)
    → (contains part text ≡ true → Stands part text) → (begins || contains part text) ≡ true → Stands part (b ∷ text)
here_or_later part b text true e later is =
    record { at = 0; within = omega arith; rest = drop (length part) (b ∷ text); is = (starts_is Decides-eqb (b ∷ text) part true e).0 refl }
here_or_later part b text false e later is =
    let s = later is in let w = s.within in record { at = suc s.at; within = omega (arith, w); rest = s.rest; is = s.is }

-- and one that is contained stands somewhere
stands : (part text : Text) → contains part text ≡ true → Stands part text
stands part [] is = record { at = 0; within = omega arith; rest = []; is = nothing part is }
stands part (b ∷ text) is = here_or_later part b text (begins_with part (b ∷ text)) refl (stands part text) is

occurs : (part text : Text) (s : Stands part text) → OccursAt text part s.at
occurs part text s =
    let lengths : length (drop s.at text) ≡ length part + length s.rest = ap length s.is ∙ length-append part s.rest in
    let w = s.within in
    record { fits = omega (arith, lengths, length-drop s.at text, w); reads = λ j below. at_reads 0 text part s.at s.rest s.is j below }

is_false : (b : Bool) → (b ≡ true → ⊥) → false ≡ b
is_false true excluded = absurd (excluded refl)
is_false false excluded = refl

-- a search finds a part just where it is contained
pub found_is_contained : (part text : Text) (found : Option ℕ) → FindsNeedle text part 0 found → is_some found ≡ contains part text
found_is_contained part text None nowhere =
    is_false (contains part text) (λ is. let s = stands part text is in let w = s.within in nowhere s.at (omega arith) (omega (arith, w)) (occurs part text s))
found_is_contained part text (Some at) found =
    sym (contained part text at (drop (at + length part) text) (at_from_reads 0 text part at found.1.fits found.1.reads))
