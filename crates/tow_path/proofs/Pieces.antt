-- The segments that a text is split into, one after the other.
use Rattle.std.proofs.Common.{◌≡◌, ℕ, ◌<◌, suc, Bool, false, ◌==◌, List, ◌∷◌, ◌++◌, map, length, get_or, take, drop, Option, Some, None, sym, ap, ap₂, ◌∙◌, subst}
use Rattle.std.proofs.Math.Seq.{drop-cons}
use Rattle.std.proofs.lemmas.Iterator.Consumers.{YieldsList-so_far, YieldsList-turn, YieldsList-end}
use Rattle.std.proofs.lemmas.Iterator.Splits.{YieldsList-from_slice_split}
use Rattle.std.proofs.lemmas.List.{take-append-drop}
use Rattle.std.specs.Fn.{CalledAt}
use Rattle.std.specs.Iterator.{Yields}
use Rattle.std.specs.List.{slice_split}
use Rattle.std.specs.Slice.Iter as slice
use denote.Param.Members.{Mut}
use denote.Ref.{Bor}
use Rattle.tow_model.specs.Texts.{Text, cut_at}
use Rattle.tow_model.specs.Paths.{slash}

-- the closure finds the slashes
abbrev pub FindsSlashes : {F : Type 0} (g : Mut F (Bor ℕ × Unit {0}) Bool) → F → Type 0
FindsSlashes {F} g f = (x : ℕ) (b : Bool) (q : F) → CalledAt g f x b q → (q ≡ f) × (b ≡ (x == slash))

next_piece : (all front : List Text) (n : ℕ) (s : Text) → front ≡ take n all → n < length all → s ≡ get_or all n s → all ≡ front ++ s ∷ drop (suc n) all
next_piece all front n s before within is =
    sym (take-append-drop n all) ∙ ap₂ (λ a b. a ++ b) (sym before) (drop-cons all n s within ∙ ap (λ k. k ∷ drop (suc n) all) (sym is))

-- the segment that comes is the next one
pub segment_comes : {F : Type 0} {g : Mut F (Bor ℕ × Unit {0}) Bool} {f : F} (text : Text) (s begun : _) → slice.split_rest s ≡ text → slice.split_done s ≡ false → slice.split_callee s ≡ f → begun ≡ s
    → (yielded : List (Bor Text)) (t : _) → Yields (slice.split_steps g) begun yielded t → (r : Option (Bor Text)) (u : _) (segment : Bor Text) → r ≡ Some segment → slice.split_steps g t r u
    → FindsSlashes g f → cut_at slash text ≡ map (λ x. x.now) yielded ++ segment.now ∷ drop (suc (length yielded)) (cut_at slash text)
segment_comes {g = g} text s begun rest done closure same yielded t so_far r u segment is step finds =
    let all = YieldsList-from_slice_split g (λ b. b == slash) text rest done closure finds in
    let came = subst (λ z. Yields (slice.split_steps g) z yielded t) same so_far in
    let turn = YieldsList-turn all yielded t came r u segment is step in
    next_piece (cut_at slash text) (map (λ x. x.now) yielded) (length yielded) segment.now (YieldsList-so_far all yielded t came) turn.0 turn.1

-- where no piece comes of a text that is cut where the test holds, all have come
pub all_came : (test : ℕ → Bool) {F : Type 0} {g : Mut F (Bor ℕ × Unit {0}) Bool} {f : F} (text : Text) (s begun : _) → slice.split_rest s ≡ text → slice.split_done s ≡ false → slice.split_callee s ≡ f → begun ≡ s
    → (yielded : List (Bor Text)) (t : _) → Yields (slice.split_steps g) begun yielded t → (r : Option (Bor Text)) (u : _) → r ≡ None → slice.split_steps g t r u
    → ((x : ℕ) (b : Bool) (q : F) → CalledAt g f x b q → (q ≡ f) × (b ≡ test x)) → map (λ x. x.now) yielded ≡ slice_split test text
all_came test {g = g} text s begun rest done closure same yielded t so_far r u is step finds =
    (YieldsList-end (YieldsList-from_slice_split g test text rest done closure finds) yielded t (subst (λ z. Yields (slice.split_steps g) z yielded t) same so_far) r u is step).0
