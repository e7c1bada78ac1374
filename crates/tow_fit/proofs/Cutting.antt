-- The pieces of a path between two `/`, one after the other.
use Rattle.std.proofs.Common.{◌≡◌, ℕ, ◌<◌, Bool, false, ◌==◌, List, map, length, get_or, Option, Some, None, subst}
use Rattle.std.specs.Slice.Iter as slice
use Rattle.std.specs.Fn.{CalledAt}
use Rattle.std.specs.Iterator.{Yields}
use Rattle.std.proofs.lemmas.Iterator.Consumers.{YieldsList-turn, YieldsList-end}
use Rattle.std.proofs.lemmas.Iterator.Splits.{YieldsList-from_slice_split}
use denote.Param.Members.{Mut}
use denote.Ref.{Bor}
use Rattle.tow_model.specs.Texts.{Text, cut_at}

-- the closure finds each `/`
abbrev pub FindsSlashes : {F : Type 0} (g : Mut F (Bor ℕ × Unit {0}) Bool) → F → Type 0
FindsSlashes {F} g f = (x : ℕ) (b : Bool) (q : F) → CalledAt g f x b q → (q ≡ f) × (b ≡ (x == 47))

-- the piece that comes is the next one
pub piece_comes : {F : Type 0} {g : Mut F (Bor ℕ × Unit {0}) Bool} {f : F} (text : Text) (s begun : _) → slice.split_rest s ≡ text → slice.split_done s ≡ false → slice.split_callee s ≡ f → begun ≡ s
    → (yielded : List (Bor Text)) (t : _) → Yields (slice.split_steps g) begun yielded t → (r : Option (Bor Text)) (u : _) (piece : Bor Text) → r ≡ Some piece → slice.split_steps g t r u
    → FindsSlashes g f → (length yielded < length (cut_at 47 text)) × (piece.now ≡ get_or (cut_at 47 text) (length yielded) piece.now)
piece_comes {g = g} text s begun rest done closure same yielded t so_far r u piece is step finds =
    YieldsList-turn (YieldsList-from_slice_split g (λ b. b == 47) text rest done closure finds) yielded t (subst (λ z. Yields (slice.split_steps g) z yielded t) same so_far) r u piece is step

-- where no piece comes, all have come
pub all_came : {F : Type 0} {g : Mut F (Bor ℕ × Unit {0}) Bool} {f : F} (text : Text) (s begun : _) → slice.split_rest s ≡ text → slice.split_done s ≡ false → slice.split_callee s ≡ f → begun ≡ s
    → (yielded : List (Bor Text)) (t : _) → Yields (slice.split_steps g) begun yielded t → (r : Option (Bor Text)) (u : _) → r ≡ None → slice.split_steps g t r u
    → FindsSlashes g f → map (λ x. x.now) yielded ≡ cut_at 47 text
all_came {g = g} text s begun rest done closure same yielded t so_far r u is step finds =
    (YieldsList-end (YieldsList-from_slice_split g (λ b. b == 47) text rest done closure finds) yielded t (subst (λ z. Yields (slice.split_steps g) z yielded t) same so_far) r u is step).0
