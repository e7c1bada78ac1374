-- A read moves bytes from what is left to what was read.
use Rattle.std.proofs.Common.{◌≡◌, ℕ, ◌+◌, ◌≤◌, List, [], ◌++◌, length, take, drop, Option, None, Some, refl, sym, ◌∙◌, ap, append_assoc, take-append-drop}
use Rattle.std.proofs.lemmas.List.{append-nil, length-take-le, drop-drop, take_at}
use Rattle.std.proofs.Math.Seq.{take-add}
use Rattle.tow_link.specs.Data.{Told}
use Rattle.tow_link.specs.Calls.{Moves, ReadMoves}
use Rattle.tow_link.specs.declared.source.Read.TheVariants.{Got}

-- one read of n bytes at a place of a list
pub moved : (told : Option Told) (bytes buffer piece rest : List ℕ) (at n : ℕ) → told ≡ Some (record { read = take at bytes; left = drop at bytes }) → n ≤ length (drop at bytes) → piece ≡ take n (drop at bytes) → buffer ≡ piece ++ rest
    → ReadMoves told (Some (record { read = take (at + n) bytes; left = drop (at + n) bytes })) (Got n) buffer
moved told bytes buffer piece rest at n is fits is_piece is_buffer =
    let front : take n buffer ≡ take n (drop at bytes) = ap (λ (l : List ℕ). take n l) is_buffer ∙ take_at piece rest n (ap length is_piece ∙ length-take-le n (drop at bytes) fits) ∙ is_piece in
    let read : take (at + n) bytes ≡ take at bytes ++ take n buffer = take-add at n bytes ∙ ap (λ (l : List ℕ). take at bytes ++ l) (sym front) in
    let left : drop n (drop at bytes) ≡ drop (at + n) bytes = drop-drop n at bytes in
    rw is (sym (take-append-drop n (drop at bytes)) ∙ (λ i. sym front i ++ left i), read)

-- before the first call
pub moves_none : (told : Option Told) → Moves told told []
moves_none None = tt
moves_none (Some told) = (refl, sym (append-nil told.read))

-- one call after others
pub moves_more : (old mid new : Option Told) (xs ys : List ℕ) → Moves old mid xs → Moves mid new ys → Moves old new (xs ++ ys)
moves_more None None None xs ys first then = tt
moves_more None None (Some new) xs ys first then = absurd then
moves_more None (Some mid) new xs ys first then = absurd first
moves_more (Some old) None new xs ys first then = absurd first
moves_more (Some old) (Some mid) None xs ys first then = absurd then
moves_more (Some old) (Some mid) (Some new) xs ys first then = (first.0 ∙ ap (λ (l : List ℕ). xs ++ l) then.0 ∙ sym (append_assoc xs ys new.left), then.1 ∙ ap (λ (l : List ℕ). l ++ ys) first.1 ∙ append_assoc old.read xs ys)
