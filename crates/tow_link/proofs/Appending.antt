-- Bytes that are appended after others.
use Rattle.std.proofs.Common.{◌≡◌, ℕ, ◌+◌, List, [], ◌++◌, take, drop, Option, None, Some, refl, sym, ◌∙◌, ap, append_assoc}
use Rattle.std.proofs.lemmas.List.{append-nil}
use Rattle.std.proofs.Math.Seq.{take-add}
use Rattle.std.specs.Io.KnownBytes.{append_known}

-- nothing more
pub append_known-nil : (known : Option (List ℕ)) → append_known known [] ≡ known
append_known-nil None = refl
append_known-nil (Some known) = ap (λ (l : List ℕ). Some l) (append-nil known)

-- one write after another
pub append_known-append : (known : Option (List ℕ)) (xs ys : List ℕ) → append_known (append_known known xs) ys ≡ append_known known (xs ++ ys)
append_known-append None xs ys = refl
append_known-append (Some known) xs ys = ap (λ (l : List ℕ). Some l) (append_assoc known xs ys)

-- the next n bytes of a list after the front of it
pub append_more : (old mid new : Option (List ℕ)) (bytes : List ℕ) (at n : ℕ) → mid ≡ append_known old (take at bytes) → new ≡ append_known mid (take n (drop at bytes)) → new ≡ append_known old (take (at + n) bytes)
append_more old mid new bytes at n first then =
    then ∙ ap (λ (k : Option (List ℕ)). append_known k (take n (drop at bytes))) first ∙ append_known-append old (take at bytes) (take n (drop at bytes)) ∙ ap (append_known old) (sym (take-add at n bytes))
