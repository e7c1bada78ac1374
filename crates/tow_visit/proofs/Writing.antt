-- What is written piece by piece is the whole.
use Rattle.std.proofs.Common.{◌≡◌, ℕ, ◌+◌, ◌<◌, length, get_or, take, append-nil, arith, suc, zero, List, [], ◌∷◌, ◌++◌, ap, ◌∙◌, sym, append_assoc, flat_map}
use Rattle.tow_model.specs.Texts.{Text}

grown : {X : Type 0} (f : X → Text) (xs : List X) (i : ℕ) (x : X) → i < length xs → x ≡ get_or xs i x → flat_map f (take (suc i) xs) ≡ flat_map f (take i xs) ++ f x
grown f [] i x within at = absurd (omega (arith, within))
grown f (y ∷ ys) zero x within at = append-nil (f y) ∙ ap f (sym at)
grown f (y ∷ ys) (suc i) x within at =
    ap (λ t. f y ++ t) (grown f ys i x (omega (arith, within)) at) ∙ sym (append_assoc (f y) (flat_map f (take i ys)) (f x))

-- one more item was written
pub one_more : {X : Type 0} (f : X → Text) (start out : Text) (xs : List X) (i : ℕ) (x : X) → i < length xs → x ≡ get_or xs i x →
    out ≡ start ++ flat_map f (take i xs) → out ++ f x ≡ start ++ flat_map f (take (i + 1) xs)
one_more f start out xs i x within at so_far =
    ap (λ t. t ++ f x) so_far
    ∙ append_assoc start (flat_map f (take i xs)) (f x)
    ∙ ap (λ t. start ++ t) (sym (grown f xs i x within at) ∙ ap (λ n. flat_map f (take n xs)) next)
  where
    next : suc i ≡ i + 1
    next = omega arith
