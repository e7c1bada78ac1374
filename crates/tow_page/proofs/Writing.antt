-- What is written piece by piece is the whole.
use Rattle.std.proofs.Common.{◌≡◌, ℕ, ◌+◌, ◌<◌, length, get_or, take, append-nil, arith, suc, zero, List, [], ◌∷◌, ◌++◌, refl, ap, ◌∙◌, sym, append_assoc, flat_map, map}
use Rattle.std.proofs.lemmas.Grind.{flat_map-append}
use Rattle.tow_model.specs.Texts.{Text}
use Rattle.tow_semantics.specs.Pages.{html, html_byte}

pub flat_map_map : {A B : Type 0} (f : B → Text) (g : A → B) (xs : List A) → flat_map (λ x. f (g x)) xs ≡ flat_map f (map g xs)
flat_map_map f g [] = refl
flat_map_map f g (x ∷ xs) = ap (λ t. f (g x) ++ t) (flat_map_map f g xs)

-- a name's line: what is before its address, the address, the ending, what is between, the name, the ending, what is after
pub line_is : (o a e n q text z l : Text) → html n ≡ n →
    ((((((o ++ a) ++ e) ++ n) ++ q) ++ html text) ++ n) ++ (z ++ l) ≡ o ++ ((((((a ++ e) ++ n) ++ q) ++ html (text ++ n)) ++ z) ++ l)
line_is o a e n q text z l plain =
    regrouped o a e n q (html text) n z l
    ∙ ap (λ t. o ++ ((((((a ++ e) ++ n) ++ q) ++ t) ++ z) ++ l)) (ap (λ t. html text ++ t) (sym plain) ∙ sym (flat_map-append html_byte text n))
  where
    regrouped : (o a e n q h m z l : Text) → ((((((o ++ a) ++ e) ++ n) ++ q) ++ h) ++ m) ++ (z ++ l) ≡ o ++ ((((((a ++ e) ++ n) ++ q) ++ (h ++ m)) ++ z) ++ l)
    regrouped o a e n q h m z l = simp append_assoc

pub page_is : (a b h c n d l e f : Text) →
    ((((a ++ b) ++ h) ++ ((c ++ n) ++ d)) ++ l) ++ (e ++ f) ≡ ((((a ++ (((b ++ h) ++ c) ++ n)) ++ d) ++ l) ++ e) ++ f
page_is a b h c n d l e f = simp append_assoc

grown : {X : Type 0} (f : X → Text) (xs : List X) (i : ℕ) (x : X) → i < length xs → x ≡ get_or xs i x → flat_map f (take (suc i) xs) ≡ flat_map f (take i xs) ++ f x
grown f [] i x within at = absurd (omega (arith, within))
grown f (y ∷ ys) zero x within at = append-nil (f y) ∙ ap f (sym at)
grown f (y ∷ ys) (suc i) x within at =
    ap (λ t. f y ++ t) (grown f ys i x (omega (arith, within)) at) ∙ sym (append_assoc (f y) (flat_map f (take i ys)) (f x))

-- one more item was written
pub one_more : {X : Type 0} (f : X → Text) (start out : Text) (xs : List X) (i : ℕ) (x : X) → i < length xs → x ≡ get_or xs i x →
    out ≡ start ++ flat_map f (take i xs) → out ++ f x ≡ start ++ flat_map f (take (i + 1) xs)
one_more f start out xs i x within at so_far =
    ap (λ t. t ++ f x) so_far
    ∙ append_assoc start (flat_map f (take i xs)) (f x)
    ∙ ap (λ t. start ++ t) (sym (grown f xs i x within at) ∙ ap (λ n. flat_map f (take n xs)) next)
  where
    next : suc i ≡ i + 1
    next = omega arith
