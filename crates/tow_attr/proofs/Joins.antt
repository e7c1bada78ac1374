-- Pieces before others, and bytes that stand for themselves before pieces.
use Rattle.std.specs.Prelude.{◌≡◌, ℕ, List, [], ◌∷◌, ◌++◌, Result, Ok, Err, Some}
use Rattle.std.proofs.Common.{refl, sym, ◌∙◌, ap, append_assoc}
use Rattle.std.proofs.lemmas.List.{append-nil}
use Rattle.tow_model.specs.declared.attribute.Attribute.{Attribute}
use Rattle.tow_model.specs.declared.attribute.Piece.{Piece}
use Rattle.tow_model.specs.declared.attribute.Piece.TheVariants.{Literal, Value}
use Rattle.tow_language.specs.Templates.{with_first}
use Rattle.tow_attr.specs.Reading.{literal_of, with_literal, ahead, plain_ahead}

pub with_literal_twice : (xs ys : List ℕ) (ps : List Piece) → with_literal xs (with_literal ys ps) ≡ with_literal (xs ++ ys) ps
with_literal_twice [] ys ps = refl
with_literal_twice (x ∷ xs) [] ps = ap (λ k. with_literal (x ∷ k) ps) (sym (append-nil xs))
with_literal_twice (x ∷ xs) (y ∷ ys) [] = refl
with_literal_twice (x ∷ xs) (y ∷ ys) (Literal more ∷ ps) = ap (λ k. Literal (x ∷ k) ∷ ps) (sym (append_assoc xs (y ∷ ys) more))
with_literal_twice (x ∷ xs) (y ∷ ys) (Value a ∷ ps) = refl

with_literal_value : (xs : List ℕ) (a : Attribute) (ps : List Piece) → with_literal xs (Value a ∷ ps) ≡ literal_of xs ++ Value a ∷ ps
with_literal_value [] a ps = refl
with_literal_value (x ∷ xs) a ps = refl

pub with_literal_none : (xs : List ℕ) → with_literal xs [] ≡ literal_of xs
with_literal_none [] = refl
with_literal_none (x ∷ xs) = refl

pub plain_none : (rest : Result (List Piece) ℕ) → plain_ahead [] rest ≡ rest
plain_none (Ok ps) = refl
plain_none (Err e) = refl

pub plain_twice : (xs ys : List ℕ) (rest : Result (List Piece) ℕ) → plain_ahead xs (plain_ahead ys rest) ≡ plain_ahead (xs ++ ys) rest
plain_twice xs ys (Ok ps) = ap (λ k. Ok k) (with_literal_twice xs ys ps)
plain_twice xs ys (Err e) = refl

pub ahead_none : (rest : Result (List Piece) ℕ) → rest ≡ ahead [] [] rest
ahead_none (Ok ps) = refl
ahead_none (Err e) = refl

pub ahead_plain : (pieces : List Piece) (xs ys : List ℕ) (rest : Result (List Piece) ℕ) → ahead pieces xs (plain_ahead ys rest) ≡ ahead pieces (xs ++ ys) rest
ahead_plain pieces xs ys (Ok ps) = ap (λ k. Ok (pieces ++ k)) (with_literal_twice xs ys ps)
ahead_plain pieces xs ys (Err e) = refl

pub ahead_value : (pieces : List Piece) (xs : List ℕ) (a : Attribute) (rest : Result (List Piece) ℕ) (at : ℕ) →
    ahead pieces xs (with_first (Some (Value a)) rest at) ≡ ahead (pieces ++ (literal_of xs ++ Value a ∷ [])) [] rest
ahead_value pieces xs a (Ok ps) at =
    ap (λ k. Ok (pieces ++ k)) (with_literal_value xs a ps)
    ∙ ap (λ k. Ok k) (ap (λ k. pieces ++ k) (sym (append_assoc (literal_of xs) (Value a ∷ []) ps)) ∙ sym (append_assoc pieces (literal_of xs ++ Value a ∷ []) ps))
ahead_value pieces xs a (Err e) at = refl
