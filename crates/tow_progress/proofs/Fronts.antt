-- What an open connection has written is a front of its wire.
use Rattle.std.proofs.Common.{◌≡◌, ℕ, List, [], ◌++◌, length, take, drop, IsTrue, refl, sym, ap, ◌∙◌, subst, append_assoc, take_at, take-append-drop}
use Rattle.std.proofs.lemmas.List.{append-nil}
use Rattle.std.proofs.lemmas.List.Elements.{All-nil}
use Rattle.std.proofs.Math.Logic.{∥∥₁_elim, ∥∥₁_prop}
use Rattle.std.proofs.Props.{props}
use Rattle.tow_model.specs.declared.account.Verdict.{Verdict}
use Rattle.tow_model.specs.Lists.{IsPrefix}
use Rattle.tow_wire.specs.Wire.{goes_on, wire_from}
use Rattle.tow_progress.specs.OnWire.{FrontFollows, KeptFrontFollows, OpeningIs}

joined_front : (texts put written piped all rest : List ℕ) → texts ++ put ≡ written ++ piped → all ≡ texts ++ rest → IsPrefix put rest
    → IsPrefix written all
joined_front texts put written piped all rest out is front = (
  piped ++ front.0,
  is ∙ ap (λ (l : List ℕ). texts ++ l) front.1 ∙ sym (append_assoc texts put front.0) ∙ ap (λ (l : List ℕ). l ++ front.0) out ∙ append_assoc written piped front.0,
)

pub front_follows : FrontFollows
front_follows run c on whole reads =
    let found = on.within whole reads in
    let front = subst (λ (v : List Verdict). IsPrefix c.put (wire_from run c.number c.request found.0 v)) (append-nil c.own) (found.2 []) in
    joined_front c.texts c.put c.written c.piped_out _ _ on.out (found.1.joined c.own) front

-- ---- a front can be had from the fact that there is one

taken_front : (front whole : List ℕ) → IsPrefix front whole → take (length front) whole ≡ front
taken_front front whole is = ap (take (length front)) is.1 ∙ take_at front is.0 (length front) refl

front_of : (front whole : List ℕ) → take (length front) whole ≡ front → IsPrefix front whole
front_of front whole is =
    (drop (length front) whole, sym (take-append-drop (length front) whole) ∙ ap (λ (l : List ℕ). l ++ drop (length front) whole) is)

front_out : (front whole : List ℕ) → ∥ IsPrefix front whole ∥₁ → IsPrefix front whole
front_out front whole fact =
    let one : IsProp (take (length front) whole ≡ front) = hlevel props in front_of front whole (∥∥₁_elim fact one (taken_front front whole))

pub kept_front_follows : KeptFrontFollows
kept_front_follows run c fact whole reads =
    front_out _ _ (∥∥₁_elim fact ∥∥₁_prop (λ on. ∣ front_follows run c on whole reads ∣₁))

-- ---- the beginning

pub opening_is : OpeningIs
opening_is run k peer input = record {
  out = refl;
  within = λ whole reads. (
    whole,
    record { reads = reads; before = []; went_on = All-nil (λ e. IsTrue (goes_on e)); texts = refl; count = refl; exchanges = λ more. refl; joined = λ more. refl },
    λ more. (_, refl),
  );
}
