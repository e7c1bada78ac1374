-- Words of the board's contracts.
use Rattle.std.specs.Prelude.{◌≡◌, ℕ, ◌<◌, Bool, true, Some, All}
use Rattle.tow_model.specs.declared.account.Role.{Role}
use Rattle.tow_model.specs.declared.account.Role.TheVariants as roles
use Rattle.tow_board.specs.declared.hand.Claim.{Claim}
use Rattle.tow_board.specs.declared.hand.Claim.TheVariants.{Yours, Missed}
use Rattle.tow_board.specs.declared.owner.To.{To}
use Rattle.tow_board.specs.declared.owner.To.TheVariants as waiting
use Rattle.tow_board.specs.declared.slots.Open.{Open}
use Rattle.tow_board.specs.declared.slots.Open.TheVariants.{Slot, Full}
use Rattle.tow_board.specs.declared.view.View.{View}
use Rattle.tow_board.specs.Finds.{find, has}
use Rattle.tow_board.specs.Views.{gained, took_back, starts, posts, returns}

abbrev pub IfSlot : Open → (ℕ → Type 0) → Type 0
IfSlot (Slot k) P = P k
IfSlot Full P = Unit {0}

abbrev pub IfFull : Open → Type 0 → Type 0
IfFull (Slot k) P = Unit {0}
IfFull Full P = P

abbrev pub IfYours : Claim → Type 0 → Type 0
IfYours Yours P = P
IfYours (Missed w) P = Unit {0}

abbrev pub IfMissed : Claim → (ℕ → Type 0) → Type 0
IfMissed Yours P = Unit {0}
IfMissed (Missed w) P = P w

-- the number of the loop that it names is so
abbrev pub IfToLoop : To → (ℕ → Type 0) → Type 0
IfToLoop waiting.Pool P = Unit {0}
IfToLoop waiting.Main P = Unit {0}
IfToLoop (waiting.Loop i) P = P i

module _ {O M : Type 0} where
  -- every slot below n is live
  abbrev pub AllLive : ℕ → View O M → Type 0
  AllLive n v = (k : ℕ) → k < n → has k v.live ≡ true

  -- the view of a seat of that role, after it claimed the slot k, whose value has that origin and mark
  abbrev pub after_claim : (O → ℕ) → Role → View O M → ℕ → O × M → View O M
  after_claim number roles.Main v k i = took_back number v k i
  after_claim number (roles.Loop l) v k i = gained number v k i
  after_claim number (roles.Worker l) v k i = gained number v k i

  module _ (number : O → ℕ) (fresh : M → Type 0) (follows : M → M → Type 0) (tells : M → ℕ → Bool) where
    -- A seat of that role may publish the slot k with a value of that origin and mark. Main's mark is fresh, and its number above all that
    -- main published. Any other origin is the one that was claimed; a loop's mark tells no fault that the claimed one did not tell, and a
    -- worker's follows the claimed one.
    abbrev pub MayPublish : Role → View O M → ℕ → O × M → Type 0
    MayPublish roles.Main v k i = fresh i.1 × All (λ n. n < number i.0) v.numbers
    MayPublish (roles.Loop l) v k i = (p : O × M) × (find k v.hand ≡ Some (Some p)) × (i.0 ≡ p.0) × ((a : ℕ) → tells i.1 a ≡ true → tells p.1 a ≡ true)
    MayPublish (roles.Worker l) v k i = (p : O × M) × (find k v.hand ≡ Some (Some p)) × (i.0 ≡ p.0) × follows i.1 p.1

  -- the view w of a seat of that role, after it published the slot k with a value of that origin and mark
  abbrev pub IsAfterPublish : (O → ℕ) → (M → ℕ → Bool) → Role → View O M → ℕ → O × M → View O M → Type 0
  IsAfterPublish number tells roles.Main v k i w = w ≡ starts number v k i
  IsAfterPublish number tells (roles.Loop l) v k i w = w ≡ posts number v k i
  IsAfterPublish number tells (roles.Worker l) v k i w = (p : O × M) × (find k v.hand ≡ Some (Some p)) × (w ≡ returns number tells v k p.1 i)
