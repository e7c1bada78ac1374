-- The slots that a seat carries may stand in any order. Assumes `Logic`.
use Rattle.std.proofs.Common.{ℕ, ◌==◌, Bool, true, false, cond, List, [], ◌∷◌}
use seplogic.Ra.Ura.{Ura}
use base.Logic.{ent, id⊢}
use base.Share.{three_quarters}
use base.Stored.{Coded}
use types.Logic.{Logic, sem}
use types.Kit.{‵, ◌$◌, ◌∵◌, !, qed, by, move, frame, fsplit3, fjoin3, use1, done}
use denote.RattleType.{RattleType}
use Rattle.atomic_table.specs.Seated.{seen, carried, TableId, age, place, names, mine}
use Rattle.tow_board.specs.Finds.{hoist, brought}

module _ {M : Type 1} {𝓤 : Ura M} (𝓛 : Logic 𝓤) (R : RattleType) {V : Type 0} (cv : Coded V) (z : TableId) where
  abbrev out : List (ℕ × R.Denot) → base.Fml.Fml
  out cs = carried (age z) R (place z) (names z) z.slots cs

  hoists : (x : ℕ × R.Denot) (ys : List (ℕ × R.Denot)) → ent 𝓤 (sem 𝓛 (out (x ∷ ys))) (sem 𝓛 (out (hoist x ys)))
  hoists x [] = id⊢ 𝓤 _
  hoists x (y ∷ ys) = qed 𝓛 (‵ (out (x ∷ y ∷ ys)) ∷ []) ∵ fsplit3 ! $ move ! (2 ∷ []) $ fsplit3 ! $ move ! (3 ∷ 4 ∷ 2 ∷ []) $ fjoin3 ! $ move ! (1 ∷ 2 ∷ 0 ∷ []) $ fjoin3 ! $ done !

  picks : (b : Bool) (x : ℕ × R.Denot) (xs ys : List (ℕ × R.Denot)) → ent 𝓤 (sem 𝓛 (out xs)) (sem 𝓛 (out ys)) → ent 𝓤 (sem 𝓛 (out (x ∷ xs))) (sem 𝓛 (out (cond b (x ∷ xs) (hoist x ys))))
  picks true x xs ys h = id⊢ 𝓤 _
  picks false x xs ys h = qed 𝓛 (‵ (out (x ∷ xs)) ∷ []) ∵ fsplit3 ! $ move ! (2 ∷ []) $ use1 𝓛 (‵ (out ys)) h $ move ! (1 ∷ 2 ∷ 0 ∷ []) $ fjoin3 ! $ by ! (hoists x ys)

  carries : (k : ℕ) (cs : List (ℕ × R.Denot)) → ent 𝓤 (sem 𝓛 (out cs)) (sem 𝓛 (out (brought k cs)))
  carries k [] = id⊢ 𝓤 _
  carries k (x ∷ xs) = picks (k == x.0) x xs (brought k xs) (carries k xs)

  pub brings : (k id : ℕ) (v : V) (cs : List (ℕ × R.Denot)) → ent 𝓤 (sem 𝓛 (mine R cv.code z id (v, cs))) (sem 𝓛 (mine R cv.code z id (v, brought k cs)))
  brings k id v cs = qed 𝓛 (‵ (seen cv.code z.views_name id three_quarters v) ∷ ‵ (out cs) ∷ []) ∵ frame ! $ by ! (carries k cs)
