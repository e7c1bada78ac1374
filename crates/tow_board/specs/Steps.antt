-- What each step on a word tells the seat that makes it.
use Rattle.std.specs.Prelude.{◌≡◌, ◌≢◌, ℕ, Bool, true, false, ◌∷◌, Option, Some, None}
use Rattle.atomic_table.specs.Table.{Me, Step, rest}
use Rattle.tow_board.specs.declared.view.View.{View}
use Rattle.tow_board.specs.Finds.{find, has}
use Rattle.tow_board.specs.Rule.{Kind, Continues, FromFresh, IsLoop}
use Rattle.tow_board.specs.Views.{saw, began, retired, gained, took_back, starts, posts, returns}

module _ {O M : Type 0} (number : O → ℕ) where
  -- the view of a seat that claimed the slot k, whose value has that origin and mark
  pub record AfterClaim (v : View O M) (k : ℕ) (i : O × M) (w : View O M) : Type 0 where
    pub by_main : v.role ≡ 1 → w ≡ took_back number v k i
    pub by_others : v.role ≢ 1 → w ≡ gained number v k i

  -- what a seat knows of a claimed value by what it published, or has of the loops that it joined: a number that was published comes
  -- back with its origin and a mark that follows; to a loop, any other number comes with a mark that follows a fresh one
  pub record ComesBack (fresh : M → Type 0) (follows : M → M → Type 0) (v : View O M) (i : O × M) : Type 0 where
    pub again : (p : O × M) → find (number i.0) v.posted ≡ Some p → Continues follows i p
    pub first : IsLoop v → has (number i.0) v.posted ≡ false → FromFresh fresh follows i.1

  -- the view of a seat that published the slot k, whose value has that origin and mark
  pub record AfterPublish (tells : M → ℕ → Bool) (v : View O M) (k : ℕ) (i : O × M) (w : View O M) : Type 0 where
    pub by_main : v.role ≡ 1 → w ≡ starts number v k i
    pub by_loop : IsLoop v → w ≡ posts number v k i
    pub by_worker : v.role ≢ 1 → (IsLoop v → ⊥) → (p : O × M) → find k v.hand ≡ Some (Some p) → w ≡ returns number tells v k p.1 i

module _ {T O M : Type 0} (h : Kind T O M) where
  abbrev pub Seated : Type 0
  Seated = Me (Option T) (View O M)

  abbrev pub info_of : T → O × M
  info_of x = (h.origin x, h.mark x)

  abbrev pub claimed : Step (Option T) → Seated → ℕ → Seated → Type 0
  claimed st m r m' =
      (r ≡ st.first → (has st.word m.0.hand ≡ false)
      × ((x : T) × (m'.1 ≡ (st.word, Some x) ∷ m.1) × AfterClaim h.number m.0 st.word (info_of x) m'.0 × h.fits m.0.loops st.first x × ComesBack h.number h.fresh h.follows m.0 (info_of x)))
      × (r ≢ st.first → m' ≡ (saw m.0 st.word r, m.1))

  abbrev pub published : Step (Option T) → Seated → ℕ → Seated → Type 0
  published st m r m' = ((x : T) → m.1 ≡ (st.word, Some x) ∷ rest m.1 → AfterPublish h.number h.tells m.0 st.word (info_of x) m'.0) × (m'.1 ≡ rest m.1)

module _ {T O M : Type 0} where
  -- the load before a claim
  abbrev pub looked_for : Step (Option T) → Me (Option T) (View O M) → ℕ → Me (Option T) (View O M) → Type 0
  looked_for st m r m' = m' ≡ (saw m.0 st.word r, m.1)

  abbrev pub opened : Step (Option T) → Me (Option T) (View O M) → ℕ → Me (Option T) (View O M) → Type 0
  opened st m r m' = (m'.0 ≡ began m.0 st.word) × (m'.1 ≡ (st.word, None) ∷ m.1) × (has st.word m.0.hand ≡ false)

  -- main sees whether the slot is live
  abbrev pub looked : Step (Option T) → Me (Option T) (View O M) → ℕ → Me (Option T) (View O M) → Type 0
  looked st m r m' = (m' ≡ m) × (r ≡ 0 → has st.word m.0.live ≡ false) × (r ≢ 0 → has st.word m.0.live ≡ true)

  abbrev pub ended : Step (Option T) → Me (Option T) (View O M) → ℕ → Me (Option T) (View O M) → Type 0
  ended st m r m' = (m'.0 ≡ retired m.0 st.word) × (m'.1 ≡ rest m.1)
