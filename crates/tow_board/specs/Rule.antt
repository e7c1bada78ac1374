-- The rule of the board: what holds between any two of its atomic steps.
use Rattle.std.specs.Prelude.{◌≡◌, ◌≢◌, ◌⊎◌, ℕ, ◌+◌, ◌<◌, ◌≤◌, Bool, true, false, List, [], ◌∷◌, length, Option, Some, None, slice_index_or}
use mathlib.Core.Option.{some}
use mathlib.Core.Option as maybe
use lib.ListN.{get_elem?}
use Rattle.atomic_table.specs.Table.{State}
use Rattle.tow_board.specs.declared.view.View.{View}
use Rattle.tow_board.specs.Finds.{find, has}
use Rattle.tow_board.specs.declared.owner.To.{To}
use Rattle.tow_board.specs.Owners.{loop_number, to_at}
use Rattle.tow_board.specs.Views.{top_of, is_told}

-- where a slot's value is: nowhere, in the hand of the seat with that number, or at its place
pub data Place : Type 0 where
  free : Place
  held : ℕ → Place
  home : Place

-- what the rule reads of a value: the trait `Held`, where `fits` takes the word for whom it waits
pub record Kind (T O M : Type 0) : Type 1 where
  pub fits : ℕ → ℕ → T → Type 0
  pub origin : T → O
  pub number : O → ℕ
  pub loop_of : ℕ → O → ℕ
  pub mark : T → M
  pub fresh : M → Type 0
  pub follows : M → M → Type 0
  pub tells : M → ℕ → Bool

abbrev pub kind_of : {T O M : Type 0} → (ℕ → To → T → Type 0) → (T → O) → (O → ℕ) → (ℕ → O → ℕ) → (T → M) → (M → Type 0) → (M → M → Type 0) → (M → ℕ → Bool) → Kind T O M
kind_of fits origin number loop_of mark fresh follows tells = record {
  fits = λ n c x. fits n (to_at c) x;
  origin = origin;
  number = number;
  loop_of = loop_of;
  mark = mark;
  fresh = fresh;
  follows = follows;
  tells = tells;
}

-- a newer number stands before the older ones, and is greater
abbrev pub Falling : List ℕ → Type 0
Falling [] = Unit {0}
Falling (n ∷ ns) = (top_of ns ≤ n) × Falling ns

module _ (O M : Type 0) where
  -- what there is beside the words, the places and the views
  pub record Truth : Type 0 where
    pub place : ℕ → Place  -- where each slot's value is
    pub facts : ℕ → Option (O × M)  -- its origin and mark, as it lies at its place or as it was claimed
    pub seat_of : ℕ → ℕ  -- the seat of a role
    pub given : List (ℕ × ℕ)  -- the roles that were given
    pub joined : List (ℕ × ℕ)  -- those of them that were joined
    pub numbers : List ℕ  -- of all that main published
    pub kept : List (ℕ × (O × M))  -- what main claimed
    pub begun : ℕ → ℕ  -- the role of the loop that first claimed a number, or 0

module _ {M : Type 0} where
  -- the mark is fresh, or follows a fresh one
  abbrev pub FromFresh : (M → Type 0) → (M → M → Type 0) → M → Type 0
  FromFresh fresh follows m = (b : M) × fresh b × follows m b

module _ {O M : Type 0} where
  -- the same origin, and a mark that follows
  abbrev pub Continues : (M → M → Type 0) → O × M → O × M → Type 0
  Continues follows g i = (g.0 ≡ i.0) × follows g.1 i.1

  -- some view has the fault of the number
  abbrev pub Told : List (View O M) → ℕ → ℕ → Type 0
  Told views m a = (j : ℕ) × (v : View O M) × (get_elem? views j ≡ some v) × (is_told m a v.told ≡ true)

  abbrev pub IsLoop : View O M → Type 0
  IsLoop v = (l : ℕ) × (v.role ≡ loop_number l)

module _ {T O M : Type 0} (h : Kind T O M) where
  -- a slot's word and place agree with where its value is
  abbrev pub InPlace : (loops word : ℕ) → maybe.Option (maybe.Option (Option T)) → Option (O × M) → Place → Type 0
  InPlace loops word at fact free = (word ≡ 0) × (at ≡ some (some None))
  InPlace loops word at fact (held j) = word ≡ 1
  InPlace loops word at fact home = (2 ≤ word) × (word < 4 + loops) × ((x : T) × (at ≡ some (some (Some x))) × h.fits loops word x × (fact ≡ Some (h.origin x, h.mark x)))

  -- the role of the loop that an origin belongs to
  abbrev pub loop_role : ℕ → O → ℕ
  loop_role loops o = loop_number (h.loop_of loops o)

  module _ (loops : ℕ) (t : Truth O M) where
    -- of a slot's origin and mark
    pub record FactIs (views : List (View O M)) (k : ℕ) (f : O × M) : Type 0 where
      pub low : h.number f.0 < top_of t.numbers
      pub its_loop : t.begun (h.number f.0) ≢ 0 → t.begun (h.number f.0) ≡ loop_role loops f.0
      pub unclaimed : t.begun (h.number f.0) ≡ 0 → FromFresh h.fresh h.follows f.1
      pub told : (a : ℕ) → a < 2 → h.tells f.1 a ≡ true → Told views (h.number f.0) a
      pub back : (g : O × M) → find (h.number f.0) t.kept ≡ Some g → t.place k ≡ held (t.seat_of 1)

    -- of a number that a loop claimed
    pub record BegunIs (m : ℕ) : Type 0 where
      pub low : m < top_of t.numbers
      pub loop : (l : ℕ) × (t.begun m ≡ loop_number l)
      pub given : has (t.begun m) t.given ≡ true

    -- of what main claimed
    pub record KeptIs (views : List (View O M)) (m : ℕ) (g : O × M) : Type 0 where
      pub low : m < top_of t.numbers
      pub unclaimed : t.begun m ≡ 0 → FromFresh h.fresh h.follows g.1
      pub told : (a : ℕ) → a < 2 → h.tells g.1 a ≡ true → Told views m a

    -- of what a loop published, in its view or in main's
    pub record PostedIs (j : ℕ) (v : View O M) (m : ℕ) (i : O × M) : Type 0 where
      pub low : m < top_of t.numbers
      pub owner : (v.role ≡ loop_role loops i.0) ⊎ ((v.role ≡ 1) × (has (loop_role loops i.0) t.joined ≡ true))
      pub since : (k : ℕ) (f : O × M) → t.facts k ≡ Some f → h.number f.0 ≡ m → (v.role ≢ 1 → t.place k ≢ held j) → Continues h.follows f i
      pub kept : (g : O × M) → find m t.kept ≡ Some g → Continues h.follows g i

    -- what the view j has in its hand
    pub record Holds (slots j : ℕ) (v : View O M) : Type 0 where
      pub loops_is : v.role ≢ 0 → v.loops ≡ loops
      pub seat_is : v.role ≢ 0 → t.seat_of v.role ≡ j
      pub was_given : v.role ≢ 0 → v.role ≢ 1 → (has v.role t.given ≡ true) × (has v.role t.joined ≡ false)
      pub within : (k : ℕ) → has k v.hand ≡ true → k < slots
      pub holds : (k : ℕ) → has k v.hand ≡ true → t.place k ≡ held j
      pub held_here : (k : ℕ) → t.place k ≡ held j → has k v.hand ≡ true
      pub hand_is : (k : ℕ) (i : Option (O × M)) → find k v.hand ≡ Some i → t.facts k ≡ i

    -- what main's view has besides
    pub record MainKnows (slots : ℕ) (v : View O M) : Type 0 where
      pub given_is : v.given ≡ t.given
      pub joined_is : v.joined ≡ t.joined
      pub numbers_is : v.numbers ≡ t.numbers
      pub kept_is : v.kept ≡ t.kept
      pub live_is : (k : ℕ) → k < slots → t.place k ≡ free → has k v.live ≡ false
      pub live_has : (k : ℕ) → k < slots → t.place k ≢ free → has k v.live ≡ true
      pub live_origin : (k : ℕ) (f : O × M) → t.facts k ≡ Some f → find k v.live ≡ Some (Some f.0)
      pub posted_has : (m : ℕ) → has (t.begun m) t.joined ≡ true → has m v.posted ≡ true

    -- all that the rule says of the view j
    pub record Knows (slots j : ℕ) (v : View O M) : Type 0 where
      pub base : Holds slots j v
      pub hand_loop : IsLoop v → (k : ℕ) (i : O × M) → find k v.hand ≡ Some (Some i) → (v.role ≡ loop_role loops i.0) × (t.begun (h.number i.0) ≡ v.role)
      pub posted_is : (m : ℕ) (i : O × M) → find m v.posted ≡ Some i → PostedIs j v m i
      pub claimed : IsLoop v → (m : ℕ) → t.begun m ≡ v.role → (has m v.posted ≡ true) ⊎ ((k : ℕ) × (i : O × M) × (find k v.hand ≡ Some (Some i)) × (h.number i.0 ≡ m))
      pub main : v.role ≡ 1 → MainKnows slots v

  pub record BoardRule (loops : ℕ) (s : State (Option T) (View O M)) : Type 0 where
    pub truth : Truth O M
    pub wide : length s.words ≡ length s.homes
    pub seated : (k j : ℕ) → truth.place k ≡ held j → j < length s.views
    pub each_slot : (k : ℕ) → k < length s.homes → InPlace loops (slice_index_or s.words k 0) (get_elem? s.homes k) (truth.facts k) (truth.place k)
    pub each_view : (j : ℕ) (v : View O M) → get_elem? s.views j ≡ some v → Knows loops truth (length s.homes) j v
    pub each_role : (r : ℕ) → (r ≡ 1) ⊎ ((has r truth.given ≡ true) × (has r truth.joined ≡ false)) → (v : View O M) × (get_elem? s.views (truth.seat_of r) ≡ some v) × (v.role ≡ r)
    pub joined_given : (r : ℕ) → has r truth.joined ≡ true → (has r truth.given ≡ true) × (2 ≤ r)
    pub each_begun : (m : ℕ) → truth.begun m ≢ 0 → BegunIs loops truth m
    pub falling : Falling truth.numbers
    pub each_fact : (k : ℕ) (f : O × M) → truth.facts k ≡ Some f → FactIs loops truth s.views k f
    pub once : (k q : ℕ) (f g : O × M) → truth.facts k ≡ Some f → truth.facts q ≡ Some g → h.number f.0 ≡ h.number g.0 → k ≡ q
    pub each_kept : (m : ℕ) (g : O × M) → find m truth.kept ≡ Some g → KeptIs loops truth s.views m g
