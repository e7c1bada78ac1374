-- What the rule says, point by point, of the words, the places and the views alone.
use Rattle.std.specs.Prelude.{◌≡◌, ◌≢◌, ◌⊎◌, ℕ, ◌<◌, ◌≤◌, true, false, length, Option, Some, slice_index_or}
use mathlib.Core.Option.{some}
use lib.ListN.{get_elem?}
use Rattle.atomic_table.specs.Table.{State}
use Rattle.tow_board.specs.declared.view.View.{View}
use Rattle.tow_board.specs.Finds.{find, has}
use Rattle.tow_board.specs.Rule.{Kind, Continues, FromFresh, Told, IsLoop, Falling, loop_role}

module _ {T O M : Type 0} (h : Kind T O M) (s : State (Option T) (View O M)) where
  abbrev pub word : ℕ → ℕ
  word k = slice_index_or s.words k 0

  -- the seat j has the view v
  abbrev pub Has : ℕ → View O M → Type 0
  Has j v = get_elem? s.views j ≡ some v

  -- main has the view v
  abbrev pub IsMain : View O M → Type 0
  IsMain v = ((j : ℕ) × Has j v) × (v.role ≡ 1)

  -- the value x is at its place in the slot k, and waits
  abbrev pub Waits : ℕ → T → Type 0
  Waits k x = (k < length s.homes) × (2 ≤ word k) × (get_elem? s.homes k ≡ some (some (Some x)))

  -- a seat claimed the slot k with that origin and mark, and has it in its hand
  abbrev pub Claimed : ℕ → ℕ → O × M → Type 0
  Claimed j k i = (v : View O M) × Has j v × (find k v.hand ≡ Some (Some i))

  pub record Points (loops : ℕ) : Type 0 where
    -- the word is 0 exactly where the slot is not live in main's view
    pub free : (v : View O M) → IsMain v → (k : ℕ) → k < length s.homes → (word k ≡ 0 → has k v.live ≡ false) × (word k ≢ 0 → has k v.live ≡ true)
    -- word 1: exactly one seat has the slot in its hand
    pub hand : (k : ℕ) → k < length s.homes → word k ≡ 1
        → (j : ℕ) × (v : View O M) × Has j v × (has k v.hand ≡ true) × ((i : ℕ) (u : View O M) → Has i u → has k u.hand ≡ true → i ≡ j)
    -- any other word: nobody has it, and its value is at its place and fits the word
    pub home : (k : ℕ) → k < length s.homes → 2 ≤ word k
        → (x : T) × Waits k x × h.fits loops (word k) x × ((j : ℕ) (v : View O M) → Has j v → has k v.hand ≡ false)
    -- no two live seats have one role
    pub roles : (i j : ℕ) (u v : View O M) → Has i u → Has j v → u.role ≡ v.role → v.role ≢ 0 → i ≡ j
    -- each live seat but main's has a role that was given and not joined, and each such role has a seat
    pub given : (m : View O M) → IsMain m → (j : ℕ) (v : View O M) → Has j v → v.role ≢ 0 → v.role ≢ 1 → (has v.role m.given ≡ true) × (has v.role m.joined ≡ false)
    pub seated : (m : View O M) → IsMain m → (r : ℕ) → has r m.given ≡ true → has r m.joined ≡ false → (j : ℕ) × (v : View O M) × Has j v × (v.role ≡ r)
    pub many : (j : ℕ) (v : View O M) → Has j v → v.role ≢ 0 → v.loops ≡ loops
    -- main has the origin of each slot that it published, and the numbers that it published differ
    pub origin_home : (m : View O M) → IsMain m → (k : ℕ) (x : T) → Waits k x → find k m.live ≡ Some (Some (h.origin x))
    pub origin_hand : (m : View O M) → IsMain m → (j k : ℕ) (i : O × M) → Claimed j k i → find k m.live ≡ Some (Some i.0)
    pub numbers : (m : View O M) → IsMain m → Falling m.numbers
    -- what a loop published goes on until that loop claims it again
    pub again_home : (j : ℕ) (v : View O M) → Has j v → (i : O × M) (k : ℕ) (x : T) → Waits k x → find (h.number (h.origin x)) v.posted ≡ Some i → Continues h.follows (h.origin x, h.mark x) i
    pub again_hand : (j : ℕ) (v : View O M) → Has j v → (i f : O × M) (l k : ℕ) → Claimed l k f → find (h.number f.0) v.posted ≡ Some i → (v.role ≡ 1) ⊎ (l ≢ j) → Continues h.follows f i
    -- a loop claims only what belongs to it
    pub its_own : (j : ℕ) (v : View O M) → Has j v → IsLoop v → (k : ℕ) (i : O × M) → find k v.hand ≡ Some (Some i) → v.role ≡ loop_role h loops i.0
    -- what its loop has not claimed yet, follows a fresh mark
    pub first_home : (j : ℕ) (v : View O M) → Has j v → (k : ℕ) (x : T) → Waits k x → v.role ≡ loop_role h loops (h.origin x) → has (h.number (h.origin x)) v.posted ≡ false → FromFresh h.fresh h.follows (h.mark x)
    -- a fault that is told stands in some view
    pub told_home : (k : ℕ) (x : T) → Waits k x → (a : ℕ) → a < 2 → h.tells (h.mark x) a ≡ true → Told s.views (h.number (h.origin x)) a
    pub told_hand : (j k : ℕ) (i : O × M) → Claimed j k i → (a : ℕ) → a < 2 → h.tells i.1 a ≡ true → Told s.views (h.number i.0) a
    -- what main claimed
    pub kept_again : (m : View O M) → IsMain m → (j : ℕ) (v : View O M) → Has j v → (n : ℕ) (g i : O × M) → find n m.kept ≡ Some g → find n v.posted ≡ Some i → Continues h.follows g i
    pub kept_told : (m : View O M) → IsMain m → (n : ℕ) (g : O × M) → find n m.kept ≡ Some g → (a : ℕ) → a < 2 → h.tells g.1 a ≡ true → Told s.views n a
