-- Lists of pairs, looked up from the front.
use Rattle.std.specs.Prelude.{ℕ, ◌==◌, ◌&&◌, Bool, true, cond, not, List, [], ◌∷◌, Option, None, Some, is_some}

module _ {X : Type 0} where
  abbrev pub find : ℕ → List (ℕ × X) → Option X
  find q [] = None
  find q (e ∷ es) = cond (q == e.0) (Some e.1) (find q es)

  abbrev pub has : ℕ → List (ℕ × X) → Bool
  has q es = is_some (find q es)

  -- without the entries at the key
  abbrev pub without : ℕ → List (ℕ × X) → List (ℕ × X)
  without q [] = []
  without q (e ∷ es) = cond (q == e.0) (without q es) (e ∷ without q es)

  -- no key stands twice
  abbrev pub distinct : List (ℕ × X) → Bool
  distinct [] = true
  distinct (e ∷ es) = not (has e.0 es) && distinct es

  -- behind the first of the list
  abbrev pub hoist : ℕ × X → List (ℕ × X) → List (ℕ × X)
  hoist x [] = x ∷ []
  hoist x (y ∷ ys) = y ∷ x ∷ ys

  -- the first entry at the key goes before the others
  abbrev pub brought : ℕ → List (ℕ × X) → List (ℕ × X)
  brought k [] = []
  brought k (e ∷ es) = cond (k == e.0) (e ∷ es) (hoist e (brought k es))
