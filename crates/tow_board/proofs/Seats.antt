-- What a seat carries, after it was brought into another order.
use Rattle.std.proofs.Common.{◌≡◌, ◌≢◌, ℕ, ◌==◌, List, [], ◌∷◌, Some, None, Option, Bool, true, false, true≢false, cond, refl, sym, ap, ◌∙◌, subst, eq-eqb, ne_eqb}
use Rattle.std.specs.Prelude.{is_some, not, ◌&&◌}
use mathlib.Core.Logic.{dite}
use native.Mathlib.Decide.{ℕ_discrete}
use Rattle.atomic_table.specs.Table.{rest}
use Rattle.tow_board.specs.Finds.{find, has, without, distinct, hoist, brought}
use Rattle.tow_board.proofs.Lists.{has_new, has_old, has_else, has_gone}

and_true : (a b : Bool) → a && b ≡ true → (a ≡ true) × (b ≡ true)
and_true true true e = (refl, refl)
and_true true false e = absurd (cc)
and_true false b e = absurd (cc)

not_true : (a : Bool) → not a ≡ true → a ≡ false
not_true true e = absurd (cc)
not_true false e = refl

is_there : {X : Type 0} (o : Option X) → is_some o ≡ true → (x : X) × (o ≡ Some x)
is_there (Some x) e = (x, refl)
is_there None e = absurd (cc)

module _ {X : Type 0} where
  pub find_here : (k : ℕ) (x : X) (es : List (ℕ × X)) → find k ((k, x) ∷ es) ≡ Some x
  find_here k x es = rw (eq-eqb k k refl) refl

  pub find_else : (q k : ℕ) (x : X) (es : List (ℕ × X)) → q ≢ k → find q ((k, x) ∷ es) ≡ find q es
  find_else q k x es n = rw (ne_eqb q k n) refl

  -- the order of two entries with different keys does not count
  swapped : (q k : ℕ) (y : X) (e : ℕ × X) (r : List (ℕ × X)) → k ≢ e.0 → find q ((k, y) ∷ e ∷ r) ≡ find q (e ∷ (k, y) ∷ r)
  swapped q k y e r n =
      dite (ℕ_discrete q k)
      (λ same. rw (eq-eqb q k same) (rw (ne_eqb q e.0 (λ z. n (sym same ∙ z))) refl))
      (λ apart. rw (ne_eqb q k apart) refl)

  pub first : (k : ℕ) (es : List (ℕ × X)) → has k es ≡ true → (y : X) × (find k es ≡ Some y) × (brought k es ≡ (k, y) ∷ rest (brought k es))
  first k [] h = absurd (cc)
  first k (e ∷ es) h =
      dite (ℕ_discrete k e.0)
      (λ same. rw (eq-eqb k e.0 same) (e.1, refl, ap (λ (m : ℕ). (m, e.1) ∷ es) (sym same)))
      (λ apart.
      let h' : has k es ≡ true = rw (ne_eqb k e.0 apart) at h in
      let it = first k es h' in
      rw (ne_eqb k e.0 apart) (it.0, it.1, subst (λ (l : List (ℕ × X)). hoist e l ≡ (k, it.0) ∷ rest (hoist e l)) (sym it.2) refl))

  pub find_brought : (k q : ℕ) (es : List (ℕ × X)) → has k es ≡ true → find q (brought k es) ≡ find q es
  find_brought k q [] h = refl
  find_brought k q (e ∷ es) h =
      dite (ℕ_discrete k e.0)
      (λ same. rw (eq-eqb k e.0 same) refl)
      (λ apart.
      let h' : has k es ≡ true = rw (ne_eqb k e.0 apart) at h in
      let it = first k es h' in
      rw (ne_eqb k e.0 apart) (
      subst (λ (l : List (ℕ × X)). find q (hoist e l) ≡ find q (e ∷ l)) (sym it.2) (swapped q k it.0 e (rest (brought k es)) apart)
      ∙ ap (λ (o : Option X). cond (q == e.0) (Some e.1) o) (find_brought k q es h')))

  pub distinct_brought : (k : ℕ) (es : List (ℕ × X)) → has k es ≡ true → distinct es ≡ true → distinct (brought k es) ≡ true
  distinct_brought k [] h d = d
  distinct_brought k (e ∷ es) h d =
      dite (ℕ_discrete k e.0)
      (λ same. rw (eq-eqb k e.0 same) d)
      (λ apart.
      let h' : has k es ≡ true = rw (ne_eqb k e.0 apart) at h in
      let it = first k es h' in
      let r = rest (brought k es) in
      let ds = and_true (not (has e.0 es)) (distinct es) d in
      let d' : distinct ((k, it.0) ∷ r) ≡ true = subst (λ (l : List (ℕ × X)). distinct l ≡ true) it.2 (distinct_brought k es h' ds.1) in
      let ds' = and_true (not (has k r)) (distinct r) d' in
      let no_k : has k r ≡ false = not_true (has k r) ds'.0 in
      let same : find e.0 ((k, it.0) ∷ r) ≡ find e.0 es = subst (λ (l : List (ℕ × X)). find e.0 l ≡ find e.0 es) it.2 (find_brought k e.0 es h') in
      let no_e : has e.0 r ≡ false = ap (λ (o : Option X). is_some o) (sym (find_else e.0 k it.0 r (λ z. apart (sym z))) ∙ same) ∙ not_true (has e.0 es) ds.0 in
      rw (ne_eqb k e.0 apart) (subst (λ (l : List (ℕ × X)). distinct (hoist e l) ≡ true) (sym it.2) (rw (ne_eqb k e.0 apart) (rw (no_k, no_e) ds'.1))))

  -- a slot that was given back is gone
  pub gone : (k : ℕ) (y : X) (r : List (ℕ × X)) → distinct ((k, y) ∷ r) ≡ true → has k r ≡ false
  gone k y r d = not_true (has k r) (and_true (not (has k r)) (distinct r) d).0

  pub distinct_rest : (k : ℕ) (y : X) (r : List (ℕ × X)) → distinct ((k, y) ∷ r) ≡ true → distinct r ≡ true
  distinct_rest k y r d = (and_true (not (has k r)) (distinct r) d).1

  pub distinct_new : (k : ℕ) (y : X) (r : List (ℕ × X)) → has k r ≡ false → distinct r ≡ true → distinct ((k, y) ∷ r) ≡ true
  distinct_new k y r n d = rw n d

  pub none_left : (es : List (ℕ × X)) → ((k : ℕ) → has k es ≡ false) → es ≡ []
  none_left [] n = refl
  none_left (e ∷ es) n = absurd (true≢false (sym (has_new e.0 e.1 es) ∙ n e.0))

  pub has_lost : (k q : ℕ) (hand : List (ℕ × X)) → has q (without k hand) ≡ true → has q hand ≡ true
  has_lost k q hand e =
      dite (ℕ_discrete q k)
      (λ same. absurd (true≢false (sym (subst (λ (m : ℕ). has m (without k hand) ≡ true) same e) ∙ has_gone k hand)))
      (λ apart. sym (has_else k q hand apart) ∙ e)

module _ {X : Type 0} {Y : Type 0} where
  -- the carried slots and the hand, after both gain or lose a slot
  pub gains : (k q : ℕ) (x : X) (y : Y) (cs : List (ℕ × X)) (hand : List (ℕ × Y)) → has q cs ≡ has q hand → has q ((k, x) ∷ cs) ≡ has q ((k, y) ∷ hand)
  gains k q x y cs hand e = dite (ℕ_discrete q k) (λ same. rw (eq-eqb q k same) refl) (λ apart. rw (ne_eqb q k apart) e)

  pub loses : (k q : ℕ) (x : X) (cs : List (ℕ × X)) (hand : List (ℕ × Y)) → distinct ((k, x) ∷ cs) ≡ true → has q ((k, x) ∷ cs) ≡ has q hand → has q cs ≡ has q (without k hand)
  loses k q x cs hand d e =
      dite (ℕ_discrete q k)
      (λ same. subst (λ (m : ℕ). has m cs ≡ has m (without k hand)) (sym same) (gone k x cs d ∙ sym (has_gone k hand)))
      (λ apart. sym (has_old k q x cs apart) ∙ (e ∙ sym (has_else k q hand apart)))
