-- A load that a seat keeps in mind keeps the rule.
use Rattle.std.proofs.Common.{◌≡◌, ◌≢◌, ℕ, ◌<◌, List, length, get_or, set, Option, sym, ap, ◌∙◌, subst, ⊎_elim, length-set}
use Rattle.std.specs.Prelude.{slice_index}
use mathlib.Core.Option.{some}
use mathlib.Core.Logic.{dite}
use native.Mathlib.Decide.{ℕ_discrete}
use lib.ListN.{get_elem?}
use Rattle.atomic_table.specs.Table.{Me, keeps, stepped}
use Rattle.atomic_table.proofs.Lists.{at_set, set_here, set_else, set_again}
use Rattle.tow_board.specs.declared.view.View.{View}
use Rattle.tow_board.specs.Rule.{Kind, Truth, Knows}
use Rattle.tow_board.proofs.Lists.{at_lt, at_get}
use Rattle.tow_board.proofs.Moves.{St, Rule, Goes, told_stays}

module _ {T O M : Type 0} (h : Kind T O M) (loops : ℕ) where
  abbrev V : Type 0
  V = View O M

  mine : (t : Truth O M) (slots id : ℕ) (v : V) (x : Option (ℕ × ℕ)) → Knows h loops t slots id v → Knows h loops t slots id record v { seen = x }
  mine t slots id v x old = record {
    base = record {
      loops_is = old.base.loops_is;
      seat_is = old.base.seat_is;
      was_given = old.base.was_given;
      within = old.base.within;
      holds = old.base.holds;
      held_here = old.base.held_here;
      hand_is = old.base.hand_is;
    };
    hand_loop = old.hand_loop;
    posted_is = λ m i e. let it = old.posted_is m i e in record { low = it.low; owner = it.owner; since = it.since; kept = it.kept };
    claimed = old.claimed;
    main = λ e. let it = old.main e in record {
      given_is = it.given_is;
      joined_is = it.joined_is;
      numbers_is = it.numbers_is;
      kept_is = it.kept_is;
      live_is = it.live_is;
      live_has = it.live_has;
      live_origin = it.live_origin;
      posted_has = it.posted_has;
    };
  }

  pub sees : (s : St h loops) (r : Rule h loops s) (id k : ℕ) (me : Me (Option T) V) (told : ℕ → Me (Option T) V → Type 0) (x : Option (ℕ × ℕ)) → get_elem? s.views id ≡ some me.0 → k < length s.homes
      → told (slice_index s.words k) (record me.0 { seen = x }, me.1) → Goes h loops s k id me told (get_or s.words k 0)
  sees s r id k me told x at near tells = (record me.0 { seen = x }, keeps, tt, kept, tells)
    where
      w : V
      w = record me.0 { seen = x }

      views : List V
      views = set s.views id record me.0 { seen = x }

      after : Rule h loops record { words = s.words; homes = s.homes; views = set s.views id record me.0 { seen = x } }
      after = record {
        truth = r.truth;
        wide = r.wide;
        seated = λ q j e. subst (λ (m : ℕ). j < m) (sym (length-set s.views id record me.0 { seen = x })) (r.seated q j e);
        each_slot = r.each_slot;
        each_view = λ j u e. ⊎_elim
            (λ (y : (j ≡ id) × (record me.0 { seen = x } ≡ u)). subst (λ (z : ℕ × V). Knows h loops r.truth (length s.homes) z.0 z.1) (λ i. (sym y.0 i, y.1 i)) (mine r.truth (length s.homes) id me.0 x (r.each_view id me.0 at)))
            (λ (y : (j ≢ id) × (get_elem? s.views j ≡ some u)). r.each_view j u y.1)
            (at_set s.views id j record me.0 { seen = x } u e);
        each_role = λ q g. let it = r.each_role q g in dite (ℕ_discrete (r.truth.seat_of q) id)
            (λ same. let is : me.0 ≡ it.0 = (let z : some me.0 ≡ some it.0 = sym at ∙ (ap (λ (j : ℕ). get_elem? s.views j) (sym same) ∙ it.1) in cc) in
            (record me.0 { seen = x }, ap (λ (j : ℕ). get_elem? (set s.views id record me.0 { seen = x }) j) same ∙ set_here s.views id record me.0 { seen = x } (at_lt s.views id me.0 at), ap (λ (u : V). u.role) is ∙ it.2))
            (λ apart. (it.0, set_else s.views id (r.truth.seat_of q) record me.0 { seen = x } apart ∙ it.1, it.2));
        joined_given = r.joined_given;
        each_begun = r.each_begun;
        falling = r.falling;
        each_fact = λ q f e. let old = r.each_fact q f e in record {
          low = old.low;
          its_loop = old.its_loop;
          unclaimed = old.unclaimed;
          told = λ a lt y. told_stays h loops s.views id me.0 record me.0 { seen = x } at (λ n b z. z) (h.number f.0) a (old.told a lt y);
          back = old.back;
        };
        once = r.once;
        each_kept = λ m g e. let old = r.each_kept m g e in record {
          low = old.low;
          unclaimed = old.unclaimed;
          told = λ a lt y. told_stays h loops s.views id me.0 record me.0 { seen = x } at (λ n b z. z) m a (old.told a lt y);
        };
      }

      kept : Rule h loops (stepped s k (get_or s.words k 0) id me.1 record me.0 { seen = x } keeps)
      kept = subst (λ (ws : List ℕ). Rule h loops record { words = ws; homes = s.homes; views = set s.views id record me.0 { seen = x } })
          (sym (set_again s.words k (get_or s.words k 0) (at_get s.words k (subst (λ (m : ℕ). k < m) (sym r.wide) near)))) after
