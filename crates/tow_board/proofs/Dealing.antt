-- A split and a join keep the rule.
use Rattle.std.proofs.Common.{◌≡◌, ◌≢◌, ◌⊎◌, ℕ, zero, suc, ◌≤◌, List, [], ◌∷◌, ◌++◌, length, set, Some, Option, true, false, true≢false, refl, sym, ap, ◌∙◌, subst, inl, inr, ⊎_elim, arith, length-set, length-append}
use mathlib.Core.Option.{some}
use mathlib.Core.Logic.{dite}
use native.Mathlib.Decide.{ℕ_discrete}
use lib.ListN.{get_elem?}
use Rattle.atomic_table.specs.Table.{Splits, Joins}
use Rattle.atomic_table.proofs.Lists.{at_set, set_here, set_else}
use Rattle.tow_board.specs.declared.view.View.{View}
use Rattle.tow_board.specs.Finds.{find, has}
use Rattle.tow_board.specs.Views.{is_told, gave, newcomer, joined_with, spent_view}
use Rattle.tow_board.specs.Rule.{held, Kind, Truth, loop_role, Told, FactIs, PostedIs, Knows}
use Rattle.tow_board.proofs.Lists.{put, put_here, put_else, at_lt, at_end, before_end, last_end, has_new, has_old, has_kept_on, found_joined, has_first, has_second, not_has}
use Rattle.tow_board.proofs.Told.{told_first, told_second}
use Rattle.tow_board.proofs.Moves.{St, Rule, loop_real, one_seat}

is_same : {X : Type 0} (x y : X) → some x ≡ some y → x ≡ y
is_same x y e = cc

module _ {T O M : Type 0} (h : Kind T O M) (loops : ℕ) where
  abbrev V : Type 0
  V = View O M

  -- the role is given to a new seat at the end
  abbrev given_to : Truth O M → ℕ → ℕ → Truth O M
  given_to t r j = record {
    place = t.place;
    facts = t.facts;
    seat_of = put t.seat_of r j;
    given = (r, 0) ∷ t.given;
    joined = t.joined;
    numbers = t.numbers;
    kept = t.kept;
    begun = t.begun;
  }

  module _ (id r : ℕ) (v : V) (is_main : v.role ≡ 1) (new : 2 ≤ r) (unused : has r v.given ≡ false) (s : St h loops) (rule : Rule h loops s) (at : get_elem? s.views id ≡ some v) where
    long : length (set s.views id (gave v r)) ≡ length s.views
    long = length-set s.views id (gave v r)

    mine : Knows h loops rule.truth (length s.homes) id v
    mine = rule.each_view id v at

    real : v.role ≢ 0
    real e = absurd (let z : 1 ≡ 0 = sym is_main ∙ e in omega arith)

    not_given : has r rule.truth.given ≡ false
    not_given = subst (λ (g : List (ℕ × ℕ)). has r g ≡ false) (mine.main is_main).given_is unused

    not_joined : has r rule.truth.joined ≡ false
    not_joined = not_has (has r rule.truth.joined) (λ z. true≢false (sym (rule.joined_given r z).0 ∙ not_given))

    t' : Truth O M
    t' = given_to rule.truth r (length s.views)

    views : List V
    views = set s.views id (gave v r) ++ newcomer v r ∷ []

    on_views : (j : ℕ) (u : V) → j ≢ id → get_elem? s.views j ≡ some u → get_elem? (set s.views id (gave v r) ++ newcomer v r ∷ []) j ≡ some u
    on_views j u ne e = before_end (set s.views id (gave v r)) (newcomer v r) u j (set_else s.views id j (gave v r) ne ∙ e)

    main_there : get_elem? (set s.views id (gave v r) ++ newcomer v r ∷ []) id ≡ some (gave v r)
    main_there = before_end (set s.views id (gave v r)) (newcomer v r) (gave v r) id (set_here s.views id (gave v r) (at_lt s.views id v at))

    told_on : (m a : ℕ) → Told s.views m a → Told (set s.views id (gave v r) ++ newcomer v r ∷ []) m a
    told_on m a it = dite (ℕ_discrete it.0 id)
        (λ same. let is : v ≡ it.1 = is_same v it.1 (sym at ∙ (ap (λ (j : ℕ). get_elem? s.views j) (sym same) ∙ it.2)) in
        (id, gave v r, main_there, subst (λ (u : V). is_told m a u.told ≡ true) (sym is) it.3))
        (λ ne. (it.0, it.1, on_views it.0 it.1 ne it.2, it.3))

    other_role : (q : ℕ) → (q ≡ 1) ⊎ (has q rule.truth.given ≡ true) → q ≢ r
    other_role q g e = ⊎_elim
        (λ one. absurd (let z : r ≡ 1 = sym e ∙ one in omega arith))
        (λ had. true≢false (sym (subst (λ (m : ℕ). has m rule.truth.given ≡ true) e had) ∙ not_given)) g

    posted_on : (j : ℕ) (u u' : V) (m : ℕ) (i : O × M) → u'.role ≡ u.role → PostedIs h loops rule.truth j u m i → PostedIs h loops (given_to rule.truth r (length s.views)) j u' m i
    posted_on j u u' m i same old = record {
      low = old.low;
      owner = subst (λ (x : ℕ). (x ≡ loop_role h loops i.0) ⊎ ((x ≡ 1) × (has (loop_role h loops i.0) rule.truth.joined ≡ true))) (sym same) old.owner;
      since = λ k f e num away. old.since k f e num (λ n z. away (λ x. n (sym same ∙ x)) z);
      kept = old.kept;
    }

    main_now : Knows h loops (given_to rule.truth r (length s.views)) (length s.homes) id (gave v r)
    main_now = let old = mine.main is_main in record {
      base = record {
        loops_is = mine.base.loops_is;
        seat_is = λ n. put_else rule.truth.seat_of r (length s.views) v.role (other_role v.role (inl is_main)) ∙ mine.base.seat_is n;
        was_given = λ _ n. absurd (n is_main);
        within = mine.base.within;
        holds = mine.base.holds;
        held_here = mine.base.held_here;
        hand_is = mine.base.hand_is;
      };
      hand_loop = λ loop. absurd ((loop_real h loops (gave v r) loop).1 is_main);
      posted_is = λ m i e. posted_on id v (gave v r) m i refl (mine.posted_is m i e);
      claimed = λ loop. absurd ((loop_real h loops (gave v r) loop).1 is_main);
      main = λ _. record {
        given_is = ap (λ (g : List (ℕ × ℕ)). (r, 0) ∷ g) old.given_is;
        joined_is = old.joined_is;
        numbers_is = old.numbers_is;
        kept_is = old.kept_is;
        live_is = old.live_is;
        live_has = old.live_has;
        live_origin = old.live_origin;
        posted_has = old.posted_has;
      };
    }

    newcomer_now : Knows h loops (given_to rule.truth r (length s.views)) (length s.homes) (length s.views) (newcomer v r)
    newcomer_now = record {
      base = record {
        loops_is = λ _. mine.base.loops_is real;
        seat_is = λ _. put_here rule.truth.seat_of r (length s.views);
        was_given = λ _ _. (has_new r 0 rule.truth.given, not_joined);
        within = λ k e. absurd (cc);
        holds = λ k e. absurd (cc);
        held_here = λ k e. absurd (let lt = rule.seated k (length s.views) e in omega arith);
        hand_is = λ k i e. absurd (cc);
      };
      hand_loop = λ loop k i e. absurd (cc);
      posted_is = λ m i e. absurd (cc);
      claimed = λ loop m e. absurd (true≢false (sym (subst (λ (x : ℕ). has x rule.truth.given ≡ true) e (rule.each_begun m (λ z. let y : r ≡ 0 = sym e ∙ z in absurd (omega arith))).given) ∙ not_given));
      main = λ one. absurd (let z : r ≡ 1 = one in omega arith);
    }

    others : (j : ℕ) (u : V) → j ≢ id → get_elem? s.views j ≡ some u → Knows h loops rule.truth (length s.homes) j u → Knows h loops (given_to rule.truth r (length s.views)) (length s.homes) j u
    others j u apart there old =
        let not_main : u.role ≢ 1 = λ e. apart (one_seat h loops s rule j id u v there at (e ∙ sym is_main) real) in record {
          base = record {
            loops_is = old.base.loops_is;
            seat_is = λ n. put_else rule.truth.seat_of r (length s.views) u.role (other_role u.role (inr (old.base.was_given n not_main).0)) ∙ old.base.seat_is n;
            was_given = λ n m. let it = old.base.was_given n m in (has_kept_on r u.role 0 rule.truth.given it.0, it.1);
            within = old.base.within;
            holds = old.base.holds;
            held_here = old.base.held_here;
            hand_is = old.base.hand_is;
          };
          hand_loop = old.hand_loop;
          posted_is = λ m i e. posted_on j u u m i refl (old.posted_is m i e);
          claimed = old.claimed;
          main = λ e. absurd (not_main e);
        }

    fact_on : (k : ℕ) (f : O × M) → FactIs h loops rule.truth s.views k f → FactIs h loops (given_to rule.truth r (length s.views)) (set s.views id (gave v r) ++ newcomer v r ∷ []) k f
    fact_on k f old = record {
      low = old.low;
      its_loop = old.its_loop;
      unclaimed = old.unclaimed;
      told = λ a lt y. told_on (h.number f.0) a (old.told a lt y);
      back = λ g e. old.back g e ∙ ap held (sym (put_else rule.truth.seat_of r (length s.views) 1 (other_role 1 (inl refl))));
    }

    role_on : (q : ℕ) → q ≢ r → ((u : V) × (get_elem? s.views (rule.truth.seat_of q) ≡ some u) × (u.role ≡ q)) → (u : V) × (get_elem? (set s.views id (gave v r) ++ newcomer v r ∷ []) (put rule.truth.seat_of r (length s.views) q) ≡ some u) × (u.role ≡ q)
    role_on q ne it = subst (λ (j : ℕ). (u : V) × (get_elem? (set s.views id (gave v r) ++ newcomer v r ∷ []) j ≡ some u) × (u.role ≡ q)) (sym (put_else rule.truth.seat_of r (length s.views) q ne))
        (dite (ℕ_discrete (rule.truth.seat_of q) id)
        (λ same. let is : v ≡ it.0 = is_same v it.0 (sym at ∙ (ap (λ (j : ℕ). get_elem? s.views j) (sym same) ∙ it.1)) in
        (gave v r, ap (λ (j : ℕ). get_elem? (set s.views id (gave v r) ++ newcomer v r ∷ []) j) same ∙ main_there, ap (λ (u : V). u.role) is ∙ it.2))
        (λ apart. (it.0, on_views (rule.truth.seat_of q) it.0 apart it.1, it.2)))

    new_role : (u : V) × (get_elem? (set s.views id (gave v r) ++ newcomer v r ∷ []) (put rule.truth.seat_of r (length s.views) r) ≡ some u) × (u.role ≡ r)
    new_role = subst (λ (j : ℕ). (u : V) × (get_elem? (set s.views id (gave v r) ++ newcomer v r ∷ []) j ≡ some u) × (u.role ≡ r)) (long ∙ sym (put_here rule.truth.seat_of r (length s.views)))
        (newcomer v r, last_end (set s.views id (gave v r)) (newcomer v r), refl)

    split_rule : Rule h loops record { words = s.words; homes = s.homes; views = set s.views id (gave v r) ++ newcomer v r ∷ [] }
    split_rule = record {
      truth = given_to rule.truth r (length s.views);
      wide = rule.wide;
      seated = λ q j e. let lt = rule.seated q j e in let l = long in omega (arith, length-append (set s.views id (gave v r)) (newcomer v r ∷ []), length-set s.views id (gave v r));
      each_slot = rule.each_slot;
      each_view = λ j u e. ⊎_elim
          (λ (z : get_elem? (set s.views id (gave v r)) j ≡ some u). ⊎_elim
          (λ (y : (j ≡ id) × (gave v r ≡ u)). subst (λ (x : ℕ × V). Knows h loops (given_to rule.truth r (length s.views)) (length s.homes) x.0 x.1) (λ i. (sym y.0 i, y.1 i)) main_now)
          (λ (y : (j ≢ id) × (get_elem? s.views j ≡ some u)). others j u y.0 y.1 (rule.each_view j u y.1))
          (at_set s.views id j (gave v r) u z))
          (λ (y : (j ≡ length (set s.views id (gave v r))) × (newcomer v r ≡ u)). subst (λ (x : ℕ × V). Knows h loops (given_to rule.truth r (length s.views)) (length s.homes) x.0 x.1) (λ i. (sym (y.0 ∙ long) i, y.1 i)) newcomer_now)
          (at_end (set s.views id (gave v r)) (newcomer v r) u j e);
      each_role = λ q g. dite (ℕ_discrete q r)
          (λ e. subst (λ (x : ℕ). (u : V) × (get_elem? (set s.views id (gave v r) ++ newcomer v r ∷ []) (put rule.truth.seat_of r (length s.views) x) ≡ some u) × (u.role ≡ x)) (sym e) new_role)
          (λ ne. role_on q ne (rule.each_role q (⊎_elim (λ one. inl one) (λ (y : (has q ((r, 0) ∷ rule.truth.given) ≡ true) × (has q rule.truth.joined ≡ false)). inr (sym (has_old r q 0 rule.truth.given ne) ∙ y.0, y.1)) g)));
      joined_given = λ q e. let it = rule.joined_given q e in (has_kept_on r q 0 rule.truth.given it.0, it.1);
      each_begun = λ m n. let old = rule.each_begun m n in record { low = old.low; loop = old.loop; given = has_kept_on r (rule.truth.begun m) 0 rule.truth.given old.given };
      falling = rule.falling;
      each_fact = λ k f e. fact_on k f (rule.each_fact k f e);
      once = rule.once;
      each_kept = λ m g e. let old = rule.each_kept m g e in record { low = old.low; unclaimed = old.unclaimed; told = λ a lt y. told_on m a (old.told a lt y) };
    }

  pub splits : (id r : ℕ) (v : V) → v.role ≡ 1 → 2 ≤ r → has r v.given ≡ false → Splits (Rule h loops) id v (gave v r) (newcomer v r)
  splits id r v is_main new unused s rule at = split_rule id r v is_main new unused s rule at

  -- the role is joined
  abbrev joined_one : Truth O M → ℕ → Truth O M
  joined_one t r = record {
    place = t.place;
    facts = t.facts;
    seat_of = t.seat_of;
    given = t.given;
    joined = (r, 0) ∷ t.joined;
    numbers = t.numbers;
    kept = t.kept;
    begun = t.begun;
  }

  module _ (id other : ℕ) (v w : V) (is_main : v.role ≡ 1) (lives : w.role ≢ 0) (empty : w.hand ≡ []) (s : St h loops) (rule : Rule h loops s) (at : get_elem? s.views id ≡ some v) (apart : other ≢ id)
      (there : get_elem? s.views other ≡ some w) where
    v_real : v.role ≢ 0
    v_real e = absurd (let z : 1 ≡ 0 = sym is_main ∙ e in omega arith)

    w_role : w.role ≢ 1
    w_role e = apart (one_seat h loops s rule other id w v there at (e ∙ sym is_main) v_real)

    ours : Knows h loops rule.truth (length s.homes) id v
    ours = rule.each_view id v at

    theirs : Knows h loops rule.truth (length s.homes) other w
    theirs = rule.each_view other w there

    after : List V
    after = set (set s.views id (joined_with v w)) other spent_view

    main_still : get_elem? (set (set s.views id (joined_with v w)) other spent_view) id ≡ some (joined_with v w)
    main_still = set_else (set s.views id (joined_with v w)) other id spent_view (λ z. apart (sym z)) ∙ set_here s.views id (joined_with v w) (at_lt s.views id v at)

    still : (j : ℕ) (u : V) → j ≢ id → j ≢ other → get_elem? s.views j ≡ some u → get_elem? (set (set s.views id (joined_with v w)) other spent_view) j ≡ some u
    still j u a b e = set_else (set s.views id (joined_with v w)) other j spent_view b ∙ (set_else s.views id j (joined_with v w) a ∙ e)

    told_kept : (m a : ℕ) → Told s.views m a → Told (set (set s.views id (joined_with v w)) other spent_view) m a
    told_kept m a it = dite (ℕ_discrete it.0 id)
        (λ same. let is : v ≡ it.1 = is_same v it.1 (sym at ∙ (ap (λ (j : ℕ). get_elem? s.views j) (sym same) ∙ it.2)) in
        (id, joined_with v w, main_still, told_second m a w.told v.told (subst (λ (u : V). is_told m a u.told ≡ true) (sym is) it.3)))
        (λ a'. dite (ℕ_discrete it.0 other)
        (λ same. let is : w ≡ it.1 = is_same w it.1 (sym there ∙ (ap (λ (j : ℕ). get_elem? s.views j) (sym same) ∙ it.2)) in
        (id, joined_with v w, main_still, told_first m a w.told v.told (subst (λ (u : V). is_told m a u.told ≡ true) (sym is) it.3)))
        (λ b'. (it.0, it.1, still it.0 it.1 a' b' it.2, it.3)))

    nothing_held : (k : ℕ) → rule.truth.place k ≡ held other → ⊥
    nothing_held k e = true≢false (sym (theirs.base.held_here k e) ∙ ap (λ (l : List (ℕ × Option (O × M))). has k l) empty)

    joined_more : (q : ℕ) → has q rule.truth.joined ≡ true → has q ((w.role, 0) ∷ rule.truth.joined) ≡ true
    joined_more q e = has_kept_on w.role q 0 rule.truth.joined e

    posted_same : (j : ℕ) (u u' : V) (m : ℕ) (i : O × M) → u'.role ≡ u.role → PostedIs h loops rule.truth j u m i → PostedIs h loops (joined_one rule.truth w.role) j u' m i
    posted_same j u u' m i same old = record {
      low = old.low;
      owner = ⊎_elim (λ e. inl (same ∙ e)) (λ (y : (u.role ≡ 1) × (has (loop_role h loops i.0) rule.truth.joined ≡ true)). inr (same ∙ y.0, joined_more (loop_role h loops i.0) y.1)) old.owner;
      since = λ k f e num away. old.since k f e num (λ n z. away (λ x. n (sym same ∙ x)) z);
      kept = old.kept;
    }

    -- what the loop published, in main's view
    posted_theirs : (m : ℕ) (i : O × M) → PostedIs h loops rule.truth other w m i → PostedIs h loops (joined_one rule.truth w.role) id (joined_with v w) m i
    posted_theirs m i old = record {
      low = old.low;
      owner = ⊎_elim
          (λ e. inr (is_main, subst (λ (q : ℕ). has q ((w.role, 0) ∷ rule.truth.joined) ≡ true) e (has_new w.role 0 rule.truth.joined)))
          (λ (y : (w.role ≡ 1) × (has (loop_role h loops i.0) rule.truth.joined ≡ true)). absurd (w_role y.0)) old.owner;
      since = λ k f e num _. old.since k f e num (λ _ z. nothing_held k z);
      kept = old.kept;
    }

    joined_now : Knows h loops (joined_one rule.truth w.role) (length s.homes) id (joined_with v w)
    joined_now = let old = ours.main is_main in record {
      base = record {
        loops_is = ours.base.loops_is;
        seat_is = ours.base.seat_is;
        was_given = λ _ n. absurd (n is_main);
        within = ours.base.within;
        holds = ours.base.holds;
        held_here = ours.base.held_here;
        hand_is = ours.base.hand_is;
      };
      hand_loop = λ loop. absurd ((loop_real h loops (joined_with v w) loop).1 is_main);
      posted_is = λ m i e. ⊎_elim
          (λ z. posted_theirs m i (theirs.posted_is m i z))
          (λ z. posted_same id v (joined_with v w) m i refl (ours.posted_is m i z))
          (found_joined m i w.posted v.posted e);
      claimed = λ loop. absurd ((loop_real h loops (joined_with v w) loop).1 is_main);
      main = λ _. record {
        given_is = old.given_is;
        joined_is = ap (λ (g : List (ℕ × ℕ)). (w.role, 0) ∷ g) old.joined_is;
        numbers_is = old.numbers_is;
        kept_is = old.kept_is;
        live_is = old.live_is;
        live_has = old.live_has;
        live_origin = old.live_origin;
        posted_has = λ m e. dite (ℕ_discrete (rule.truth.begun m) w.role)
            (λ same. let it = rule.each_begun m (λ z. lives (sym same ∙ z)) in
            has_first m w.posted v.posted (⊎_elim (λ y. y)
            (λ (y : (k : ℕ) × (i : O × M) × (find k w.hand ≡ Some (Some i)) × (h.number i.0 ≡ m)). absurd (let z : find y.0 [] ≡ Some (Some y.1) = subst (λ (l : List (ℕ × Option (O × M))). find y.0 l ≡ Some (Some y.1)) empty y.2 in cc))
            (theirs.claimed (it.loop.0, sym same ∙ it.loop.1) m same)))
            (λ ne. has_second m w.posted v.posted (old.posted_has m (sym (has_old w.role (rule.truth.begun m) 0 rule.truth.joined ne) ∙ e)));
      };
    }

    spent_now : Knows h loops (joined_one rule.truth w.role) (length s.homes) other spent_view
    spent_now = record {
      base = record {
        loops_is = λ n. absurd (n refl);
        seat_is = λ n. absurd (n refl);
        was_given = λ n. absurd (n refl);
        within = λ k e. absurd (cc);
        holds = λ k e. absurd (cc);
        held_here = λ k e. absurd (nothing_held k e);
        hand_is = λ k i e. absurd (cc);
      };
      hand_loop = λ loop k i e. absurd (cc);
      posted_is = λ m i e. absurd (cc);
      claimed = λ loop. absurd ((loop_real h loops spent_view loop).0 refl);
      main = λ e. absurd (let z : 0 ≡ 1 = e in omega arith);
    }

    others_still : (j : ℕ) (u : V) → j ≢ id → j ≢ other → get_elem? s.views j ≡ some u → Knows h loops rule.truth (length s.homes) j u → Knows h loops (joined_one rule.truth w.role) (length s.homes) j u
    others_still j u a b here old = record {
      base = record {
        loops_is = old.base.loops_is;
        seat_is = old.base.seat_is;
        was_given = λ n m. let it = old.base.was_given n m in (it.0, has_old w.role u.role 0 rule.truth.joined (λ e. b (one_seat h loops s rule j other u w here there e lives)) ∙ it.1);
        within = old.base.within;
        holds = old.base.holds;
        held_here = old.base.held_here;
        hand_is = old.base.hand_is;
      };
      hand_loop = old.hand_loop;
      posted_is = λ m i e. posted_same j u u m i refl (old.posted_is m i e);
      claimed = old.claimed;
      main = λ e. absurd (a (one_seat h loops s rule j id u v here at (e ∙ sym is_main) v_real));
    }

    role_still : (q : ℕ) → q ≢ w.role → ((u : V) × (get_elem? s.views (rule.truth.seat_of q) ≡ some u) × (u.role ≡ q)) → (u : V) × (get_elem? (set (set s.views id (joined_with v w)) other spent_view) (rule.truth.seat_of q) ≡ some u) × (u.role ≡ q)
    role_still q ne it = dite (ℕ_discrete (rule.truth.seat_of q) id)
        (λ same. let is : v ≡ it.0 = is_same v it.0 (sym at ∙ (ap (λ (j : ℕ). get_elem? s.views j) (sym same) ∙ it.1)) in
        (joined_with v w, ap (λ (j : ℕ). get_elem? (set (set s.views id (joined_with v w)) other spent_view) j) same ∙ main_still, ap (λ (u : V). u.role) is ∙ it.2))
        (λ a. dite (ℕ_discrete (rule.truth.seat_of q) other)
        (λ same. let is : w ≡ it.0 = is_same w it.0 (sym there ∙ (ap (λ (j : ℕ). get_elem? s.views j) (sym same) ∙ it.1)) in absurd (ne (sym (ap (λ (u : V). u.role) is ∙ it.2))))
        (λ b. (it.0, still (rule.truth.seat_of q) it.0 a b it.1, it.2)))

    join_rule : Rule h loops record { words = s.words; homes = s.homes; views = set (set s.views id (joined_with v w)) other spent_view }
    join_rule = record {
      truth = joined_one rule.truth w.role;
      wide = rule.wide;
      seated = λ q j e. let lt = rule.seated q j e in omega (arith, length-set (set s.views id (joined_with v w)) other spent_view, length-set s.views id (joined_with v w));
      each_slot = rule.each_slot;
      each_view = λ j u e. ⊎_elim
          (λ (y : (j ≡ other) × (spent_view ≡ u)). subst (λ (x : ℕ × V). Knows h loops (joined_one rule.truth w.role) (length s.homes) x.0 x.1) (λ i. (sym y.0 i, y.1 i)) spent_now)
          (λ (y : (j ≢ other) × (get_elem? (set s.views id (joined_with v w)) j ≡ some u)). ⊎_elim
          (λ (z : (j ≡ id) × (joined_with v w ≡ u)). subst (λ (x : ℕ × V). Knows h loops (joined_one rule.truth w.role) (length s.homes) x.0 x.1) (λ i. (sym z.0 i, z.1 i)) joined_now)
          (λ (z : (j ≢ id) × (get_elem? s.views j ≡ some u)). others_still j u z.0 y.0 z.1 (rule.each_view j u z.1))
          (at_set s.views id j (joined_with v w) u y.1))
          (at_set (set s.views id (joined_with v w)) other j spent_view u e);
      each_role = λ q g. ⊎_elim
          (λ one. role_still q (λ e. w_role (sym e ∙ one)) (rule.each_role q (inl one)))
          (λ (y : (has q rule.truth.given ≡ true) × (has q ((w.role, 0) ∷ rule.truth.joined) ≡ false)).
          let ne : q ≢ w.role = λ e. true≢false (sym (subst (λ (x : ℕ). has x ((w.role, 0) ∷ rule.truth.joined) ≡ true) (sym e) (has_new w.role 0 rule.truth.joined)) ∙ y.1) in
          role_still q ne (rule.each_role q (inr (y.0, sym (has_old w.role q 0 rule.truth.joined ne) ∙ y.1)))) g;
      joined_given = λ q e. dite (ℕ_discrete q w.role)
          (λ same. (subst (λ (x : ℕ). has x rule.truth.given ≡ true) (sym same) (theirs.base.was_given lives w_role).0, let n : ℕ = w.role in let a = lives in let b = w_role in two_up q w.role same lives w_role))
          (λ ne. rule.joined_given q (sym (has_old w.role q 0 rule.truth.joined ne) ∙ e));
      each_begun = λ m n. let old = rule.each_begun m n in record { low = old.low; loop = old.loop; given = old.given };
      falling = rule.falling;
      each_fact = λ k f e. let old = rule.each_fact k f e in record { low = old.low; its_loop = old.its_loop; unclaimed = old.unclaimed; told = λ a lt y. told_kept (h.number f.0) a (old.told a lt y); back = old.back };
      once = rule.once;
      each_kept = λ m g e. let old = rule.each_kept m g e in record { low = old.low; unclaimed = old.unclaimed; told = λ a lt y. told_kept m a (old.told a lt y) };
    }
      where
        two_up : (q n : ℕ) → q ≡ n → n ≢ 0 → n ≢ 1 → 2 ≤ q
        two_up q zero e a b = absurd (a refl)
        two_up q (suc zero) e a b = absurd (b refl)
        two_up q (suc (suc n)) e a b = omega arith

  pub joins : (id other : ℕ) (v w : V) → v.role ≡ 1 → w.role ≢ 0 → w.hand ≡ [] → Joins (Rule h loops) id v other w (joined_with v w) spent_view
  joins id other v w is_main lives empty s rule at apart there = join_rule id other v w is_main lives empty s rule at apart (sym (set_else s.views id other (joined_with v w) apart) ∙ there)
