-- One word, one place and one view change, and the rule stays.
use Rattle.std.proofs.Common.{◌≡◌, ◌≢◌, ◌⊎◌, ℕ, ◌+◌, ◌*◌, ◌<◌, ◌≤◌, List, length, get_or, set, Some, Option, true, false, true≢false, refl, sym, ap, ◌∙◌, subst, ⊎_elim, arith, length-set, get_or-set_other, get_or-set_same}
use Rattle.std.specs.Prelude.{slice_index, is_some}
use mathlib.Core.Option.{some, none}
use mathlib.Core.Option as maybe
use mathlib.Core.Logic.{dite}
use native.Mathlib.Decide.{ℕ_discrete}
use lib.ListN.{get_elem?}
use Rattle.atomic_table.specs.Table.{State, Me, Act, keeps, Valid, stepped, carried_after}
use Rattle.atomic_table.proofs.Lists.{at_set, set_here, set_else, set_again}
use Rattle.tow_board.specs.declared.view.View.{View}
use Rattle.tow_board.specs.Finds.{find, has}
use Rattle.tow_board.specs.Views.{top_of, is_told}
use Rattle.tow_board.specs.Rule.{Place, free, held, home, Kind, Truth, Falling, InPlace, loop_role, Continues, Told, IsLoop, FactIs, KeptIs, PostedIs, Holds, MainKnows, Knows, BoardRule}
use Rattle.tow_board.proofs.Lists.{put, put_here, put_else, put_same_key, at_put, at_lt, at_get, has_found}

pub held_apart : (i j : ℕ) → j ≢ i → held i ≢ held j
held_apart i j n e = n (let z : i ≡ j = cc in sym z)

pub is_free : (p : Place) → (p ≢ free → ⊥) → p ≡ free
is_free free n = refl
is_free (held j) n = absurd (n (λ e. cc))
is_free home n = absurd (n (λ e. cc))

module _ {O M : Type 0} where
  -- what there is, after one slot changed
  abbrev pub changed : Truth O M → ℕ → Place → Option (O × M) → List ℕ → List (ℕ × (O × M)) → (ℕ → ℕ) → Truth O M
  changed t k p f ns kept begun = record {
    place = put t.place k p;
    facts = put t.facts k f;
    seat_of = t.seat_of;
    given = t.given;
    joined = t.joined;
    numbers = ns;
    kept = kept;
    begun = begun;
  }

module _ {T O M : Type 0} (h : Kind T O M) (loops : ℕ) where
  abbrev pub V : Type 0
  V = View O M

  abbrev pub St : Type 0
  St = State (Option T) V

  abbrev pub Rule : St → Type 0
  Rule = BoardRule h loops

  -- what a step on the word of slot k owes, where the slot goes to the place p with the facts f
  pub record Moves (s : St) (r : Rule s) (id k word : ℕ) (v w : V) (p : Place) (f : Option (O × M)) (ns : List ℕ) (kept : List (ℕ × (O × M))) (begun : ℕ → ℕ) (homes : List (maybe.Option (Option T))) : Type 0 where
    pub near : k < length s.homes
    pub at : get_elem? s.views id ≡ some v
    pub real : v.role ≢ 0
    pub role_same : w.role ≡ v.role
    pub as_long : length homes ≡ length s.homes
    pub rows : (q : ℕ) → q ≢ k → get_elem? homes q ≡ get_elem? s.homes q
    pub here : InPlace h loops word (get_elem? homes k) f p
    pub loose : (j : ℕ) → j ≢ id → p ≢ held j
    pub was : (j : ℕ) → j ≢ id → r.truth.place k ≢ held j
    pub not_main : v.role ≢ 1 → (ns ≡ r.truth.numbers) × (kept ≡ r.truth.kept) × (p ≡ free → r.truth.place k ≡ free) × (p ≢ free → r.truth.place k ≢ free)
    pub origin_same : v.role ≢ 1 → (g : O × M) → f ≡ Some g → (i : O × M) × (r.truth.facts k ≡ Some i) × (i.0 ≡ g.0)
    pub higher : top_of r.truth.numbers ≤ top_of ns
    pub falls : Falling ns
    pub begins : (m : ℕ) → (begun m ≡ r.truth.begun m) ⊎ ((r.truth.begun m ≡ 0) × (begun m ≡ v.role) × IsLoop v × (m < top_of r.truth.numbers))
    pub elsewhere : (m : ℕ) → ((g : O × M) → r.truth.facts k ≡ Some g → h.number g.0 ≢ m) → (begun m ≡ r.truth.begun m) × (find m kept ≡ find m r.truth.kept)
    pub tells_on : (m a : ℕ) → is_told m a v.told ≡ true → is_told m a w.told ≡ true
    pub fact : (g : O × M) → f ≡ Some g → FactIs h loops (changed r.truth k p f ns kept begun) (set s.views id w) k g
    pub new_number : (g : O × M) → f ≡ Some g → (q : ℕ) (i : O × M) → q ≢ k → r.truth.facts q ≡ Some i → h.number g.0 ≢ h.number i.0
    pub keeps_on : (m : ℕ) (g : O × M) → find m kept ≡ Some g → KeptIs h loops (changed r.truth k p f ns kept begun) (set s.views id w) m g
    pub posted_on : (j : ℕ) (u : V) → j ≢ id → get_elem? s.views j ≡ some u → (m : ℕ) (i : O × M) → find m u.posted ≡ Some i → PostedIs h loops r.truth j u m i
        → ((g : O × M) → f ≡ Some g → h.number g.0 ≡ m → Continues h.follows g i) × ((g : O × M) → find m kept ≡ Some g → Continues h.follows g i)
    pub mine : Knows h loops (changed r.truth k p f ns kept begun) (length s.homes) id w

  -- a view that has no part in the change: what it published
  pub posted_still : (t : Truth O M) (k j : ℕ) (p : Place) (f : Option (O × M)) (ns : List ℕ) (kept : List (ℕ × (O × M))) (begun : ℕ → ℕ) (u u' : V) (m : ℕ) (i : O × M)
      → u'.role ≡ u.role → top_of t.numbers ≤ top_of ns → PostedIs h loops t j u m i
      → ((g : O × M) → f ≡ Some g → h.number g.0 ≡ m → (u.role ≢ 1 → p ≢ held j) → Continues h.follows g i) → ((g : O × M) → find m kept ≡ Some g → Continues h.follows g i)
      → PostedIs h loops (changed t k p f ns kept begun) j u' m i
  posted_still t k j p f ns kept begun u u' m i same higher old at_k in_kept = record {
    low = let lt = old.low in omega arith;
    owner = subst (λ (r : ℕ). (r ≡ loop_role h loops i.0) ⊎ ((r ≡ 1) × (has (loop_role h loops i.0) t.joined ≡ true))) (sym same) old.owner;
    since = λ q g e num away. dite (ℕ_discrete q k)
        (λ here. at_k g (sym (put_same_key t.facts k f q here) ∙ e) num (λ no z. away (λ x. no (sym same ∙ x)) (put_same_key t.place k p q here ∙ z)))
        (λ ne. old.since q g (sym (put_else t.facts k f q ne) ∙ e) num (λ no z. away (λ x. no (sym same ∙ x)) (put_else t.place k p q ne ∙ z)));
    kept = in_kept;
  }

  -- two live views with one role are one
  pub one_seat : (s : St) (r : Rule s) (i j : ℕ) (u v : V) → get_elem? s.views i ≡ some u → get_elem? s.views j ≡ some v → u.role ≡ v.role → v.role ≢ 0 → i ≡ j
  one_seat s r i j u v a b same real = sym ((r.each_view i u a).base.seat_is (λ z. real (sym same ∙ z))) ∙ (ap r.truth.seat_of same ∙ (r.each_view j v b).base.seat_is real)

  pub loop_real : (v : V) → IsLoop v → (v.role ≢ 0) × (v.role ≢ 1)
  loop_real v it = let l : ℕ = it.0 in let e : v.role ≡ 2 + 2 * l = it.1 in ((λ z. absurd (omega arith)), (λ z. absurd (omega arith)))

  pub told_stays : (views : List V) (id : ℕ) (v w : V) → get_elem? views id ≡ some v → ((m a : ℕ) → is_told m a v.told ≡ true → is_told m a w.told ≡ true) → (m a : ℕ) → Told views m a → Told (set views id w) m a
  told_stays views id v w at on m a it = dite (ℕ_discrete it.0 id)
      (λ same. let is : v ≡ it.1 = (let z : some v ≡ some it.1 = sym at ∙ (ap (λ (j : ℕ). get_elem? views j) (sym same) ∙ it.2) in cc) in
      (id, w, set_here views id w (at_lt views id v at), on m a (subst (λ (x : V). is_told m a x.told ≡ true) (sym is) it.3)))
      (λ apart. (it.0, it.1, set_else views id it.0 w apart ∙ it.2, it.3))

  pub moved : (s : St) (r : Rule s) (id k word : ℕ) (v w : V) (p : Place) (f : Option (O × M)) (ns : List ℕ) (kept : List (ℕ × (O × M))) (begun : ℕ → ℕ) (homes : List (maybe.Option (Option T)))
      → Moves s r id k word v w p f ns kept begun homes → Rule record { words = set s.words k word; homes = homes; views = set s.views id w }
  moved s r id k word v w p f ns kept begun homes d = record {
    truth = t';
    wide = length-set s.words k word ∙ (r.wide ∙ sym d.as_long);
    seated = λ q j. at_put t.place k p q (λ x. x ≡ held j → j < length (set s.views id w))
        (λ _ e. dite (ℕ_discrete j id)
        (λ same. subst (λ (m : ℕ). j < m) (sym (length-set s.views id w)) (subst (λ (m : ℕ). m < length s.views) (sym same) (at_lt s.views id v d.at)))
        (λ ne. absurd (d.loose j ne e)))
        (λ _ e. subst (λ (m : ℕ). j < m) (sym (length-set s.views id w)) (r.seated q j e));
    each_slot = slot;
    each_view = λ j u e. subst (λ (m : ℕ). Knows h loops t' m j u) (sym d.as_long) (⊎_elim
        (λ (x : (j ≡ id) × (w ≡ u)). subst (λ (y : ℕ × V). Knows h loops t' (length s.homes) y.0 y.1) (λ i. (sym x.0 i, x.1 i)) d.mine)
        (λ (x : (j ≢ id) × (get_elem? s.views j ≡ some u)). others j u x.0 x.1 (r.each_view j u x.1))
        (at_set s.views id j w u e));
    each_role = λ q g. let it = r.each_role q g in dite (ℕ_discrete (t.seat_of q) id)
        (λ same. let is : v ≡ it.0 = (let z : some v ≡ some it.0 = sym d.at ∙ (ap (λ (j : ℕ). get_elem? s.views j) (sym same) ∙ it.1) in cc) in
        (w, ap (λ (j : ℕ). get_elem? (set s.views id w) j) same ∙ set_here s.views id w (at_lt s.views id v d.at), d.role_same ∙ (ap (λ (x : V). x.role) is ∙ it.2)))
        (λ apart. (it.0, set_else s.views id (t.seat_of q) w apart ∙ it.1, it.2));
    joined_given = r.joined_given;
    each_begun = λ m n. ⊎_elim
        (λ e. let old = r.each_begun m (λ z. n (e ∙ z)) in let hi = d.higher in let lt = old.low in
        record { low = omega arith; loop = (old.loop.0, e ∙ old.loop.1); given = subst (λ (x : ℕ). has x t.given ≡ true) (sym e) old.given })
        (λ (x : (t.begun m ≡ 0) × (begun m ≡ v.role) × IsLoop v × (m < top_of r.truth.numbers)). let hi = d.higher in let lt = x.3 in
        record { low = omega arith; loop = (x.2.0, x.1 ∙ x.2.1); given = subst (λ (y : ℕ). has y t.given ≡ true) (sym x.1) (known.base.was_given d.real (loop_real v x.2).1).0 })
        (d.begins m);
    falling = d.falls;
    each_fact = λ q g e. dite (ℕ_discrete q k)
        (λ here. subst (λ (i : ℕ). FactIs h loops t' (set s.views id w) i g) (sym here) (d.fact g (sym (put_same_key t.facts k f q here) ∙ e)))
        (λ ne. facts_else q g ne (sym (put_else t.facts k f q ne) ∙ e));
    once = λ a b g i ea eb e. dite (ℕ_discrete a k)
        (λ sa. dite (ℕ_discrete b k) (λ sb. sa ∙ sym sb)
        (λ nb. absurd (d.new_number g (sym (put_same_key t.facts k f a sa) ∙ ea) b i nb (sym (put_else t.facts k f b nb) ∙ eb) e)))
        (λ na. dite (ℕ_discrete b k)
        (λ sb. absurd (d.new_number i (sym (put_same_key t.facts k f b sb) ∙ eb) a g na (sym (put_else t.facts k f a na) ∙ ea) (sym e)))
        (λ nb. r.once a b g i (sym (put_else t.facts k f a na) ∙ ea) (sym (put_else t.facts k f b nb) ∙ eb) e));
    each_kept = d.keeps_on;
  }
    where
      t : Truth O M
      t = r.truth

      t' : Truth O M
      t' = changed r.truth k p f ns kept begun

      known : Knows h loops r.truth (length s.homes) id v
      known = r.each_view id v d.at

      slot : (q : ℕ) → q < length homes → InPlace h loops (get_or (set s.words k word) q 0) (get_elem? homes q) (put r.truth.facts k f q) (put r.truth.place k p q)
      slot q lt = dite (ℕ_discrete q k)
          (λ e. subst (λ (i : ℕ). InPlace h loops (get_or (set s.words k word) i 0) (get_elem? homes i) (put r.truth.facts k f i) (put r.truth.place k p i)) (sym e)
          (subst (λ (x : ℕ × (Option (O × M) × Place)). InPlace h loops x.0 (get_elem? homes k) x.1.0 x.1.1) (λ i. (sym (get_or-set_same s.words k word 0 (subst (λ (m : ℕ). k < m) (sym r.wide) d.near)) i, (sym (put_here r.truth.facts k f) i, sym (put_here r.truth.place k p) i))) d.here))
          (λ ne. subst (λ (x : (ℕ × maybe.Option (maybe.Option (Option T))) × (Option (O × M) × Place)). InPlace h loops x.0.0 x.0.1 x.1.0 x.1.1)
          (λ i. ((sym (get_or-set_other s.words k q word 0 ne) i, sym (d.rows q ne) i), (sym (put_else r.truth.facts k f q ne) i, sym (put_else r.truth.place k p q ne) i)))
          (r.each_slot q (subst (λ (m : ℕ). q < m) d.as_long lt)))

      facts_else : (q : ℕ) (g : O × M) → q ≢ k → r.truth.facts q ≡ Some g → FactIs h loops (changed r.truth k p f ns kept begun) (set s.views id w) q g
      facts_else q g ne e =
          let old = r.each_fact q g e in
          let other = d.elsewhere (h.number g.0) (λ i there num. ne (r.once q k g i e there (sym num))) in record {
            low = let lt = old.low in let hi = d.higher in omega arith;
            its_loop = λ n. other.0 ∙ old.its_loop (λ z. n (other.0 ∙ z));
            unclaimed = λ z. old.unclaimed (sym other.0 ∙ z);
            told = λ a lt yes'. told_stays s.views id v w d.at d.tells_on (h.number g.0) a (old.told a lt yes');
            back = λ i there. put_else r.truth.place k p q ne ∙ old.back i (sym other.1 ∙ there);
          }

      -- what began, began before or with the seat that steps
      before : (j : ℕ) (u : V) (m : ℕ) → j ≢ id → get_elem? s.views j ≡ some u → begun m ≡ u.role → r.truth.begun m ≡ u.role
      before j u m apart there e = ⊎_elim
          (λ same. sym same ∙ e)
          (λ (x : (r.truth.begun m ≡ 0) × (begun m ≡ v.role) × IsLoop v × (m < top_of r.truth.numbers)). absurd (apart (one_seat s r j id u v there d.at (sym e ∙ x.1) d.real)))
          (d.begins m)

      others_base : (j : ℕ) (u : V) → j ≢ id → Holds h loops r.truth (length s.homes) j u → Holds h loops (changed r.truth k p f ns kept begun) (length s.homes) j u
      others_base j u apart old = record {
        loops_is = old.loops_is;
        seat_is = old.seat_is;
        was_given = old.was_given;
        within = old.within;
        holds = λ q has_it. at_put r.truth.place k p q (λ x. x ≡ held j) (λ e. absurd (d.was j apart (subst (λ (i : ℕ). r.truth.place i ≡ held j) e (old.holds q has_it)))) (λ _. old.holds q has_it);
        held_here = λ q. at_put r.truth.place k p q (λ x. x ≡ held j → has q u.hand ≡ true) (λ _ e. absurd (d.loose j apart e)) (λ _. old.held_here q);
        hand_is = λ q i there. dite (ℕ_discrete q k)
            (λ e. absurd (d.was j apart (subst (λ (m : ℕ). r.truth.place m ≡ held j) e (old.holds q (has_found q i u.hand there)))))
            (λ ne. put_else r.truth.facts k f q ne ∙ old.hand_is q i there);
      }

      others_main : (j : ℕ) (u : V) → j ≢ id → get_elem? s.views j ≡ some u → u.role ≡ 1 → MainKnows h loops r.truth (length s.homes) u → MainKnows h loops (changed r.truth k p f ns kept begun) (length s.homes) u
      others_main j u apart there main old =
          let no : v.role ≢ 1 = λ its. apart (one_seat s r j id u v there d.at (main ∙ sym its) d.real) in
          let same = d.not_main no in record {
            given_is = old.given_is;
            joined_is = old.joined_is;
            numbers_is = old.numbers_is ∙ sym same.0;
            kept_is = old.kept_is ∙ sym same.1;
            live_is = λ q lt. at_put r.truth.place k p q (λ x. x ≡ free → has q u.live ≡ false) (λ e z. old.live_is q lt (subst (λ (i : ℕ). r.truth.place i ≡ free) (sym e) (same.2 z))) (λ _. old.live_is q lt);
            live_has = λ q lt. at_put r.truth.place k p q (λ x. x ≢ free → has q u.live ≡ true) (λ e z. old.live_has q lt (subst (λ (i : ℕ). r.truth.place i ≢ free) (sym e) (same.3 z))) (λ _. old.live_has q lt);
            live_origin = λ q g e. dite (ℕ_discrete q k)
                (λ here. let it = d.origin_same no g (sym (put_same_key r.truth.facts k f q here) ∙ e) in
                subst (λ (x : O). find q u.live ≡ Some (Some x)) it.2 (old.live_origin q it.0 (ap r.truth.facts here ∙ it.1)))
                (λ ne. old.live_origin q g (sym (put_else r.truth.facts k f q ne) ∙ e));
            posted_has = λ m yes'. ⊎_elim
                (λ e. old.posted_has m (subst (λ (x : ℕ). has x r.truth.joined ≡ true) e yes'))
                (λ (x : (r.truth.begun m ≡ 0) × (begun m ≡ v.role) × IsLoop v × (m < top_of r.truth.numbers)). absurd (true≢false (sym yes' ∙ (ap (λ (y : ℕ). has y r.truth.joined) x.1 ∙ (known.base.was_given d.real no).1))))
                (d.begins m);
          }

      others : (j : ℕ) (u : V) → j ≢ id → get_elem? s.views j ≡ some u → Knows h loops r.truth (length s.homes) j u → Knows h loops (changed r.truth k p f ns kept begun) (length s.homes) j u
      others j u apart there old = record {
        base = others_base j u apart old.base;
        hand_loop = λ loop q i e. let it = old.hand_loop loop q i e in (
          it.0,
          ⊎_elim
              (λ same. same ∙ it.1)
              (λ (x : (r.truth.begun (h.number i.0) ≡ 0) × (begun (h.number i.0) ≡ v.role) × IsLoop v × (h.number i.0 < top_of r.truth.numbers)). absurd ((loop_real u loop).0 (sym it.1 ∙ x.0)))
              (d.begins (h.number i.0)),
        );
        posted_is = λ m i e. let was' = old.posted_is m i e in let on = d.posted_on j u apart there m i e was' in
            posted_still r.truth k j p f ns kept begun u u m i refl d.higher was' (λ g z num _. on.0 g z num) on.1;
        claimed = λ loop m e. old.claimed loop m (before j u m apart there e);
        main = λ its. others_main j u apart there its (old.main its);
      }

  -- the seat has a new view and an act that keep the rule where the word k becomes n
  abbrev pub Goes : (s : St) → (k id : ℕ) → Me (Option T) V → (ℕ → Me (Option T) V → Type 0) → ℕ → Type 0
  Goes s k id me told n = (w : V) × (a : Act (Option T)) × Valid s.homes me.1 a × Rule (stepped s k n id me.1 w a) × told (slice_index s.words k) (w, carried_after me.1 a)

  -- a step that changes nothing
  pub stays : (s : St) (r : Rule s) (id k : ℕ) (me : Me (Option T) V) (told : ℕ → Me (Option T) V → Type 0) → get_elem? s.views id ≡ some me.0 → k < length s.homes → told (slice_index s.words k) me → Goes s k id me told (get_or s.words k 0)
  stays s r id k me told at near tells = (me.0, keeps, tt, same, tells)
    where
      same : Rule (stepped s k (get_or s.words k 0) id me.1 me.0 keeps)
      same = subst (λ (x : List ℕ × List V). Rule record { words = x.0; homes = s.homes; views = x.1 })
          (λ i. (sym (set_again s.words k (get_or s.words k 0) (at_get s.words k (subst (λ (m : ℕ). k < m) (sym r.wide) near))) i, sym (set_again s.views id me.0 at) i)) r

  -- the hand of the seat that steps, which gains the slot
  pub gains_hand : (t : Truth O M) (slots id k : ℕ) (f : Option (O × M)) (ns : List ℕ) (kept : List (ℕ × (O × M))) (begun : ℕ → ℕ) (v w : V)
      → k < slots → w.role ≡ v.role → w.loops ≡ v.loops → ((q : ℕ) → q ≢ k → find q w.hand ≡ find q v.hand) → find k w.hand ≡ Some f
      → Holds h loops t slots id v → Holds h loops (changed t k (held id) f ns kept begun) slots id w
  gains_hand t slots id k f ns kept begun v w near role same_loops hands there old =
      let hasq : (q : ℕ) → q ≢ k → has q w.hand ≡ has q v.hand = λ q ne. ap (λ (o : Option (Option (O × M))). is_some o) (hands q ne) in record {
        loops_is = λ n. same_loops ∙ old.loops_is (λ z. n (role ∙ z));
        seat_is = λ n. ap t.seat_of role ∙ old.seat_is (λ z. n (role ∙ z));
        was_given = λ n m. subst (λ (x : ℕ). (has x t.given ≡ true) × (has x t.joined ≡ false)) (sym role) (old.was_given (λ z. n (role ∙ z)) (λ z. m (role ∙ z)));
        within = λ q has_it. dite (ℕ_discrete q k) (λ e. subst (λ (m : ℕ). m < slots) (sym e) near) (λ ne. old.within q (sym (hasq q ne) ∙ has_it));
        holds = λ q has_it. at_put t.place k (held id) q (λ x. x ≡ held id) (λ _. refl) (λ ne. old.holds q (sym (hasq q ne) ∙ has_it));
        held_here = λ q. at_put t.place k (held id) q (λ x. x ≡ held id → has q w.hand ≡ true) (λ e _. subst (λ (m : ℕ). has m w.hand ≡ true) (sym e) (has_found k f w.hand there)) (λ ne e. hasq q ne ∙ old.held_here q e);
        hand_is = λ q i e. dite (ℕ_discrete q k)
            (λ here. put_same_key t.facts k f q here ∙ (let z : Some f ≡ Some i = sym there ∙ (ap (λ (m : ℕ). find m w.hand) (sym here) ∙ e) in cc))
            (λ ne. put_else t.facts k f q ne ∙ old.hand_is q i (sym (hands q ne) ∙ e));
      }

  -- the hand of the seat that steps, which loses the slot
  pub loses_hand : (t : Truth O M) (slots id k : ℕ) (p : Place) (f : Option (O × M)) (ns : List ℕ) (kept : List (ℕ × (O × M))) (begun : ℕ → ℕ) (v w : V)
      → p ≢ held id → w.role ≡ v.role → w.loops ≡ v.loops → ((q : ℕ) → q ≢ k → find q w.hand ≡ find q v.hand) → has k w.hand ≡ false
      → Holds h loops t slots id v → Holds h loops (changed t k p f ns kept begun) slots id w
  loses_hand t slots id k p f ns kept begun v w apart role same_loops hands gone old =
      let hasq : (q : ℕ) → q ≢ k → has q w.hand ≡ has q v.hand = λ q ne. ap (λ (o : Option (Option (O × M))). is_some o) (hands q ne) in
      let not_k : (q : ℕ) → has q w.hand ≡ true → q ≢ k = λ q has_it e. true≢false (sym (subst (λ (m : ℕ). has m w.hand ≡ true) e has_it) ∙ gone) in record {
        loops_is = λ n. same_loops ∙ old.loops_is (λ z. n (role ∙ z));
        seat_is = λ n. ap t.seat_of role ∙ old.seat_is (λ z. n (role ∙ z));
        was_given = λ n m. subst (λ (x : ℕ). (has x t.given ≡ true) × (has x t.joined ≡ false)) (sym role) (old.was_given (λ z. n (role ∙ z)) (λ z. m (role ∙ z)));
        within = λ q has_it. old.within q (sym (hasq q (not_k q has_it)) ∙ has_it);
        holds = λ q has_it. put_else t.place k p q (not_k q has_it) ∙ old.holds q (sym (hasq q (not_k q has_it)) ∙ has_it);
        held_here = λ q. at_put t.place k p q (λ x. x ≡ held id → has q w.hand ≡ true) (λ _ e. absurd (apart e)) (λ ne e. hasq q ne ∙ old.held_here q e);
        hand_is = λ q i e. let ne = not_k q (has_found q i w.hand e) in put_else t.facts k f q ne ∙ old.hand_is q i (sym (hands q ne) ∙ e);
      }
