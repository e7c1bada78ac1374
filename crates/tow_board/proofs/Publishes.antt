-- A publishing keeps the rule.
use Rattle.std.proofs.Common.{◌≡◌, ◌≢◌, ℕ, zero, suc, ◌+◌, ◌*◌, ◌<◌, ◌≤◌, List, [], ◌∷◌, length, set, Some, None, Option, true, false, true≢false, refl, sym, ap, ◌∙◌, subst, inl, inr, ⊎_elim, arith, length-set}
use mathlib.Core.Option.{some, none}
use mathlib.Core.Logic.{dite}
use native.Mathlib.Decide.{ℕ_discrete}
use lib.ListN.{get_elem?}
use Rattle.atomic_table.specs.Table.{step, gives, Allows, rest}
use Rattle.atomic_table.proofs.Lists.{set_here, set_else}
use Rattle.tow_board.specs.declared.view.View.{View}
use Rattle.tow_board.specs.Finds.{find, has, without}
use Rattle.tow_model.specs.declared.account.Role.{Role}
use Rattle.tow_model.specs.declared.account.Role.TheVariants as roles
use Rattle.tow_board.specs.Owners.{role_number}
use Rattle.tow_board.proofs.Words.{role_real}
use Rattle.tow_board.specs.Views.{top_of, is_told, told_newly, starts, posts, returns}
use Rattle.tow_board.specs.Rule.{Place, free, held, home, Kind, Truth, Falling, loop_role, Continues, FromFresh, Told, IsLoop, FactIs, KeptIs, PostedIs, MainKnows, Knows, BoardRule}
use Rattle.tow_board.specs.Steps.{info_of, AfterPublish, published}
use Rattle.tow_board.specs.Answers.{MayPublish, IsAfterPublish}
use Rattle.tow_board.proofs.Lists.{put_else, put_same_key, at_put, at_lt, find_new, found_new, find_old, find_without, find_gone, has_new, has_old, has_gone, has_found, has_kept_on, found_has}
use Rattle.tow_board.proofs.Told.{told_more, told_now, top_grows, top_new, above_all}
use Rattle.tow_board.proofs.Moves.{St, Rule, Moves, moved, changed, posted_still, told_stays, loses_hand, held_apart, loop_real, one_seat, Goes}

abbrev front : {X : Type 0} → List X → Option X
front [] = None
front (x ∷ xs) = Some x

same_some : {X : Type 0} (x y : X) → Some x ≡ Some y → x ≡ y
same_some x y e = cc

module _ {T O M : Type 0} (h : Kind T O M) (loops : ℕ) where
  abbrev V : Type 0
  V = View O M

  -- the slot k is in the hand of the seat, and the value x, which may lie there, goes home
  pub record Ready (s : St h loops) (r : Rule h loops s) (id k code : ℕ) (v : V) (x : T) (e : Option (O × M)) : Type 0 where
    pub at : get_elem? s.views id ≡ some v
    pub real : v.role ≢ 0
    pub in_hand : find k v.hand ≡ Some e
    pub waits : (2 ≤ code) × (code < 4 + loops)
    pub fit : h.fits loops code x

  module _ (s : St h loops) (r : Rule h loops s) (id k code : ℕ) (v : V) (x : T) (e : Option (O × M)) (d : Ready s r id k code v x e) where
    m : ℕ
    m = h.number (h.origin x)

    had : has k v.hand ≡ true
    had = has_found k e v.hand d.in_hand

    mine : Knows h loops r.truth (length s.homes) id v
    mine = r.each_view id v d.at

    is_held : r.truth.place k ≡ held id
    is_held = mine.base.holds k had

    fact_is : r.truth.facts k ≡ e
    fact_is = mine.base.hand_is k e d.in_hand

    not_held : (j : ℕ) → j ≢ id → r.truth.place k ≢ held j
    not_held j ne z = held_apart id j ne (sym is_held ∙ z)

    -- only main keeps what it holds
    not_mains : v.role ≢ 1 → r.truth.place k ≡ held (r.truth.seat_of 1) → ⊥
    not_mains other z =
        let same : id ≡ r.truth.seat_of 1 = (let y : held id ≡ held (r.truth.seat_of 1) = sym is_held ∙ z in cc) in
        let it = r.each_role 1 (inl refl) in
        let is : v ≡ it.0 = same_some' v it.0 (sym d.at ∙ (ap (λ (j : ℕ). get_elem? s.views j) same ∙ it.1)) in
        other (ap (λ (u : V). u.role) is ∙ it.2)
      where
        same_some' : (a b : V) → some a ≡ some b → a ≡ b
        same_some' a b y = cc

    -- what is the same for each role
    publish_moves : (w : V) (ns : List ℕ)
        → w.role ≡ v.role
        → (v.role ≢ 1 → (ns ≡ r.truth.numbers) × ((i : O × M) × (r.truth.facts k ≡ Some i) × (i.0 ≡ h.origin x)))
        → top_of r.truth.numbers ≤ top_of ns → Falling ns
        → ((n a : ℕ) → is_told n a v.told ≡ true → is_told n a w.told ≡ true)
        → FactIs h loops (changed r.truth k home (Some (info_of h x)) ns r.truth.kept r.truth.begun) (set s.views id w) k (info_of h x)
        → ((q : ℕ) (i : O × M) → q ≢ k → r.truth.facts q ≡ Some i → h.number (h.origin x) ≢ h.number i.0)
        → ((j : ℕ) (u : V) → j ≢ id → get_elem? s.views j ≡ some u → (i : O × M) → find (h.number (h.origin x)) u.posted ≡ Some i → PostedIs h loops r.truth j u (h.number (h.origin x)) i → Continues h.follows (info_of h x) i)
        → Knows h loops (changed r.truth k home (Some (info_of h x)) ns r.truth.kept r.truth.begun) (length s.homes) id w
        → Moves h loops s r id k code v w home (Some (info_of h x)) ns r.truth.kept r.truth.begun (set s.homes k (some (Some x)))
    publish_moves w ns role not_main higher falls tells_on fact_now new_number goes known = record {
      near = mine.base.within k had;
      at = d.at;
      real = d.real;
      role_same = role;
      as_long = length-set s.homes k (some (Some x));
      rows = λ q ne. set_else s.homes k q (some (Some x)) ne;
      here = (d.waits.0, d.waits.1, (x, set_here s.homes k (some (Some x)) (mine.base.within k had), d.fit, refl));
      loose = λ j ne z. cc;
      was = not_held;
      not_main = λ other. ((not_main other).0, refl, (λ z. cc), (λ _ z. let y : held id ≡ free = sym is_held ∙ z in cc));
      origin_same = λ other g z. let it = (not_main other).1 in (it.0, it.1, it.2 ∙ ap (λ (i : O × M). i.0) (same_some (info_of h x) g z));
      higher = higher;
      falls = falls;
      begins = λ n. inl refl;
      elsewhere = λ n _. (refl, refl);
      tells_on = tells_on;
      fact = λ g z. subst (FactIs h loops (changed r.truth k home (Some (info_of h x)) ns r.truth.kept r.truth.begun) (set s.views id w) k) (same_some (info_of h x) g z) fact_now;
      new_number = λ g z q i ne there num. new_number q i ne there (ap (λ (y : O × M). h.number y.0) (same_some (info_of h x) g z) ∙ num);
      keeps_on = λ n g z. let old = r.each_kept n g z in record {
        low = let lt = old.low in omega arith;
        unclaimed = old.unclaimed;
        told = λ a lt y. told_stays h loops s.views id v w d.at tells_on n a (old.told a lt y);
      };
      posted_on = λ j u apart there n i z old. (
        (λ g eg num. let is = same_some (info_of h x) g eg in let n_is : h.number (h.origin x) ≡ n = ap (λ (y : O × M). h.number y.0) is ∙ num in
            subst (λ (y : O × M). Continues h.follows y i) is (goes j u apart there i (subst (λ (y : ℕ). find y u.posted ≡ Some i) (sym n_is) z) (subst (λ (y : ℕ). PostedIs h loops r.truth j u y i) (sym n_is) old))),
        old.kept,
      );
      mine = known;
    }

    -- the hand without the slot
    hand_now : (w : V) (ns : List ℕ) → w.role ≡ v.role → w.loops ≡ v.loops → w.hand ≡ without k v.hand
        → Rattle.tow_board.specs.Rule.Holds h loops (changed r.truth k home (Some (info_of h x)) ns r.truth.kept r.truth.begun) (length s.homes) id w
    hand_now w ns role same_loops hand = loses_hand h loops r.truth (length s.homes) id k home (Some (info_of h x)) ns r.truth.kept r.truth.begun v w (λ z. cc) role same_loops
        (λ q ne. ap (λ (l : List (ℕ × Option (O × M))). find q l) hand ∙ find_without k q v.hand ne)
        (ap (λ (l : List (ℕ × Option (O × M))). has k l) hand ∙ has_gone k v.hand) mine.base

  module _ (s : St h loops) (r : Rule h loops s) (id k code : ℕ) (v : V) (x : T) (i : O × M) (d : Ready s r id k code v x (Some i)) (same_origin : h.origin x ≡ i.0) where
    knows : Knows h loops r.truth (length s.homes) id v
    knows = r.each_view id v d.at

    fact_was : FactIs h loops r.truth s.views k i
    fact_was = r.each_fact k i (fact_is s r id k code v x (Some i) d)

    num : h.number (h.origin x) ≡ h.number i.0
    num = ap h.number same_origin

    other_number : (q : ℕ) (g : O × M) → q ≢ k → r.truth.facts q ≡ Some g → h.number (h.origin x) ≢ h.number g.0
    other_number q g ne there z = ne (sym (r.once k q i g (fact_is s r id k code v x (Some i) d) there (sym num ∙ z)))

    not_back : v.role ≢ 1 → (g : O × M) → find (h.number (h.origin x)) r.truth.kept ≡ Some g → ⊥
    not_back other g z = not_mains s r id k code v x (Some i) d other (fact_was.back g (subst (λ (y : ℕ). find y r.truth.kept ≡ Some g) num z))

    low : h.number (h.origin x) < top_of r.truth.numbers
    low = subst (λ (y : ℕ). y < top_of r.truth.numbers) (sym num) fact_was.low

    since_held : (j : ℕ) (u : V) → j ≢ id → (i' : O × M) → PostedIs h loops r.truth j u (h.number (h.origin x)) i' → Continues h.follows i i'
    since_held j u apart i' old = old.since k i (fact_is s r id k code v x (Some i) d) (sym num) (λ _. not_held s r id k code v x (Some i) d j apart)

    its_loop : r.truth.begun (h.number (h.origin x)) ≢ 0 → r.truth.begun (h.number (h.origin x)) ≡ loop_role h loops (h.origin x)
    its_loop n = ap r.truth.begun num ∙ (fact_was.its_loop (λ z. n (ap r.truth.begun num ∙ z)) ∙ ap (λ (o : O). loop_role h loops o) (sym same_origin))

    told_on : (w : V) → ((n a : ℕ) → is_told n a v.told ≡ true → is_told n a w.told ≡ true) → (a : ℕ) → a < 2 → h.tells i.1 a ≡ true → Told (set s.views id w) (h.number (h.origin x)) a
    told_on w on a lt y = subst (λ (n : ℕ). Told (set s.views id w) n a) (sym num) (told_stays h loops s.views id v w d.at on (h.number i.0) a (fact_was.told a lt y))

    -- a worker's mark follows the one that was claimed
    pub by_worker : ((a b c : M) → h.follows a b → h.follows b c → h.follows a c) → v.role ≢ 1 → (IsLoop v → ⊥) → h.follows (h.mark x) i.1
        → Moves h loops s r id k code v (returns h.number h.tells v k i.1 (info_of h x)) home (Some (info_of h x)) r.truth.numbers r.truth.kept r.truth.begun (set s.homes k (some (Some x)))
    by_worker follows_on other no_loop follow = publish_moves s r id k code v x (Some i) d w r.truth.numbers refl
        (λ _. (refl, (i, fact_is s r id k code v x (Some i) d, sym same_origin))) (omega arith) r.falling on
        record {
          low = low;
          its_loop = its_loop;
          unclaimed = λ z. let b = fact_was.unclaimed (ap r.truth.begun (sym num) ∙ z) in (b.0, b.1, follows_on (h.mark x) i.1 b.0 follow b.2);
          told = told;
          back = λ g z. absurd (not_back other g z);
        }
        other_number
        (λ j u apart there i' z old. let on' = since_held j u apart i' old in (same_origin ∙ on'.0, follows_on (h.mark x) i.1 i'.1 follow on'.1))
        record {
          base = hand_now s r id k code v x (Some i) d w r.truth.numbers refl refl refl;
          hand_loop = λ loop. absurd (no_loop loop);
          posted_is = λ n i' z. absurd (not_posted n i' z);
          claimed = λ loop. absurd (no_loop loop);
          main = λ main. absurd (other main);
        }
      where
        w : V
        w = returns h.number h.tells v k i.1 (info_of h x)

        on : (n a : ℕ) → is_told n a v.told ≡ true → is_told n a (returns h.number h.tells v k i.1 (info_of h x)).told ≡ true
        on n a z = told_more (h.tells i.1 0) (h.tells (h.mark x) 0) (h.number (h.origin x), 0) (told_newly (h.tells i.1 1) (h.tells (h.mark x) 1) (h.number (h.origin x), 1) v.told) n a
            (told_more (h.tells i.1 1) (h.tells (h.mark x) 1) (h.number (h.origin x), 1) v.told n a z)

        not_posted : (n : ℕ) (i' : O × M) → find n v.posted ≡ Some i' → ⊥
        not_posted n i' z = ⊎_elim
            (λ (y : v.role ≡ loop_role h loops i'.0). no_loop (h.loop_of loops i'.0, y))
            (λ (y : (v.role ≡ 1) × (has (loop_role h loops i'.0) r.truth.joined ≡ true)). other y.0)
            (knows.posted_is n i' z).owner

        here : get_elem? (set s.views id (returns h.number h.tells v k i.1 (info_of h x))) id ≡ some (returns h.number h.tells v k i.1 (info_of h x))
        here = set_here s.views id (returns h.number h.tells v k i.1 (info_of h x)) (at_lt s.views id v d.at)

        told : (a : ℕ) → a < 2 → h.tells (h.mark x) a ≡ true → Told (set s.views id (returns h.number h.tells v k i.1 (info_of h x))) (h.number (h.origin x)) a
        told zero lt y = ⊎_elim (λ b. told_on w on 0 lt b) (λ b. (id, w, here, b))
            (told_now (h.tells i.1 0) (h.tells (h.mark x) 0) (h.number (h.origin x)) 0 (told_newly (h.tells i.1 1) (h.tells (h.mark x) 1) (h.number (h.origin x), 1) v.told) y)
        told (suc zero) lt y = ⊎_elim (λ b. told_on w on 1 lt b) (λ b. (id, w, here, told_more (h.tells i.1 0) (h.tells (h.mark x) 0) (h.number (h.origin x), 0) (told_newly (h.tells i.1 1) (h.tells (h.mark x) 1) (h.number (h.origin x), 1) v.told) (h.number (h.origin x)) 1 b))
            (told_now (h.tells i.1 1) (h.tells (h.mark x) 1) (h.number (h.origin x)) 1 v.told y)
        told (suc (suc a)) lt y = absurd (omega arith)

    -- a loop's mark tells no fault that the one that was claimed did not tell
    pub by_loop : ((a : M) → h.follows a a) → IsLoop v → ((a : ℕ) → h.tells (h.mark x) a ≡ true → h.tells i.1 a ≡ true)
        → Moves h loops s r id k code v (posts h.number v k (info_of h x)) home (Some (info_of h x)) r.truth.numbers r.truth.kept r.truth.begun (set s.homes k (some (Some x)))
    by_loop itself loop no_new = publish_moves s r id k code v x (Some i) d w r.truth.numbers refl
        (λ _. (refl, (i, fact_is s r id k code v x (Some i) d, sym same_origin))) (omega arith) r.falling (λ n a z. z)
        record {
          low = low;
          its_loop = its_loop;
          unclaimed = λ z. absurd ((loop_real h loops v loop).0 (sym began ∙ (ap r.truth.begun (sym num) ∙ z)));
          told = λ a lt y. told_on w (λ n b z. z) a lt (no_new a y);
          back = λ g z. absurd (not_back other g z);
        }
        other_number
        (λ j u apart there i' z old. absurd (not_others j u apart there i' old))
        record {
          base = hand_now s r id k code v x (Some i) d w r.truth.numbers refl refl refl;
          hand_loop = λ _ q i' z. dite (ℕ_discrete q k)
              (λ e. absurd (find_gone k (Some i') v.hand (subst (λ (y : ℕ). find y (without k v.hand) ≡ Some (Some i')) e z)))
              (λ ne. knows.hand_loop loop q i' (sym (find_without k q v.hand ne) ∙ z));
          posted_is = posted;
          claimed = λ _ n z. ⊎_elim
              (λ y. inl (has_kept_on (h.number (h.origin x)) n (info_of h x) v.posted y))
              (λ (y : (q : ℕ) × (i' : O × M) × (find q v.hand ≡ Some (Some i')) × (h.number i'.0 ≡ n)). dite (ℕ_discrete y.0 k)
              (λ e. let same : Some i ≡ Some y.1 = same_some (Some i) (Some y.1) (sym d.in_hand ∙ (ap (λ (c : ℕ). find c v.hand) (sym e) ∙ y.2)) in
              let is : n ≡ h.number (h.origin x) = sym y.3 ∙ (ap (λ (c : O × M). h.number c.0) (sym (same_some i y.1 same)) ∙ sym num) in
              inl (subst (λ (c : ℕ). has c ((h.number (h.origin x), info_of h x) ∷ v.posted) ≡ true) (sym is) (has_new (h.number (h.origin x)) (info_of h x) v.posted)))
              (λ ne. inr (y.0, y.1, find_without k y.0 v.hand ne ∙ y.2, y.3)))
              (knows.claimed loop n z);
          main = λ main. absurd (other main);
        }
      where
        w : V
        w = posts h.number v k (info_of h x)

        other : v.role ≢ 1
        other = (loop_real h loops v loop).1

        began : r.truth.begun (h.number i.0) ≡ v.role
        began = (knows.hand_loop loop k i d.in_hand).1

        its : v.role ≡ loop_role h loops (h.origin x)
        its = (knows.hand_loop loop k i d.in_hand).0 ∙ ap (λ (o : O). loop_role h loops o) (sym same_origin)

        not_others : (j : ℕ) (u : V) → j ≢ id → get_elem? s.views j ≡ some u → (i' : O × M) → PostedIs h loops r.truth j u (h.number (h.origin x)) i' → ⊥
        not_others j u apart there i' old =
            let on' = since_held j u apart i' old in
            let role : loop_role h loops i'.0 ≡ v.role = ap (λ (o : O). loop_role h loops o) (sym on'.0) ∙ sym (knows.hand_loop loop k i d.in_hand).0 in
            ⊎_elim
            (λ (y : u.role ≡ loop_role h loops i'.0). apart (one_seat h loops s r j id u v there d.at (y ∙ role) d.real))
            (λ (y : (u.role ≡ 1) × (has (loop_role h loops i'.0) r.truth.joined ≡ true)). true≢false (sym y.1 ∙ (ap (λ (c : ℕ). has c r.truth.joined) role ∙ (knows.base.was_given d.real other).1)))
            old.owner

        posted : (n : ℕ) (i' : O × M) → find n ((h.number (h.origin x), info_of h x) ∷ v.posted) ≡ Some i' → PostedIs h loops (changed r.truth k home (Some (info_of h x)) r.truth.numbers r.truth.kept r.truth.begun) id (posts h.number v k (info_of h x)) n i'
        posted n i' z = dite (ℕ_discrete n (h.number (h.origin x)))
            (λ e. let is : info_of h x ≡ i' = found_new (h.number (h.origin x)) (info_of h x) i' v.posted (subst (λ (y : ℕ). find y ((h.number (h.origin x), info_of h x) ∷ v.posted) ≡ Some i') e z) in
            subst (λ (y : ℕ × (O × M)). PostedIs h loops (changed r.truth k home (Some (info_of h x)) r.truth.numbers r.truth.kept r.truth.begun) id w y.0 y.1) (λ c. (sym e c, is c)) record {
              low = low;
              owner = inl its;
              since = λ q g eg of_it _. dite (ℕ_discrete q k)
                  (λ same. subst (λ (y : O × M). Continues h.follows y (info_of h x)) (same_some (info_of h x) g (sym (put_same_key r.truth.facts k (Some (info_of h x)) q same) ∙ eg)) (refl, itself (h.mark x)))
                  (λ ne. absurd (other_number q g ne (sym (put_else r.truth.facts k (Some (info_of h x)) q ne) ∙ eg) (sym of_it)));
              kept = λ g eg. absurd (not_back other g eg);
            })
            (λ ne. let old = knows.posted_is n i' (sym (find_old (h.number (h.origin x)) n (info_of h x) v.posted ne) ∙ z) in
            posted_still h loops r.truth k id home (Some (info_of h x)) r.truth.numbers r.truth.kept r.truth.begun v w n i' refl (omega arith) old
            (λ g eg of_it _. absurd (ne (sym of_it ∙ ap (λ (y : O × M). h.number y.0) (sym (same_some (info_of h x) g eg))))) old.kept)

  -- main's value has a fresh mark, and a number above all that main published
  pub by_main : (s : St h loops) (r : Rule h loops s) (id k code : ℕ) (v : V) (x : T) (e : Option (O × M)) → Ready s r id k code v x e
      → ((a : M) → h.follows a a) → ((a : M) (b : ℕ) → h.fresh a → h.tells a b ≡ false) → v.role ≡ 1 → h.fresh (h.mark x) → top_of v.numbers ≤ h.number (h.origin x)
      → Moves h loops s r id k code v (starts h.number v k (info_of h x)) home (Some (info_of h x)) (h.number (h.origin x) ∷ r.truth.numbers) r.truth.kept r.truth.begun (set s.homes k (some (Some x)))
  by_main s r id k code v x e d itself tells_none main new above = publish_moves s r id k code v x e d w ns refl (λ other. absurd (other main)) (top_grows r.truth.numbers m) (le, r.falling) (λ n a z. z)
      record {
        low = top_new r.truth.numbers m;
        its_loop = λ n. absurd (let lt = (r.each_begun m n).low in omega (arith, lt, le));
        unclaimed = λ _. (h.mark x, new, itself (h.mark x));
        told = λ a lt y. absurd (true≢false (sym y ∙ tells_none (h.mark x) a new));
        back = λ g z. absurd (let lt = (r.each_kept m g z).low in omega (arith, lt, le));
      }
      (λ q i ne there z. absurd (let lt = (r.each_fact q i there).low in let y : m ≡ h.number i.0 = z in omega (arith, lt, y, le)))
      (λ j u apart there i z old. absurd (let lt = old.low in omega (arith, lt, le)))
      record {
        base = hand_now s r id k code v x e d w ns refl refl refl;
        hand_loop = λ loop. absurd ((loop_real h loops v loop).1 main);
        posted_is = λ n i z. let old = knows.posted_is n i z in
            posted_still h loops r.truth k id home (Some (info_of h x)) ns r.truth.kept r.truth.begun v w n i refl (top_grows r.truth.numbers m) old
            (λ g eg of_it _. absurd (let lt = old.low in let y : m ≡ n = ap (λ (c : O × M). h.number c.0) (same_some (info_of h x) g eg) ∙ of_it in omega (arith, lt, y, le))) old.kept;
        claimed = λ loop. absurd ((loop_real h loops v loop).1 main);
        main = λ _. record {
          given_is = old.given_is;
          joined_is = old.joined_is;
          numbers_is = ap (λ (l : List ℕ). m ∷ l) old.numbers_is;
          kept_is = old.kept_is;
          live_is = λ q lt. at_put r.truth.place k home q (λ y. y ≡ free → has q ((k, Some (h.origin x)) ∷ v.live) ≡ false) (λ _ z. absurd (cc)) (λ ne z. has_old k q (Some (h.origin x)) v.live ne ∙ old.live_is q lt z);
          live_has = λ q lt. at_put r.truth.place k home q (λ y. y ≢ free → has q ((k, Some (h.origin x)) ∷ v.live) ≡ true)
              (λ here _. subst (λ (c : ℕ). has c ((k, Some (h.origin x)) ∷ v.live) ≡ true) (sym here) (has_new k (Some (h.origin x)) v.live))
              (λ ne z. has_old k q (Some (h.origin x)) v.live ne ∙ old.live_has q lt z);
          live_origin = λ q g eg. dite (ℕ_discrete q k)
              (λ here. let is = same_some (info_of h x) g (sym (put_same_key r.truth.facts k (Some (info_of h x)) q here) ∙ eg) in
              subst (λ (c : ℕ × (O × M)). find c.0 ((k, Some (h.origin x)) ∷ v.live) ≡ Some (Some c.1.0)) (λ c. (sym here c, is c)) (find_new k (Some (h.origin x)) v.live))
              (λ ne. find_old k q (Some (h.origin x)) v.live ne ∙ old.live_origin q g (sym (put_else r.truth.facts k (Some (info_of h x)) q ne) ∙ eg));
          posted_has = old.posted_has;
        };
      }
    where
      m : ℕ
      m = h.number (h.origin x)

      ns : List ℕ
      ns = h.number (h.origin x) ∷ r.truth.numbers

      w : V
      w = starts h.number v k (info_of h x)

      knows : Knows h loops r.truth (length s.homes) id v
      knows = r.each_view id v d.at

      old : MainKnows h loops r.truth (length s.homes) v
      old = (r.each_view id v d.at).main main

      le : top_of r.truth.numbers ≤ h.number (h.origin x)
      le = subst (λ (l : List ℕ). top_of l ≤ h.number (h.origin x)) ((r.each_view id v d.at).main main).numbers_is above

  publish_of : (s : St h loops) (r : Rule h loops s) (id k code : ℕ) (v w : V) (x : T) (more : List (ℕ × Option T)) (f : Option (O × M)) (ns : List ℕ) (kept : List (ℕ × (O × M))) (begun : ℕ → ℕ)
      → Moves h loops s r id k code v w home f ns kept begun (set s.homes k (some (Some x)))
      → AfterPublish h.number h.tells v k (info_of h x) w
      → Goes h loops s k id (v, (k, Some x) ∷ more) (λ _. published h (step (length s.homes) k code 0 none) (v, (k, Some x) ∷ more) code) code
  publish_of s r id k code v w x more f ns kept begun d after = (
    w,
    gives,
    tt,
    moved h loops s r id k code v w home f ns kept begun (set s.homes k (some (Some x))) d,
    ((λ y e. subst (λ (z : T). AfterPublish h.number h.tells v k (info_of h z) w) (first_is x y more (rest ((k, Some x) ∷ more)) k e) after), refl),
  )
    where
      first_is : (a b : T) (xs ys : List (ℕ × Option T)) (q : ℕ) → (q, Some a) ∷ xs ≡ (q, Some b) ∷ ys → a ≡ b
      first_is a b xs ys q e = let y : Some (q, Some a) ≡ Some (q, Some b) = ap (λ (l : List (ℕ × Option T)). front l) e in let z : Some a ≡ Some b = ap (λ (p : ℕ × Option T). p.1) (same_some (q, Some a) (q, Some b) y) in same_some a b z

  pub publishes : ((a : M) → h.follows a a) → ((a b c : M) → h.follows a b → h.follows b c → h.follows a c) → ((a : M) (b : ℕ) → h.fresh a → h.tells a b ≡ false)
      → (slots id : ℕ) (v : V) (k code : ℕ) (x : T) (more : List (ℕ × Option T)) (role : Role) → v.role ≡ role_number role → has k v.hand ≡ true → 2 ≤ code → code < 4 + loops → h.fits v.loops code x
      → MayPublish h.number h.fresh h.follows h.tells role v k (info_of h x)
      → Allows (Rule h loops) slots id (v, (k, Some x) ∷ more) k (λ _. code) (λ _. published h (step slots k code 0 none) (v, (k, Some x) ∷ more) code)
  publishes itself follows_on tells_none slots id v k code x more role is has_it le below fit may s r wide at low =
      subst (λ (n : ℕ). Goes h loops s k id (v, (k, Some x) ∷ more) (λ _. published h (step n k code 0 none) (v, (k, Some x) ∷ more) code) code) wide (by role is may)
    where
      real : v.role ≢ 0
      real e = role_real role (sym is ∙ e)

      same : v.loops ≡ loops
      same = (r.each_view id v at).base.loops_is (λ e. role_real role (sym is ∙ e))

      ready : (e : Option (O × M)) → find k v.hand ≡ Some e → Ready s r id k code v x e
      ready e there = record { at = at; real = (λ z. role_real role (sym is ∙ z)); in_hand = there; waits = (le, below); fit = subst (λ (n : ℕ). h.fits n code x) ((r.each_view id v at).base.loops_is (λ z. role_real role (sym is ∙ z))) fit }

      by : (q : Role) → v.role ≡ role_number q → MayPublish h.number h.fresh h.follows h.tells q v k (info_of h x)
          → Goes h loops s k id (v, (k, Some x) ∷ more) (λ _. published h (step (length s.homes) k code 0 none) (v, (k, Some x) ∷ more) code) code
      by roles.Main main a =
          let it = found_has k v.hand has_it in
          publish_of s r id k code v (starts h.number v k (info_of h x)) x more (Some (info_of h x)) (h.number (h.origin x) ∷ r.truth.numbers) r.truth.kept r.truth.begun
          (by_main s r id k code v x it.0 (ready it.0 it.1) itself tells_none main a.0 (above_all v.numbers (h.number (h.origin x)) a.1))
          record { by_main = λ _. refl; by_loop = λ loop. absurd ((loop_real h loops v loop).1 main); by_worker = λ other. absurd (other main) }
      by (roles.Loop l) its a =
          let loop : IsLoop v = (l, its) in let other = (loop_real h loops v loop).1 in
          publish_of s r id k code v (posts h.number v k (info_of h x)) x more (Some (info_of h x)) r.truth.numbers r.truth.kept r.truth.begun
          (by_loop s r id k code v x a.0 (ready (Some a.0) a.1) a.2 itself loop a.3)
          record { by_main = λ main. absurd (other main); by_loop = λ _. refl; by_worker = λ _ no_loop. absurd (no_loop loop) }
      by (roles.Worker i) its a =
          let no_loop : IsLoop v → ⊥ = λ loop. let b : v.role ≡ 2 + 2 * loop.0 = loop.1 in let c : v.role ≡ 3 + 2 * i = its in let n : ℕ = loop.0 in absurd (omega arith) in
          let other : v.role ≢ 1 = λ main. let c : v.role ≡ 3 + 2 * i = its in absurd (omega arith) in
          publish_of s r id k code v (returns h.number h.tells v k a.0.1 (info_of h x)) x more (Some (info_of h x)) r.truth.numbers r.truth.kept r.truth.begun
          (by_worker s r id k code v x a.0 (ready (Some a.0) a.1) a.2 follows_on other no_loop a.3)
          record { by_main = λ main. absurd (other main); by_loop = λ loop. absurd (no_loop loop); by_worker = λ _ _ p there. let z : Some a.0 ≡ Some p = same_some (Some a.0) (Some p) (sym a.1 ∙ there) in ap (λ (y : O × M). returns h.number h.tells v k y.1 (info_of h x)) (same_some a.0 p z) }

  -- what the step told, by the role of the seat
  pub after_publish : (role : Role) (v w : V) (k : ℕ) (x : T) → v.role ≡ role_number role → MayPublish h.number h.fresh h.follows h.tells role v k (info_of h x) → AfterPublish h.number h.tells v k (info_of h x) w → IsAfterPublish h.number h.tells role v k (info_of h x) w
  after_publish roles.Main v w k x is may told = told.by_main is
  after_publish (roles.Loop l) v w k x is may told = told.by_loop (l, is)
  after_publish (roles.Worker i) v w k x is may told = (
    may.0,
    may.1,
    told.by_worker
        (λ main. let c : v.role ≡ 3 + 2 * i = is in absurd (omega arith))
        (λ loop. let b : v.role ≡ 2 + 2 * loop.0 = loop.1 in let c : v.role ≡ 3 + 2 * i = is in let n : ℕ = loop.0 in absurd (omega arith)) may.0 may.1,
  )

  -- what each publishing leaves
  pub keeps : (role : Role) (v w : V) (k : ℕ) (i : O × M) → IsAfterPublish h.number h.tells role v k i w
      → (w.role ≡ v.role) × (w.hand ≡ without k v.hand) × ((q : ℕ) → has q v.live ≡ true → has q w.live ≡ true)
  keeps roles.Main v w k i e = (ap (λ (u : V). u.role) e, ap (λ (u : V). u.hand) e, λ q lives. ap (λ (u : V). has q u.live) e ∙ has_kept_on k q (Some i.0) v.live lives)
  keeps (roles.Loop l) v w k i e = (ap (λ (u : V). u.role) e, ap (λ (u : V). u.hand) e, λ q lives. ap (λ (u : V). has q u.live) e ∙ lives)
  keeps (roles.Worker l) v w k i e = (ap (λ (u : V). u.role) e.2, ap (λ (u : V). u.hand) e.2, λ q lives. ap (λ (u : V). has q u.live) e.2 ∙ lives)
