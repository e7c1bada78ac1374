-- The rule gives each point.
use Rattle.std.proofs.Common.{◌≡◌, ◌≢◌, ℕ, ◌≤◌, false, true≢false, get_or, Option, Some, refl, sym, ap, ◌∙◌, subst, inr, ⊎_elim, arith}
use mathlib.Core.Option.{some}
use mathlib.Core.Option as maybe
use mathlib.Core.Logic.{dite}
use native.Mathlib.Decide.{ℕ_discrete}
use lib.ListN.{get_elem?}
use Rattle.tow_board.specs.declared.view.View.{View}
use Rattle.tow_board.specs.Finds.{find, has}
use Rattle.tow_board.specs.Rule.{Place, free, held, home, Kind, InPlace, FactIs, Knows, IsLoop, loop_role, BoardRule}
use Rattle.tow_board.specs.Points.{Has, Waits, Claimed, Points}
use Rattle.tow_board.proofs.Lists.{get_there, has_found, not_has}
use Rattle.tow_board.proofs.Moves.{St, Rule, one_seat}

inner : {X : Type 0} (x y : X) → some (some (Some x)) ≡ some (some (Some y)) → x ≡ y
inner x y e = let a : some (Some x) ≡ some (Some y) = cc in let b : Some x ≡ Some y = cc in cc

held_is : (i j : ℕ) → held i ≡ held j → i ≡ j
held_is i j e = cc

module _ {T O M : Type 0} (h : Kind T O M) (loops : ℕ) where
  abbrev V : Type 0
  V = View O M

  module _ (s : St h loops) (r : Rule h loops s) where
    word_free : (k word : ℕ) (at : maybe.Option (maybe.Option (Option T))) (f : Option (O × M)) (p : Place) → InPlace h loops word at f p → (word ≡ 0 → p ≡ free) × (word ≢ 0 → p ≢ free)
    word_free k word at f free z = ((λ e. refl), (λ n _. n z.0))
    word_free k word at f (held j) z = ((λ e. absurd (let y : word ≡ 1 = z in omega arith)), (λ n e. cc))
    word_free k word at f home z = ((λ e. absurd (let y : 2 ≤ word = z.0 in omega arith)), (λ n e. cc))

    word_hand : (word : ℕ) (at : maybe.Option (maybe.Option (Option T))) (f : Option (O × M)) (p : Place) → InPlace h loops word at f p → word ≡ 1 → (j : ℕ) × (p ≡ held j)
    word_hand word at f free z e = absurd (let y : word ≡ 0 = z.0 in omega arith)
    word_hand word at f (held j) z e = (j, refl)
    word_hand word at f home z e = absurd (let y : 2 ≤ word = z.0 in omega arith)

    word_home : (word : ℕ) (at : maybe.Option (maybe.Option (Option T))) (f : Option (O × M)) (p : Place) → InPlace h loops word at f p → 2 ≤ word
        → (p ≡ home) × ((x : T) × (at ≡ some (some (Some x))) × h.fits loops word x × (f ≡ Some (h.origin x, h.mark x)))
    word_home word at f free z le = absurd (let y : word ≡ 0 = z.0 in omega arith)
    word_home word at f (held j) z le = absurd (let y : word ≡ 1 = z in omega arith)
    word_home word at f home z le = (refl, z.2)

    -- the facts of a value that waits
    waiting : (k : ℕ) (x : T) → Waits h s k x → (r.truth.place k ≡ home) × (r.truth.facts k ≡ Some (h.origin x, h.mark x))
    waiting k x it =
        let z = word_home (get_or s.words k 0) (get_elem? s.homes k) (r.truth.facts k) (r.truth.place k) (r.each_slot k it.0) it.1 in
        (z.0, subst (λ (y : T). r.truth.facts k ≡ Some (h.origin y, h.mark y)) (inner z.1.0 x (sym z.1.1 ∙ it.2)) z.1.3)

    not_home_held : (k j : ℕ) → r.truth.place k ≡ home → r.truth.place k ≢ held j
    not_home_held k j a b = let z : home ≡ held j = sym a ∙ b in cc

    claimed_fact : (j k : ℕ) (i : O × M) → Claimed h s j k i → r.truth.facts k ≡ Some i
    claimed_fact j k i it = (r.each_view j it.0 it.1).base.hand_is k (Some i) it.2

    claimed_place : (j k : ℕ) (i : O × M) → Claimed h s j k i → r.truth.place k ≡ held j
    claimed_place j k i it = (r.each_view j it.0 it.1).base.holds k (has_found k (Some i) it.0.hand it.2)

    pub points : Points h s loops
    points = record {
      free = λ v m k lt. let z = word_free k (get_or s.words k 0) (get_elem? s.homes k) (r.truth.facts k) (r.truth.place k) (r.each_slot k lt) in let mine = (r.each_view m.0.0 v m.0.1).main m.1 in
          ((λ e. mine.live_is k lt (z.0 e)), (λ n. mine.live_has k lt (z.1 n)));
      hand = λ k lt e.
          let z = word_hand (get_or s.words k 0) (get_elem? s.homes k) (r.truth.facts k) (r.truth.place k) (r.each_slot k lt) e in
          let it = get_there s.views z.0 (r.seated k z.0 z.1) in
          (z.0, it.0, it.1, (r.each_view z.0 it.0 it.1).base.held_here k z.1, λ i u there has_it. held_is i z.0 (sym ((r.each_view i u there).base.holds k has_it) ∙ z.1));
      home = λ k lt le.
          let z = word_home (get_or s.words k 0) (get_elem? s.homes k) (r.truth.facts k) (r.truth.place k) (r.each_slot k lt) le in
          (z.1.0, (lt, le, z.1.1), z.1.2, λ j v there. not_has (has k v.hand) (λ e. not_home_held k j z.0 ((r.each_view j v there).base.holds k e)));
      roles = λ i j u v a b same live. one_seat h loops s r i j u v a b same live;
      given = λ m is_m j v there live other. let mine = (r.each_view is_m.0.0 m is_m.0.1).main is_m.1 in let it = (r.each_view j v there).base.was_given live other in
          (ap (λ l. has v.role l) mine.given_is ∙ it.0, ap (λ l. has v.role l) mine.joined_is ∙ it.1);
      seated = λ m is_m q g n. let mine = (r.each_view is_m.0.0 m is_m.0.1).main is_m.1 in
          let it = r.each_role q (inr (sym (ap (λ l. has q l) mine.given_is) ∙ g, sym (ap (λ l. has q l) mine.joined_is) ∙ n)) in (r.truth.seat_of q, it.0, it.1, it.2);
      many = λ j v there live. (r.each_view j v there).base.loops_is live;
      origin_home = λ m is_m k x it. ((r.each_view is_m.0.0 m is_m.0.1).main is_m.1).live_origin k (h.origin x, h.mark x) (waiting k x it).1;
      origin_hand = λ m is_m j k i it. ((r.each_view is_m.0.0 m is_m.0.1).main is_m.1).live_origin k i (claimed_fact j k i it);
      numbers = λ m is_m. subst (λ l. Rattle.tow_board.specs.Rule.Falling l) (sym ((r.each_view is_m.0.0 m is_m.0.1).main is_m.1).numbers_is) r.falling;
      again_home = λ j v there i k x it e. let w = waiting k x it in ((r.each_view j v there).posted_is (h.number (h.origin x)) i e).since k (h.origin x, h.mark x) w.1 refl (λ _. not_home_held k j w.0);
      again_hand = λ j v there i f l k it e other. ((r.each_view j v there).posted_is (h.number f.0) i e).since k f (claimed_fact l k f it) refl
          (λ not_main z. ⊎_elim (λ main. not_main main) (λ apart. apart (held_is l j (sym (claimed_place l k f it) ∙ z))) other);
      its_own = λ j v there loop k i e. ((r.each_view j v there).hand_loop loop k i e).0;
      first_home = λ j v there k x it role none_posted. first j v there k x it role none_posted;
      told_home = λ k x it a lt y. (r.each_fact k (h.origin x, h.mark x) (waiting k x it).1).told a lt y;
      told_hand = λ j k i it a lt y. (r.each_fact k i (claimed_fact j k i it)).told a lt y;
      kept_again = λ m is_m j v there n g i e f. ((r.each_view j v there).posted_is n i f).kept g (sym (ap (λ l. find n l) ((r.each_view is_m.0.0 m is_m.0.1).main is_m.1).kept_is) ∙ e);
      kept_told = λ m is_m n g e a lt y. (r.each_kept n g (sym (ap (λ l. find n l) ((r.each_view is_m.0.0 m is_m.0.1).main is_m.1).kept_is) ∙ e)).told a lt y;
    }
      where
        first : (j : ℕ) (v : V) → Has h s j v → (k : ℕ) (x : T) → Waits h s k x → v.role ≡ loop_role h loops (h.origin x) → has (h.number (h.origin x)) v.posted ≡ false → Rattle.tow_board.specs.Rule.FromFresh h.fresh h.follows (h.mark x)
        first j v there k x it role none_posted =
            let w = waiting k x it in let f = r.each_fact k (h.origin x, h.mark x) w.1 in
            dite (ℕ_discrete (r.truth.begun (h.number (h.origin x))) 0)
            (λ z. f.unclaimed z)
            (λ n. ⊎_elim
            (λ y. absurd (true≢false (sym y ∙ none_posted)))
            (λ (y : (q : ℕ) × (i : O × M) × (find q v.hand ≡ Some (Some i)) × (h.number i.0 ≡ h.number (h.origin x))).
            let known = r.each_view j v there in
            let same : y.0 ≡ k = r.once y.0 k y.1 (h.origin x, h.mark x) (known.base.hand_is y.0 (Some y.1) y.2) w.1 y.3 in
            absurd (not_home_held k j w.0 (subst (λ (c : ℕ). r.truth.place c ≡ held j) same (known.base.holds y.0 (has_found y.0 (Some y.1) v.hand y.2)))))
            ((r.each_view j v there).claimed (h.loop_of loops (h.origin x), role) (h.number (h.origin x)) (f.its_loop n ∙ sym role)))
