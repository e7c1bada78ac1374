-- Opening a slot, freeing one and looking at one keep the rule, which holds at first.
use Rattle.std.proofs.Common.{◌≡◌, ◌≢◌, ℕ, zero, suc, ◌<◌, ◌≤◌, List, [], ◌∷◌, map, length, get_or, set, Some, None, Option, true, false, true≢false, refl, sym, ◌∙◌, subst, inl, ⊎_elim, arith, length-set}
use Rattle.std.specs.Prelude.{slice_index}
use Rattle.std.proofs.lemmas.List.{length-map}
use mathlib.Core.Option.{some, none, some-ne-none, some-injective}
use mathlib.Core.Option as maybe
use mathlib.Core.Logic.{dite}
use native.Mathlib.Decide.{ℕ_discrete}
use lib.ListN.{get_elem?, replicate, length-replicate, get_or-replicate}
use Rattle.atomic_table.specs.Table.{Me, step, takes, gives, Allows, opening}
use Rattle.atomic_table.proofs.Lists.{set_here, set_else}
use Rattle.tow_board.specs.declared.view.View.{View}
use Rattle.tow_board.specs.Finds.{find, has, without}
use Rattle.tow_board.specs.Views.{is_told, main_view, began, retired}
use Rattle.tow_board.specs.Rule.{Place, free, held, home, Kind, Truth, InPlace, MainKnows, Knows, Holds}
use Rattle.tow_board.specs.Steps.{opened, looked, looked_for, ended}
use Rattle.tow_board.proofs.Lists.{put_else, put_same_key, at_put, at_vacant, find_new, find_old, find_without, has_new, has_old, has_else, has_gone, not_has}
use Rattle.tow_board.proofs.Seeing.{sees}
use Rattle.tow_board.proofs.Moves.{St, Rule, Moves, moved, changed, posted_still, told_stays, gains_hand, loses_hand, held_apart, is_free, loop_real, stays}

module _ {T O M : Type 0} (h : Kind T O M) (loops : ℕ) where
  abbrev V : Type 0
  V = View O M

  free_at : (word : ℕ) (at : maybe.Option (maybe.Option (Option T))) (fact : Option (O × M)) (p : Place) → InPlace h loops word at fact p → word ≡ 0 → p ≡ free
  free_at word at fact free z e = refl
  free_at word at fact (held j) z e = absurd (let y : word ≡ 1 = z in omega arith)
  free_at word at fact home z e = absurd (let y : 2 ≤ word = z.0 in omega arith)

  -- the slot k goes to main's hand, or leaves it, with nothing known of a value
  main_moves : (s : St h loops) (r : Rule h loops s) (id k word : ℕ) (v w : V) (p : Place) (homes : List (maybe.Option (Option T)))
      → k < length s.homes → get_elem? s.views id ≡ some v → v.role ≡ 1 → w.role ≡ v.role → w.told ≡ v.told
      → length homes ≡ length s.homes → ((q : ℕ) → q ≢ k → get_elem? homes q ≡ get_elem? s.homes q)
      → InPlace h loops word (get_elem? homes k) None p
      → ((j : ℕ) → j ≢ id → p ≢ held j) → ((j : ℕ) → j ≢ id → r.truth.place k ≢ held j)
      → Holds h loops (changed r.truth k p None r.truth.numbers r.truth.kept r.truth.begun) (length s.homes) id w
      → w.posted ≡ v.posted
      → MainKnows h loops (changed r.truth k p None r.truth.numbers r.truth.kept r.truth.begun) (length s.homes) w
      → Moves h loops s r id k word v w p None r.truth.numbers r.truth.kept r.truth.begun homes
  main_moves s r id k word v w p homes near at main role told_same as_long rows here loose was base posted_same main_now = record {
    near = near;
    at = at;
    real = λ z. absurd (let y : 0 ≡ 1 = sym z ∙ main in omega arith);
    role_same = role;
    as_long = as_long;
    rows = rows;
    here = here;
    loose = loose;
    was = was;
    not_main = λ other. absurd (other main);
    origin_same = λ other. absurd (other main);
    higher = omega arith;
    falls = r.falling;
    begins = λ n. inl refl;
    elsewhere = λ n _. (refl, refl);
    tells_on = on;
    fact = λ g z. absurd (cc);
    new_number = λ g z. absurd (cc);
    keeps_on = λ n g z. let old = r.each_kept n g z in record { low = old.low; unclaimed = old.unclaimed; told = λ a lt y. told_stays h loops s.views id v w at on n a (old.told a lt y) };
    posted_on = λ j u apart there n i z old. ((λ g eg num. absurd (cc)), old.kept);
    mine = record {
      base = base;
      hand_loop = λ loop. absurd ((loop_real h loops w loop).1 (role ∙ main));
      posted_is = λ n i z. let old = knows.posted_is n i (subst (λ (l : List (ℕ × (O × M))). find n l ≡ Some i) posted_same z) in
          posted_still h loops r.truth k id p None r.truth.numbers r.truth.kept r.truth.begun v w n i role (omega arith) old (λ g eg _ _. absurd (cc)) old.kept;
      claimed = λ loop. absurd ((loop_real h loops w loop).1 (role ∙ main));
      main = λ _. main_now;
    };
  }
    where
      knows : Knows h loops r.truth (length s.homes) id v
      knows = r.each_view id v at

      on : (n a : ℕ) → is_told n a v.told ≡ true → is_told n a w.told ≡ true
      on n a e = subst (λ (l : List (ℕ × ℕ)). is_told n a l ≡ true) (sym told_same) e

  pub opens : (slots id : ℕ) (me : Me (Option T) V) (k : ℕ) → me.0.role ≡ 1 → k < slots → has k me.0.live ≡ false → Allows (Rule h loops) slots id me k (λ _. 1) (λ _. opened (step slots k 1 0 none) me 1)
  opens slots id me k main near dead s r wide at low =
      let v : V = me.0 in let near' : k < length s.homes = subst (λ (m : ℕ). k < m) (sym wide) near in
      let mine = r.each_view id v at in let old = mine.main main in
      let was : r.truth.place k ≡ free = is_free (r.truth.place k) (λ n. true≢false (sym (old.live_has k near' n) ∙ dead)) in
      let there : InPlace h loops (get_or s.words k 0) (get_elem? s.homes k) (r.truth.facts k) free = subst (InPlace h loops (get_or s.words k 0) (get_elem? s.homes k) (r.truth.facts k)) was (r.each_slot k near') in
      let none_had : has k v.hand ≡ false = not_has (has k v.hand) (λ z. let y : free ≡ held id = sym was ∙ mine.base.holds k z in cc) in (
        began v k,
        takes k None,
        there.1,
        moved h loops s r id k 1 v (began v k) (held id) None r.truth.numbers r.truth.kept r.truth.begun (set s.homes k none)
            (main_moves s r id k 1 v (began v k) (held id) (set s.homes k none) near' at main refl refl (length-set s.homes k none) (λ q ne. set_else s.homes k q none ne) refl
            (λ j ne. held_apart id j ne) (λ j ne e. let z : free ≡ held j = sym was ∙ e in cc)
            (gains_hand h loops r.truth (length s.homes) id k None r.truth.numbers r.truth.kept r.truth.begun v (began v k) near' refl refl (λ q ne. find_old k q None v.hand ne) (find_new k None v.hand) mine.base)
            refl
            record {
              given_is = old.given_is;
              joined_is = old.joined_is;
              numbers_is = old.numbers_is;
              kept_is = old.kept_is;
              live_is = λ q lt. at_put r.truth.place k (held id) q (λ y. y ≡ free → has q ((k, None) ∷ v.live) ≡ false) (λ _ e. absurd (cc)) (λ ne e. has_old k q None v.live ne ∙ old.live_is q lt e);
              live_has = λ q lt. at_put r.truth.place k (held id) q (λ y. y ≢ free → has q ((k, None) ∷ v.live) ≡ true) (λ e _. subst (λ (c : ℕ). has c ((k, None) ∷ v.live) ≡ true) (sym e) (has_new k None v.live)) (λ ne e. has_old k q None v.live ne ∙ old.live_has q lt e);
              live_origin = λ q g eg. dite (ℕ_discrete q k)
                  (λ e. absurd (let z : None ≡ Some g = sym (put_same_key r.truth.facts k None q e) ∙ eg in cc))
                  (λ ne. find_old k q None v.live ne ∙ old.live_origin q g (sym (put_else r.truth.facts k None q ne) ∙ eg));
              posted_has = old.posted_has;
            }),
        (refl, refl, none_had),
      )

  pub ends : (slots id : ℕ) (v : V) (k : ℕ) (more : List (ℕ × Option T)) → v.role ≡ 1 → has k v.hand ≡ true
      → Allows (Rule h loops) slots id (v, (k, None) ∷ more) k (λ _. 0) (λ _. ended (step slots k 0 0 none) (v, (k, None) ∷ more) 0)
  ends slots id v k more main has_it s r wide at low =
      let mine = r.each_view id v at in let old = mine.main main in let near' : k < length s.homes = mine.base.within k has_it in
      let is_held : r.truth.place k ≡ held id = mine.base.holds k has_it in (
        retired v k,
        gives,
        tt,
        moved h loops s r id k 0 v (retired v k) free None r.truth.numbers r.truth.kept r.truth.begun (set s.homes k (some None))
            (main_moves s r id k 0 v (retired v k) free (set s.homes k (some None)) near' at main refl refl (length-set s.homes k (some None)) (λ q ne. set_else s.homes k q (some None) ne)
            (refl, set_here s.homes k (some None) near')
            (λ j ne e. cc) (λ j ne e. held_apart id j ne (sym is_held ∙ e))
            (loses_hand h loops r.truth (length s.homes) id k free None r.truth.numbers r.truth.kept r.truth.begun v (retired v k) (λ e. cc) refl refl (λ q ne. find_without k q v.hand ne) (has_gone k v.hand) mine.base)
            refl
            record {
              given_is = old.given_is;
              joined_is = old.joined_is;
              numbers_is = old.numbers_is;
              kept_is = old.kept_is;
              live_is = λ q lt. at_put r.truth.place k free q (λ y. y ≡ free → has q (without k v.live) ≡ false) (λ e _. subst (λ (c : ℕ). has c (without k v.live) ≡ false) (sym e) (has_gone k v.live)) (λ ne e. has_else k q v.live ne ∙ old.live_is q lt e);
              live_has = λ q lt. at_put r.truth.place k free q (λ y. y ≢ free → has q (without k v.live) ≡ true) (λ _ n. absurd (n refl)) (λ ne e. has_else k q v.live ne ∙ old.live_has q lt e);
              live_origin = λ q g eg. dite (ℕ_discrete q k)
                  (λ e. absurd (let z : None ≡ Some g = sym (put_same_key r.truth.facts k None q e) ∙ eg in cc))
                  (λ ne. find_without k q v.live ne ∙ old.live_origin q g (sym (put_else r.truth.facts k None q ne) ∙ eg));
              posted_has = old.posted_has;
            }),
        (refl, refl),
      )

  pub looks : (slots id : ℕ) (me : Me (Option T) V) (k : ℕ) → me.0.role ≡ 1 → k < slots → Allows (Rule h loops) slots id me k (λ n. n) (looked (step slots k 0 0 none) me)
  looks slots id me k main near s r wide at low =
      let near' : k < length s.homes = subst (λ (m : ℕ). k < m) (sym wide) near in
      let old = (r.each_view id me.0 at).main main in
      let y : ℕ = get_or s.words k 0 in
      stays h loops s r id k me (looked (step slots k 0 0 none) me) at near' (
        refl,
        (λ e. old.live_is k near' (free_at y (get_elem? s.homes k) (r.truth.facts k) (r.truth.place k) (r.each_slot k near') e)),
        (λ ne. old.live_has k near' (λ e. ne (let z : InPlace h loops y (get_elem? s.homes k) (r.truth.facts k) free = subst (InPlace h loops y (get_elem? s.homes k) (r.truth.facts k)) e (r.each_slot k near') in z.0))),
      )

  pub looks_for : (slots id : ℕ) (me : Me (Option T) V) (k : ℕ) → k < slots → Allows (Rule h loops) slots id me k (λ n. n) (looked_for (step slots k 0 0 none) me)
  looks_for slots id me k near s r wide at low = sees h loops s r id k me (looked_for (step slots k 0 0 none) me) (Some (k, slice_index s.words k)) at (subst (λ (m : ℕ). k < m) (sym wide) near) refl

  abbrev nones : ℕ → List (Option T)
  nones n = replicate n None

  abbrev homes_of : ℕ → List (maybe.Option (Option T))
  homes_of n = map some (nones n)

  length-homes : (n : ℕ) → length (homes_of n) ≡ n
  length-homes n = simp (length-map, length-replicate)

  -- what there is at first
  abbrev at_first : Truth O M
  at_first = record { place = λ _. free; facts = λ _. None; seat_of = λ _. 0; given = []; joined = []; numbers = []; kept = []; begun = λ _. 0 }

  pub starts : (n : ℕ) → Rule h loops (opening (replicate n 0) (nones n) (main_view loops))
  starts n = record {
    truth = at_first;
    wide = length-replicate n 0 ∙ sym (length-homes n);
    seated = λ q j e. absurd (cc);
    each_slot = λ k lt. let lt' : k < n = subst (λ (m : ℕ). k < m) (length-homes n) lt in (get_or-replicate n k 0 0 lt', at_vacant n None k lt');
    each_view = one;
    each_role = λ q g. ⊎_elim (λ e. (main_view loops, refl, sym e)) (λ (z : (false ≡ true) × (false ≡ false)). absurd (cc)) g;
    joined_given = λ q g. absurd (cc);
    each_begun = λ m g. absurd (g refl);
    falling = tt;
    each_fact = λ k f e. absurd (cc);
    once = λ k q f g e. absurd (cc);
    each_kept = λ m g e. absurd (cc);
  }
    where
      one : (j : ℕ) (v : V) → get_elem? (main_view loops ∷ []) j ≡ some v → Knows h loops at_first (length (homes_of n)) j v
      one zero v e = subst (Knows h loops at_first (length (homes_of n)) 0) (some-injective (main_view loops) v e) record {
        base = record {
          loops_is = λ _. refl;
          seat_is = λ _. refl;
          was_given = λ _ other. absurd (other refl);
          within = λ k has_it. absurd (cc);
          holds = λ k has_it. absurd (cc);
          held_here = λ k z. absurd (cc);
          hand_is = λ k i z. absurd (cc);
        };
        hand_loop = λ loop k i z. absurd (cc);
        posted_is = λ m i z. absurd (cc);
        claimed = λ loop. absurd ((loop_real h loops (main_view loops) loop).1 refl);
        main = λ _. record {
          given_is = refl;
          joined_is = refl;
          numbers_is = refl;
          kept_is = refl;
          live_is = λ k lt z. refl;
          live_has = λ k lt z. absurd (z refl);
          live_origin = λ k f z. absurd (cc);
          posted_has = λ m z. absurd (cc);
        };
      }
      one (suc j) v e = absurd (some-ne-none v (sym e))
