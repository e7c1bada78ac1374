-- A claim keeps the rule.
use Rattle.std.proofs.Common.{◌≡◌, ◌≢◌, ◌⊎◌, ℕ, eqb, ◌+◌, ◌*◌, ◌<◌, ◌≤◌, List, ◌∷◌, length, get_or, set, Some, Option, true, false, true≢false, refl, sym, ap, ◌∙◌, subst, inl, inr, ⊎_elim, arith, length-set}
use Rattle.std.specs.Prelude.{slice_index}
use mathlib.Core.Option.{some, none}
use mathlib.Core.Option as maybe
use mathlib.Core.Logic.{dite}
use native.Mathlib.Decide.{ℕ_discrete}
use lib.ListN.{get_elem?}
use prog.Atomic.{either}
use Rattle.atomic_table.specs.Table.{Me, step, takes, Allows}
use Rattle.atomic_table.proofs.Lists.{set_else, exchanged}
use Rattle.tow_model.specs.declared.account.Role.{Role}
use Rattle.tow_model.specs.declared.account.Role.TheVariants as roles
use Rattle.tow_board.specs.declared.view.View.{View}
use Rattle.tow_board.specs.Finds.{find, has}
use Rattle.tow_board.specs.Owners.{code_of, to_for, loop_number, role_number}
use Rattle.tow_board.specs.Views.{top_of, is_told, gained, took_back}
use Rattle.tow_board.specs.Rule.{Place, free, held, home, Kind, Truth, InPlace, loop_role, Continues, Told, IsLoop, FactIs, KeptIs, PostedIs, MainKnows, Knows}
use Rattle.tow_board.specs.Steps.{info_of, AfterClaim, ComesBack, claimed}
use Rattle.tow_board.specs.Answers.{IfYours, after_claim}
use Rattle.tow_board.specs.declared.hand.Claim.{Claim}
use Rattle.tow_board.specs.declared.hand.Claim.TheVariants.{Yours, Missed}
use Rattle.tow_board.proofs.Lists.{put, put_here, put_else, put_same_key, at_put, find_new, found_new, find_old, has_found, not_has}
use Rattle.tow_board.proofs.Seeing.{sees}
use Rattle.tow_board.proofs.Moves.{St, Rule, Moves, moved, changed, posted_still, told_stays, gains_hand, held_apart, loop_real, Goes}

pub yours_on : (r : Claim) (A B : Type 0) → (A → B) → IfYours r A → IfYours r B
yours_on Yours A B f a = f a
yours_on (Missed w) A B f a = a

not_home : (p : Place) (j : ℕ) → p ≡ home → p ≡ held j → ⊥
not_home p j e f = let z : home ≡ held j = sym e ∙ f in cc

some_is : {X : Type 0} (x y : X) → Some x ≡ Some y → x ≡ y
some_is x y e = cc

module _ {T O M : Type 0} (h : Kind T O M) (loops : ℕ) where
  abbrev V : Type 0
  V = View O M

  -- the slot k is found with the value x at its place, by a seat of the view v
  pub record Found (s : St h loops) (r : Rule h loops s) (id k code : ℕ) (v : V) (x : T) : Type 0 where
    pub near : k < length s.homes
    pub at : get_elem? s.views id ≡ some v
    pub real : v.role ≢ 0
    pub is_home : r.truth.place k ≡ home
    pub there : get_elem? s.homes k ≡ some (some (Some x))
    pub is : r.truth.facts k ≡ Some (info_of h x)
    pub fit : h.fits loops code x
    pub none_had : has k v.hand ≡ false

  module _ (s : St h loops) (r : Rule h loops s) (id k code : ℕ) (v : V) (x : T) (d : Found s r id k code v x) where
    info : O × M
    info = info_of h x

    m : ℕ
    m = h.number (h.origin x)

    not_held : (j : ℕ) → r.truth.place k ≢ held j
    not_held j e = not_home (r.truth.place k) j d.is_home e

    mine : Knows h loops r.truth (length s.homes) id v
    mine = r.each_view id v d.at

    fact_was : FactIs h loops r.truth s.views k (info_of h x)
    fact_was = r.each_fact k (info_of h x) d.is

    -- what stood with the number in another place
    once_more : (q : ℕ) (i : O × M) → r.truth.facts q ≡ Some i → h.number i.0 ≡ h.number (h.origin x) → q ≡ k
    once_more q i e num = r.once q k i (info_of h x) e d.is num

    -- what is the same for each role
    pub claim_moves : (w : V) (kept : List (ℕ × (O × M))) (begun : ℕ → ℕ)
        → w.role ≡ v.role → w.told ≡ v.told
        → (v.role ≢ 1 → kept ≡ r.truth.kept)
        → ((n : ℕ) → (begun n ≡ r.truth.begun n) ⊎ ((r.truth.begun n ≡ 0) × (begun n ≡ v.role) × IsLoop v × (n < top_of r.truth.numbers)))
        → ((n : ℕ) → n ≢ h.number (h.origin x) → (begun n ≡ r.truth.begun n) × (find n kept ≡ find n r.truth.kept))
        → (begun (h.number (h.origin x)) ≢ 0 → begun (h.number (h.origin x)) ≡ loop_role h loops (h.origin x))
        → ((g : O × M) → find (h.number (h.origin x)) kept ≡ Some g → (g ≡ info_of h x) × (held id ≡ held (r.truth.seat_of 1)))
        → Knows h loops (changed r.truth k (held id) (Some (info_of h x)) r.truth.numbers kept begun) (length s.homes) id w
        → Moves h loops s r id k 1 v w (held id) (Some (info_of h x)) r.truth.numbers kept begun (set s.homes k none)
    claim_moves w kept begun role told_same kept_same begins else its_loop in_kept known = record {
      near = d.near;
      at = d.at;
      real = d.real;
      role_same = role;
      as_long = length-set s.homes k none;
      rows = λ q ne. set_else s.homes k q none ne;
      here = refl;
      loose = λ j ne. held_apart id j ne;
      was = λ j ne. not_held j;
      not_main = λ other. (refl, kept_same other, (λ e. cc), (λ _ e. let z : home ≡ free = sym d.is_home ∙ e in cc));
      origin_same = λ other g e. (info_of h x, d.is, ap (λ (i : O × M). i.0) (some_is (info_of h x) g e));
      higher = omega arith;
      falls = r.falling;
      begins = begins;
      elsewhere = λ n apart. else n (λ z. apart (info_of h x) d.is (sym z));
      tells_on = λ n a e. subst (λ (l : List (ℕ × ℕ)). is_told n a l ≡ true) (sym told_same) e;
      fact = λ g e. subst (FactIs h loops t' (set s.views id w) k) (some_is (info_of h x) g e) now;
      new_number = λ g e q i ne there num. ne (once_more q i there (sym num ∙ ap (λ (y : O × M). h.number y.0) (sym (some_is (info_of h x) g e))));
      keeps_on = λ n g e. dite (ℕ_discrete n (h.number (h.origin x)))
          (λ same. let it = in_kept g (subst (λ (y : ℕ). find y kept ≡ Some g) same e) in
          subst (λ (y : ℕ × (O × M)). KeptIs h loops t' (set s.views id w) y.0 y.1) (λ i. (sym same i, sym it.0 i)) record { low = now.low; unclaimed = now.unclaimed; told = now.told })
          (λ apart. let o = else n apart in let old = r.each_kept n g (sym o.1 ∙ e) in record {
            low = old.low;
            unclaimed = λ z. old.unclaimed (sym o.0 ∙ z);
            told = λ a lt y. told_on n a (old.told a lt y);
          });
      posted_on = λ j u apart there n i e old. (
        (λ g eg num. subst (λ (y : O × M). Continues h.follows y i) (some_is (info_of h x) g eg) (old.since k (info_of h x) d.is (ap (λ (y : O × M). h.number y.0) (some_is (info_of h x) g eg) ∙ num) (λ _. not_held j))),
        (λ g eg. kept_follows u j n i g old eg),
      );
      mine = known;
    }
      where
        t' : Truth O M
        t' = changed r.truth k (held id) (Some (info_of h x)) r.truth.numbers kept begun

        told_on : (n a : ℕ) → Told s.views n a → Told (set s.views id w) n a
        told_on = told_stays h loops s.views id v w d.at (λ n a e. subst (λ (l : List (ℕ × ℕ)). is_told n a l ≡ true) (sym told_same) e)

        now : FactIs h loops (changed r.truth k (held id) (Some (info_of h x)) r.truth.numbers kept begun) (set s.views id w) k (info_of h x)
        now = record {
          low = fact_was.low;
          its_loop = its_loop;
          unclaimed = λ z. ⊎_elim
              (λ e. fact_was.unclaimed (sym e ∙ z))
              (λ (y : (r.truth.begun (h.number (h.origin x)) ≡ 0) × (begun (h.number (h.origin x)) ≡ v.role) × IsLoop v × (h.number (h.origin x) < top_of r.truth.numbers)). fact_was.unclaimed y.0)
              (begins (h.number (h.origin x)));
          told = λ a lt y. told_on (h.number (h.origin x)) a (fact_was.told a lt y);
          back = λ g e. put_here r.truth.place k (held id) ∙ (in_kept g e).1;
        }

        kept_follows : (u : V) (j n : ℕ) (i g : O × M) → PostedIs h loops r.truth j u n i → find n kept ≡ Some g → Continues h.follows g i
        kept_follows u j n i g old e = dite (ℕ_discrete n (h.number (h.origin x)))
            (λ same. let it = in_kept g (subst (λ (y : ℕ). find y kept ≡ Some g) same e) in
            subst (λ (y : O × M). Continues h.follows y i) (sym it.0) (old.since k (info_of h x) d.is (sym same) (λ _. not_held j)))
            (λ apart. old.kept g (sym (else n apart).1 ∙ e))

    -- what was posted, by the seat that claims
    mine_posted : (w : V) (kept : List (ℕ × (O × M))) (begun : ℕ → ℕ) → w.role ≡ v.role → w.posted ≡ v.posted
        → ((n : ℕ) → n ≢ h.number (h.origin x) → find n kept ≡ find n r.truth.kept)
        → ((g : O × M) → find (h.number (h.origin x)) kept ≡ Some g → g ≡ info_of h x)
        → (n : ℕ) (i : O × M) → find n w.posted ≡ Some i → PostedIs h loops (changed r.truth k (held id) (Some (info_of h x)) r.truth.numbers kept begun) id w n i
    mine_posted w kept begun role same else in_kept n i e =
        let old = mine.posted_is n i (subst (λ (l : List (ℕ × (O × M))). find n l ≡ Some i) same e) in
        posted_still h loops r.truth k id (held id) (Some (info_of h x)) r.truth.numbers kept begun v w n i role (omega arith) old
        (λ g eg num _. subst (λ (y : O × M). Continues h.follows y i) (some_is (info_of h x) g eg) (old.since k (info_of h x) d.is (ap (λ (y : O × M). h.number y.0) (some_is (info_of h x) g eg) ∙ num) (λ _. not_held id)))
        (λ g eg. dite (ℕ_discrete n (h.number (h.origin x)))
        (λ z. subst (λ (y : O × M). Continues h.follows y i) (sym (in_kept g (subst (λ (y : ℕ). find y kept ≡ Some g) z eg))) (old.since k (info_of h x) d.is (sym z) (λ _. not_held id)))
        (λ apart. old.kept g (sym (else n apart) ∙ eg)))

    -- the number was never kept
    never_kept : (g : O × M) → find (h.number (h.origin x)) r.truth.kept ≡ Some g → ⊥
    never_kept g e = not_held (r.truth.seat_of 1) (fact_was.back g e)

    by_worker : v.role ≢ 1 → (IsLoop v → ⊥)
        → Moves h loops s r id k 1 v (gained h.number v k (info_of h x)) (held id) (Some (info_of h x)) r.truth.numbers r.truth.kept r.truth.begun (set s.homes k none)
    by_worker other no_loop = claim_moves (gained h.number v k (info_of h x)) r.truth.kept r.truth.begun refl refl (λ _. refl) (λ n. inl refl) (λ n _. (refl, refl)) fact_was.its_loop (λ g e. absurd (never_kept g e)) record {
      base = gains_hand h loops r.truth (length s.homes) id k (Some (info_of h x)) r.truth.numbers r.truth.kept r.truth.begun v (gained h.number v k (info_of h x)) d.near refl refl (λ q ne. find_old k q (Some (info_of h x)) v.hand ne) (find_new k (Some (info_of h x)) v.hand) mine.base;
      hand_loop = λ loop. absurd (no_loop loop);
      posted_is = mine_posted (gained h.number v k (info_of h x)) r.truth.kept r.truth.begun refl refl (λ n _. refl) (λ g e. absurd (never_kept g e));
      claimed = λ loop. absurd (no_loop loop);
      main = λ its. absurd (other its);
    }

    by_loop : (l : IsLoop v) → v.role ≡ loop_role h loops (h.origin x)
        → Moves h loops s r id k 1 v (gained h.number v k (info_of h x)) (held id) (Some (info_of h x)) r.truth.numbers r.truth.kept (put r.truth.begun (h.number (h.origin x)) v.role) (set s.homes k none)
    by_loop loop its = claim_moves w r.truth.kept begun refl refl (λ _. refl) begins
        (λ n apart. (put_else r.truth.begun (h.number (h.origin x)) v.role n apart, refl))
        (λ _. put_here r.truth.begun (h.number (h.origin x)) v.role ∙ its) (λ g e. absurd (never_kept g e)) record {
          base = gains_hand h loops r.truth (length s.homes) id k (Some (info_of h x)) r.truth.numbers r.truth.kept begun v w d.near refl refl (λ q ne. find_old k q (Some (info_of h x)) v.hand ne) (find_new k (Some (info_of h x)) v.hand) mine.base;
          hand_loop = λ _ q i e. dite (ℕ_discrete q k)
              (λ here. let is : info_of h x ≡ i = some_is (info_of h x) i (found_new k (Some (info_of h x)) (Some i) v.hand (subst (λ (y : ℕ). find y ((k, Some (info_of h x)) ∷ v.hand) ≡ Some (Some i)) here e)) in
              subst (λ (y : O × M). (v.role ≡ loop_role h loops y.0) × (begun (h.number y.0) ≡ v.role)) is (its, put_here r.truth.begun (h.number (h.origin x)) v.role))
              (λ ne. let old = mine.hand_loop loop q i (sym (find_old k q (Some (info_of h x)) v.hand ne) ∙ e) in
              (old.0, at_put r.truth.begun (h.number (h.origin x)) v.role (h.number i.0) (λ y. y ≡ v.role) (λ _. refl) (λ _. old.1)));
          posted_is = mine_posted w r.truth.kept begun refl refl (λ n _. refl) (λ g e. absurd (never_kept g e));
          claimed = λ _ n e. dite (ℕ_discrete n (h.number (h.origin x)))
              (λ same. inr (k, info_of h x, find_new k (Some (info_of h x)) v.hand, sym same))
              (λ apart. ⊎_elim (λ y. inl y)
              (λ (y : (q : ℕ) × (i : O × M) × (find q v.hand ≡ Some (Some i)) × (h.number i.0 ≡ n)). inr (y.0, y.1, find_old k y.0 (Some (info_of h x)) v.hand (λ z. true≢false (sym (subst (λ (c : ℕ). has c v.hand ≡ true) z (has_found y.0 (Some y.1) v.hand y.2)) ∙ d.none_had)) ∙ y.2, y.3))
              (mine.claimed loop n (sym (put_else r.truth.begun (h.number (h.origin x)) v.role n apart) ∙ e)));
          main = λ one. absurd ((loop_real h loops v loop).1 one);
        }
      where
        w : V
        w = gained h.number v k (info_of h x)

        begun : ℕ → ℕ
        begun = put r.truth.begun (h.number (h.origin x)) v.role

        begins : (n : ℕ) → (put r.truth.begun (h.number (h.origin x)) v.role n ≡ r.truth.begun n) ⊎ ((r.truth.begun n ≡ 0) × (put r.truth.begun (h.number (h.origin x)) v.role n ≡ v.role) × IsLoop v × (n < top_of r.truth.numbers))
        begins n = dite (ℕ_discrete n (h.number (h.origin x)))
            (λ same. dite (ℕ_discrete (r.truth.begun n) 0)
            (λ z. inr (z, put_same_key r.truth.begun (h.number (h.origin x)) v.role n same, loop, subst (λ (y : ℕ). y < top_of r.truth.numbers) (sym same) fact_was.low))
            (λ nz. inl (put_same_key r.truth.begun (h.number (h.origin x)) v.role n same ∙ (its ∙ sym (ap r.truth.begun same ∙ fact_was.its_loop (λ y. nz (ap r.truth.begun same ∙ y)))))))
            (λ apart. inl (put_else r.truth.begun (h.number (h.origin x)) v.role n apart))

    by_main : v.role ≡ 1
        → Moves h loops s r id k 1 v (took_back h.number v k (info_of h x)) (held id) (Some (info_of h x)) r.truth.numbers ((h.number (h.origin x), info_of h x) ∷ r.truth.kept) r.truth.begun (set s.homes k none)
    by_main main = claim_moves w kept r.truth.begun refl refl (λ other. absurd (other main)) (λ n. inl refl)
        (λ n apart. (refl, find_old (h.number (h.origin x)) n (info_of h x) r.truth.kept apart))
        fact_was.its_loop (λ g e. (in_kept g e, ap held (sym (ap r.truth.seat_of (sym main) ∙ mine.base.seat_is d.real)))) record {
          base = gains_hand h loops r.truth (length s.homes) id k (Some (info_of h x)) r.truth.numbers kept r.truth.begun v w d.near refl refl (λ q ne. find_old k q (Some (info_of h x)) v.hand ne) (find_new k (Some (info_of h x)) v.hand) mine.base;
          hand_loop = λ loop. absurd ((loop_real h loops v loop).1 main);
          posted_is = mine_posted w kept r.truth.begun refl refl (λ n apart. find_old (h.number (h.origin x)) n (info_of h x) r.truth.kept apart) in_kept;
          claimed = λ loop. absurd ((loop_real h loops v loop).1 main);
          main = λ _. record {
            given_is = old.given_is;
            joined_is = old.joined_is;
            numbers_is = old.numbers_is;
            kept_is = ap (λ (l : List (ℕ × (O × M))). (h.number (h.origin x), info_of h x) ∷ l) old.kept_is;
            live_is = λ q lt. at_put r.truth.place k (held id) q (λ y. y ≡ free → has q v.live ≡ false) (λ _ e. absurd (cc)) (λ _. old.live_is q lt);
            live_has = λ q lt. at_put r.truth.place k (held id) q (λ y. y ≢ free → has q v.live ≡ true) (λ here _. old.live_has q lt (λ e. let z : home ≡ free = sym d.is_home ∙ (ap r.truth.place (sym here) ∙ e) in cc)) (λ _. old.live_has q lt);
            live_origin = λ q g e. dite (ℕ_discrete q k)
                (λ here. let is = some_is (info_of h x) g (sym (put_same_key r.truth.facts k (Some (info_of h x)) q here) ∙ e) in
                subst (λ (y : O × M). find q v.live ≡ Some (Some y.0)) is (old.live_origin q (info_of h x) (ap r.truth.facts here ∙ d.is)))
                (λ ne. old.live_origin q g (sym (put_else r.truth.facts k (Some (info_of h x)) q ne) ∙ e));
            posted_has = old.posted_has;
          };
        }
      where
        w : V
        w = took_back h.number v k (info_of h x)

        kept : List (ℕ × (O × M))
        kept = (h.number (h.origin x), info_of h x) ∷ r.truth.kept

        old : MainKnows h loops r.truth (length s.homes) v
        old = mine.main main

        in_kept : (g : O × M) → find (h.number (h.origin x)) ((h.number (h.origin x), info_of h x) ∷ r.truth.kept) ≡ Some g → g ≡ info_of h x
        in_kept g e = sym (found_new (h.number (h.origin x)) (info_of h x) g r.truth.kept e)

    -- what the seat learns of the value
    comes_back : (IsLoop v → v.role ≡ loop_role h loops (h.origin x)) → ComesBack h.number h.fresh h.follows v (info_of h x)
    comes_back its = record {
      again = λ i e. (mine.posted_is (h.number (h.origin x)) i e).since k (info_of h x) d.is refl (λ _. not_held id);
      first = λ loop new. dite (ℕ_discrete (r.truth.begun (h.number (h.origin x))) 0)
          (λ z. fact_was.unclaimed z)
          (λ nz. ⊎_elim
          (λ y. absurd (true≢false (sym y ∙ new)))
          (λ (y : (q : ℕ) × (i : O × M) × (find q v.hand ≡ Some (Some i)) × (h.number i.0 ≡ h.number (h.origin x))).
          let same : y.0 ≡ k = once_more y.0 y.1 (mine.base.hand_is y.0 (Some y.1) y.2) y.3 in
          absurd (true≢false (sym (subst (λ (c : ℕ). has c v.hand ≡ true) same (has_found y.0 (Some y.1) v.hand y.2)) ∙ d.none_had)))
          (mine.claimed loop (h.number (h.origin x)) (fact_was.its_loop nz ∙ sym (its loop))));
    }

  at_home : (word : ℕ) (at : maybe.Option (maybe.Option (Option T))) (fact : Option (O × M)) (p : Place) → InPlace h loops word at fact p → 2 ≤ word
      → (p ≡ home) × ((x : T) × (at ≡ some (some (Some x))) × h.fits loops word x × (fact ≡ Some (info_of h x)))
  at_home word at fact free z le = absurd (let y : word ≡ 0 = z.0 in omega arith)
  at_home word at fact (held j) z le = absurd (let y : word ≡ 1 = z in omega arith)
  at_home word at fact home z le = (refl, z.2)

  claim_of : (s : St h loops) (r : Rule h loops s) (id k code : ℕ) (v : V) (x : T) (cs : List (ℕ × Option T)) (role : Role) → Found s r id k code v x → v.role ≡ role_number role → code ≡ code_of (to_for role)
      → ((l : ℕ) → h.fits loops (4 + l) x → l ≡ h.loop_of loops (h.origin x))
      → (told : ℕ → Me (Option T) V → Type 0) → ((w : V) → AfterClaim h.number v k (info_of h x) w → ComesBack h.number h.fresh h.follows v (info_of h x) → told (slice_index s.words k) (w, (k, Some x) ∷ cs))
      → Goes h loops s k id (v, cs) told 1
  claim_of s r id k code v x cs roles.Main d is may one told tells =
      let w : V = took_back h.number v k (info_of h x) in
      let no_loop : IsLoop v → ⊥ = λ loop. (loop_real h loops v loop).1 is in
      (w, takes k (Some x), d.there, moved h loops s r id k 1 v w (held id) (Some (info_of h x)) r.truth.numbers ((h.number (h.origin x), info_of h x) ∷ r.truth.kept) r.truth.begun (set s.homes k none) (by_main s r id k code v x d is), tells w record { by_main = λ _. refl; by_others = λ other. absurd (other is) } (comes_back s r id k code v x d (λ loop. absurd (no_loop loop))))
  claim_of s r id k code v x cs (roles.Loop l) d is may one told tells =
      let w : V = gained h.number v k (info_of h x) in
      let loop : IsLoop v = (l, is) in
      let its : v.role ≡ loop_role h loops (h.origin x) = is ∙ ap loop_number (one l (subst (λ (c : ℕ). h.fits loops c x) may d.fit)) in
      (w, takes k (Some x), d.there, moved h loops s r id k 1 v w (held id) (Some (info_of h x)) r.truth.numbers r.truth.kept (put r.truth.begun (h.number (h.origin x)) v.role) (set s.homes k none) (by_loop s r id k code v x d loop its), tells w record { by_main = λ main. absurd ((loop_real h loops v loop).1 main); by_others = λ _. refl } (comes_back s r id k code v x d (λ _. its)))
  claim_of s r id k code v x cs (roles.Worker i) d is may one told tells =
      let w : V = gained h.number v k (info_of h x) in
      let no_loop : IsLoop v → ⊥ = λ loop. let a : v.role ≡ 2 + 2 * loop.0 = loop.1 in let b : v.role ≡ 3 + 2 * i = is in let n : ℕ = loop.0 in absurd (omega arith) in
      let other : v.role ≢ 1 = λ main. let b : v.role ≡ 3 + 2 * i = is in absurd (omega arith) in
      (w, takes k (Some x), d.there, moved h loops s r id k 1 v w (held id) (Some (info_of h x)) r.truth.numbers r.truth.kept r.truth.begun (set s.homes k none) (by_worker s r id k code v x d other no_loop), tells w record { by_main = λ main. absurd (other main); by_others = λ _. refl } (comes_back s r id k code v x d (λ loop. absurd (no_loop loop))))

  pub claims : ((l : ℕ) (x : T) → h.fits loops (4 + l) x → l ≡ h.loop_of loops (h.origin x)) → (slots id : ℕ) (me : Me (Option T) V) (k code : ℕ) (role : Role)
      → me.0.role ≡ role_number role → me.0.role ≢ 0 → k < slots → code ≡ code_of (to_for role) → 2 ≤ code
      → Allows (Rule h loops) slots id me k (λ n. either (eqb n code) 1 n) (claimed h (step slots k code 1 none) me)
  claims one slots id me k code role is real near may le s r wide at low =
      let y : ℕ = get_or s.words k 0 in let near' : k < length s.homes = subst (λ (n : ℕ). k < n) (sym wide) near in
      let told = claimed h (step slots k code 1 none) me in
      let v : V = me.0 in let mine = r.each_view id v at in
      exchanged y code 1 (Goes h loops s k id me told)
      (λ hit.
      let it = at_home y (get_elem? s.homes k) (r.truth.facts k) (r.truth.place k) (r.each_slot k near') (subst (λ (n : ℕ). 2 ≤ n) (sym hit) le) in
      let x : T = it.1.0 in
      let fit : h.fits loops code x = subst (λ (n : ℕ). h.fits loops n x) hit it.1.2 in
      let none_had : has k v.hand ≡ false = not_has (has k v.hand) (λ z. not_home (r.truth.place k) id it.0 (mine.base.holds k z)) in
      claim_of s r id k code v x me.1 role record { near = near'; at = at; real = real; is_home = it.0; there = it.1.1; is = it.1.3; fit = fit; none_had = none_had } is may (λ l. one l x) told
      (λ w after back. ((λ _. (none_had, (x, refl, after, subst (λ (n : ℕ). h.fits n code x) (sym (mine.base.loops_is real)) fit, back))), (λ miss. absurd (miss hit)))))
      (λ miss. sees h loops s r id k me told (Some (k, slice_index s.words k)) at near' ((λ hit. absurd (miss hit)), (λ _. refl)))

  -- what a claim told, by the role of the seat
  pub after_claim_is : (role : Role) (v w : V) (k : ℕ) (i : O × M) → v.role ≡ role_number role → AfterClaim h.number v k i w → w ≡ after_claim h.number role v k i
  after_claim_is roles.Main v w k i is told = told.by_main is
  after_claim_is (roles.Loop l) v w k i is told = told.by_others (λ main. let b : v.role ≡ 2 + 2 * l = is in absurd (omega arith))
  after_claim_is (roles.Worker l) v w k i is told = told.by_others (λ main. let b : v.role ≡ 3 + 2 * l = is in absurd (omega arith))
