-- Passes are issued and collected, and no call changes.
use Rattle.std.proofs.Common.{◌≡◌, ◌≢◌, ◌⊎◌, ℕ, zero, suc, ◌==◌, List, [], ◌∷◌, ◌++◌, length, set, get_or, replicate, Some, cond, refl, sym, ap, ◌∙◌, subst, inl, inr, ⊎_elim, eq-eqb, ne_eqb, arith, length-set}
use mathlib.Core.Option.{some, some-ne-none, some-injective}
use mathlib.Core.Logic.{dite}
use native.Mathlib.Decide.{ℕ_discrete}
use lib.ListN.{get_elem?}
use Rattle.atomic_table.specs.Table.{State, Splits, Joins, opening}
use Rattle.atomic_table.proofs.Lists.{at_set, set_else, at_longer, at_last}
use Rattle.tow_model.specs.declared.account.Bound.{Bound}
use Rattle.tow_pass.specs.declared.view.View.{View}
use Rattle.tow_pass.specs.Calls.{Numbered, Holder, Nobody, Of_main, Of_connection}
use Rattle.tow_pass.specs.Views.{opening_view, spent_view, issues, newcomer, number_of, keeps_calls, kept_of}
use Rattle.tow_pass.specs.Rule.{LimitRule, Place, Not_issued, Out, Collected, kept_at, Knows, PassRule}
use Rattle.tow_pass.proofs.Steps.{connection_is, not_main}

at_end : {A : Type 0} (l : List A) (a b : A) (j : ℕ) → get_elem? (l ++ a ∷ []) j ≡ some b → (get_elem? l j ≡ some b) ⊎ ((j ≡ length l) × (a ≡ b))
at_end [] a b zero e = inr (refl, some-injective a b e)
at_end [] a b (suc j) e = absurd (some-ne-none b (sym e))
at_end (x ∷ xs) a b zero e = inl e
at_end (x ∷ xs) a b (suc j) e = ⊎_elim (λ h. inl h) (λ (h : (j ≡ length xs) × (a ≡ b)). inr (ap suc h.0, h.1)) (at_end xs a b j e)

puts : (ℕ → Place) → ℕ → Place → ℕ → Place
puts f k p q = cond (q == k) p (f q)

puts_at : (f : ℕ → Place) (k : ℕ) (p : Place) (q : ℕ) → q ≡ k → puts f k p q ≡ p
unfolding puts
puts_at f k p q e = rw (eq-eqb q k e) refl

puts_else : (f : ℕ → Place) (k : ℕ) (p : Place) (q : ℕ) → q ≢ k → puts f k p q ≡ f q
unfolding puts
puts_else f k p q n = rw (ne_eqb q k n) refl

seat_is : (i j : ℕ) → Out i ≡ Out j → i ≡ j
seat_is i j e = cc

out_not_new : (i : ℕ) → Out i ≢ Not_issued
out_not_new i e = absurd (cc)

main_not : (k : ℕ) → Of_main ≢ Of_connection k
main_not k e = absurd (cc)

no_holder : (k : ℕ) → Nobody ≢ Of_connection k
no_holder k e = absurd (cc)

nobody_not_main : Nobody ≢ Of_main
nobody_not_main e = absurd (cc)

collected_not_out : (i : ℕ) → Collected ≢ Out i
collected_not_out i e = absurd (cc)

collected_not_new : Collected ≢ Not_issued
collected_not_new e = absurd (cc)

number_is : (v : View) (k : ℕ) → v.holder ≡ Of_connection k → number_of v ≡ k
number_is v k e = ap (λ (h : Holder). number_of (record { holder = h; calls = v.calls; issued = v.issued; kept = v.kept })) e

abbrev zeros : ℕ → List ℕ
zeros n = replicate n 0

zero_at : (n i : ℕ) → get_or (zeros n) i 0 ≡ 0
zero_at zero i = refl
zero_at (suc n) zero = refl
zero_at (suc n) (suc i) = zero_at n i

long : (n : ℕ) → length (zeros n) ≡ n
long zero = refl
long (suc n) = ap suc (long n)

module _ {S : Type 0} (bounds : List Bound) where
  pub issued : (id : ℕ) (v : View) → v.holder ≡ Of_main → Splits (PassRule {S = S} bounds) id v (issues v) (newcomer v)
  issued id v main s r at =
      let mine = r.each_view id v at in
      let n : ℕ = v.issued in
      let is : n ≡ r.issued = mine.issues main in
      let vs : List View = set s.views id (issues v) in
      let seat : ℕ = length s.views in
      let long : length vs ≡ seat = length-set s.views id (issues v) in
      let place : ℕ → Place = puts r.place n (Out seat) in
      record {
        calls = r.calls;
        place = place;
        issued = suc r.issued;
        main = r.main;
        wide = r.wide;
        own_word = r.own_word;
        each_limit = r.each_limit;
        within = r.within;
        requests = r.requests;
        not_issued = λ k le. let old = r.not_issued k (omega arith) in (puts_else r.place n (Out seat) k (λ e. absurd (omega (arith, e, le, is))) ∙ old.0, old.1);
        was_issued = λ k lt e. dite (ℕ_discrete k n)
            (λ same. out_not_new seat (sym (puts_at r.place n (Out seat) k same) ∙ e))
            (λ ne. r.was_issued k (omega arith) (sym (puts_else r.place n (Out seat) k ne) ∙ e));
        out = λ k i e. dite (ℕ_discrete k n)
            (λ same. let here : seat ≡ i = seat_is seat i (sym (puts_at r.place n (Out seat) k same) ∙ e) in (newcomer v, at_last vs (newcomer v) i (long ∙ here), ap Of_connection (sym same)))
            (λ ne. let old = r.out k i (sym (puts_else r.place n (Out seat) k ne) ∙ e) in
            let not_mains : i ≢ id = λ z. main_not k (sym main ∙ (ap (λ (u : View). u.holder) (some-injective v old.0 (sym at ∙ (ap (get_elem? s.views) (sym z) ∙ old.1))) ∙ old.2)) in
            (old.0, at_longer vs (newcomer v ∷ []) i old.0 (set_else s.views id i (issues v) not_mains ∙ old.1), old.2));
        each_view = λ j u e. ⊎_elim
            (λ (h : get_elem? vs j ≡ some u). ⊎_elim
            (λ (t : (j ≡ id) × (issues v ≡ u)). subst (λ (x : ℕ × View). Knows place r.calls (suc r.issued) r.main x.0 x.1) (λ i. (sym t.0 i, t.1 i)) (main_now s r at))
            (λ (t : (j ≢ id) × (get_elem? s.views j ≡ some u)). others s r at j u t.0 (r.each_view j u t.1))
            (at_set s.views id j (issues v) u h))
            (λ (t : (j ≡ length vs) × (newcomer v ≡ u)). subst (λ (x : ℕ × View). Knows place r.calls (suc r.issued) r.main x.0 x.1) (λ i. (sym (t.0 ∙ long) i, t.1 i)) record {
              is_out = λ k e. puts_at r.place n (Out seat) k (sym (connection_is n k e));
              its_calls = λ k e. (r.not_issued k (let same : n ≡ k = connection_is n k e in omega arith)).1;
              is_main = λ e. absurd (not_main n e);
              issues = λ e. absurd (not_main n e);
              keeps = λ e. absurd (not_main n e);
            })
            (at_end vs (newcomer v) u j e);
      }
    where
      -- the number that is given was nobody's
      fresh : (s : State S View) (r : PassRule bounds s) → get_elem? s.views id ≡ some v → r.place v.issued ≡ Not_issued
      fresh s r at = (r.not_issued v.issued (let is : v.issued ≡ r.issued = (r.each_view id v at).issues main in omega arith)).0

      main_now : (s : State S View) (r : PassRule bounds s) → get_elem? s.views id ≡ some v → Knows (puts r.place v.issued (Out (length s.views))) r.calls (suc r.issued) r.main id (issues v)
      main_now s r at = let mine = r.each_view id v at in record {
        is_out = λ k e. absurd (main_not k (sym main ∙ e));
        its_calls = λ k e. absurd (main_not k (sym main ∙ e));
        is_main = mine.is_main;
        issues = λ e. ap suc (mine.issues e);
        keeps = λ e k. mine.keeps e k ∙ dite (ℕ_discrete k v.issued)
            (λ same. ap (λ p. kept_at p (r.calls k)) (ap r.place same ∙ fresh s r at) ∙ sym (ap (λ p. kept_at p (r.calls k)) (puts_at r.place v.issued (Out (length s.views)) k same)))
            (λ ne. ap (λ p. kept_at p (r.calls k)) (sym (puts_else r.place v.issued (Out (length s.views)) k ne)));
      }

      others : (s : State S View) (r : PassRule bounds s) → get_elem? s.views id ≡ some v → (j : ℕ) (u : View) → j ≢ id → Knows r.place r.calls r.issued r.main j u
          → Knows (puts r.place v.issued (Out (length s.views))) r.calls (suc r.issued) r.main j u
      others s r at j u apart old = record {
        is_out = λ k e. puts_else r.place v.issued (Out (length s.views)) k (λ same. out_not_new j (sym (old.is_out k e) ∙ ap r.place same ∙ fresh s r at)) ∙ old.is_out k e;
        its_calls = old.its_calls;
        is_main = old.is_main;
        issues = λ e. absurd (apart (old.is_main e ∙ sym ((r.each_view id v at).is_main main)));
        keeps = λ e. absurd (apart (old.is_main e ∙ sym ((r.each_view id v at).is_main main)));
      }

  pub collected : (id other k : ℕ) (v w : View) → v.holder ≡ Of_main → w.holder ≡ Of_connection k → Joins (PassRule {S = S} bounds) id v other w (keeps_calls v w) spent_view
  collected id other k v w main pass s r at apart there =
      let mine = r.each_view id v at in
      let theirs_at : get_elem? s.views other ≡ some w = ⊎_elim (λ (t : (other ≡ id) × (keeps_calls v w ≡ w)). absurd (apart t.0)) (λ (t : (other ≢ id) × (get_elem? s.views other ≡ some w)). t.1) (at_set s.views id other (keeps_calls v w) w there) in
      let theirs = r.each_view other w theirs_at in
      let was : r.place k ≡ Out other = theirs.is_out k pass in
      let number : number_of w ≡ k = number_is w k pass in
      let vs : List View = set s.views id (keeps_calls v w) in
      let place : ℕ → Place = puts r.place k Collected in
      record {
        calls = r.calls;
        place = place;
        issued = r.issued;
        main = r.main;
        wide = r.wide;
        own_word = r.own_word;
        each_limit = r.each_limit;
        within = r.within;
        requests = r.requests;
        not_issued = λ q le. let old = r.not_issued q le in (puts_else r.place k Collected q (λ same. out_not_new other (sym was ∙ ap r.place (sym same) ∙ old.0)) ∙ old.0, old.1);
        was_issued = λ q lt e. dite (ℕ_discrete q k)
            (λ same. collected_not_new (sym (puts_at r.place k Collected q same) ∙ e))
            (λ ne. r.was_issued q lt (sym (puts_else r.place k Collected q ne) ∙ e));
        out = λ q i e. dite (ℕ_discrete q k)
            (λ same. absurd (collected_not_out i (sym (puts_at r.place k Collected q same) ∙ e)))
            (λ ne. let old = r.out q i (sym (puts_else r.place k Collected q ne) ∙ e) in
            let not_mains : i ≢ id = λ z. main_not q (sym main ∙ (ap (λ (u : View). u.holder) (some-injective v old.0 (sym at ∙ (ap (get_elem? s.views) (sym z) ∙ old.1))) ∙ old.2)) in
            let not_other : i ≢ other = λ z. ne (connection_is q k (sym old.2 ∙ ap (λ (u : View). u.holder) (some-injective old.0 w (sym old.1 ∙ (ap (get_elem? s.views) z ∙ theirs_at))) ∙ pass)) in
            (old.0, set_else vs other i spent_view not_other ∙ (set_else s.views id i (keeps_calls v w) not_mains ∙ old.1), old.2));
        each_view = λ j u e. ⊎_elim
            (λ (t : (j ≡ other) × (spent_view ≡ u)). subst (λ (x : ℕ × View). Knows place r.calls r.issued r.main x.0 x.1) (λ i. (sym t.0 i, t.1 i)) record {
              is_out = λ q h. absurd (no_holder q h);
              its_calls = λ q h. absurd (no_holder q h);
              is_main = λ h. absurd (nobody_not_main h);
              issues = λ h. absurd (nobody_not_main h);
              keeps = λ h. absurd (nobody_not_main h);
            })
            (λ (t : (j ≢ other) × (get_elem? vs j ≡ some u)). ⊎_elim
            (λ (t' : (j ≡ id) × (keeps_calls v w ≡ u)). subst (λ (x : ℕ × View). Knows place r.calls r.issued r.main x.0 x.1) (λ i. (sym t'.0 i, t'.1 i)) record {
              is_out = λ q h. absurd (main_not q (sym main ∙ h));
              its_calls = λ q h. absurd (main_not q (sym main ∙ h));
              is_main = mine.is_main;
              issues = mine.issues;
              keeps = λ h q. dite (ℕ_discrete q k)
                  (λ same. ap (λ b. cond b (Some w.calls) (kept_of q v.kept)) (eq-eqb q (number_of w) (same ∙ sym number))
                  ∙ ap (λ (d : List Numbered). Some d) (sym (theirs.its_calls k pass) ∙ ap r.calls (sym same))
                  ∙ sym (ap (λ p. kept_at p (r.calls q)) (puts_at r.place k Collected q same)))
                  (λ ne. ap (λ b. cond b (Some w.calls) (kept_of q v.kept)) (ne_eqb q (number_of w) (λ z. ne (z ∙ number)))
                  ∙ mine.keeps h q
                  ∙ ap (λ p. kept_at p (r.calls q)) (sym (puts_else r.place k Collected q ne)));
            })
            (λ (t' : (j ≢ id) × (get_elem? s.views j ≡ some u)). let old = r.each_view j u t'.1 in record {
              is_out = λ q h. puts_else r.place k Collected q (λ same. t.0 (seat_is j other (sym (old.is_out q h) ∙ ap r.place same ∙ was))) ∙ old.is_out q h;
              its_calls = old.its_calls;
              is_main = old.is_main;
              issues = old.issues;
              keeps = λ h. absurd (t'.0 (old.is_main h ∙ sym (mine.is_main main)));
            })
            (at_set s.views id j (keeps_calls v w) u t.1))
            (at_set vs other j spent_view u e);
      }

  pub begins : (words : List ℕ) → words ≡ replicate (suc (length bounds)) 0 → PassRule bounds (opening {S = S} words [] opening_view)
  begins words are = subst (λ ws. PassRule bounds (opening {S = S} ws [] opening_view)) (sym are) record {
    calls = λ _. [];
    place = λ _. Not_issued;
    issued = 0;
    main = 0;
    wide = long (suc (length bounds));
    own_word = refl;
    each_limit = λ l b e. subst (λ word. LimitRule b word (λ _. [])) (sym (zero_at (suc (length bounds)) (suc l))) record {
      log = [];
      word_is = refl;
      legal = tt;
      no_refusal = refl;
      small = omega arith;
      made = λ k. refl;
      refused = λ k. tt;
      ordered = λ k. tt;
      known = λ k. omega arith;
    };
    within = λ k. tt;
    requests = λ k. tt;
    not_issued = λ k le. (refl, refl);
    was_issued = λ k lt. absurd (omega arith);
    out = λ k i e. absurd (out_not_new i (sym e));
    each_view = one;
  }
    where
      one : (id : ℕ) (v : View) → get_elem? (opening_view ∷ []) id ≡ some v → Knows (λ _. Not_issued) (λ _. []) 0 0 id v
      one zero v e = subst (Knows (λ _. Not_issued) (λ _. []) 0 0 0) (some-injective opening_view v e) record {
        is_out = λ k h. absurd (main_not k h);
        its_calls = λ k h. absurd (main_not k h);
        is_main = λ _. refl;
        issues = λ _. refl;
        keeps = λ _ k. refl;
      }
      one (suc id) v e = absurd (some-ne-none v (sym e))
