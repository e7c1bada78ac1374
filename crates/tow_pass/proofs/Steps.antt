-- The steps on a limit's word keep the rule.
use Rattle.std.proofs.Common.{◌≡◌, ◌≢◌, ℕ, eqb, zero, suc, ◌+◌, ◌*◌, ◌/◌, ◌%◌, ◌^◌, ◌<◌, ◌≤◌, List, [], ◌∷◌, ◌++◌, length, get_or, set, Some, true, cond, eq-eqb, refl, sym, ap, ◌∙◌, subst, inl, inr, ⊎_elim, arith, length-set, get_or-set_same, get_or-set_other, slice_get}
use Rattle.std.specs.Prelude.{slice_index}
use Rattle.std.proofs.lemmas.Option.{slice_get_within}
use Rattle.std.specs.List.{AllByRecursion as Each}
use mathlib.Core.Option.{some, none, some-ne-none, some-injective}
use mathlib.Core.Logic.{dite}
use native.Mathlib.Decide.{ℕ_discrete, dec_le}
use lib.ListN.{get_elem?}
use prog.Atomic.{either}
use Rattle.atomic_table.specs.Table.{State, Me, step, Act, keeps, Valid, Allows, stepped, carried_after}
use Rattle.atomic_table.proofs.Lists.{at_set, set_here, set_else, set_again, exchanged}
use Rattle.tow_model.specs.declared.account.Bound.{Bound}
use Rattle.tow_model.specs.declared.account.What.TheVariants.{Enter, Leave}
use Rattle.tow_model.specs.declared.account.Verdict.TheVariants.{Admitted, Refused}
use Rattle.tow_history.specs.Legal.{Who, state_after, times, take_out, let_in}
use Rattle.tow_history.proofs.Sound.{length_add, length_take_out, sound_after}
use Rattle.tow_pass.specs.declared.view.View.{View}
use Rattle.tow_pass.specs.Calls.{Numbered, Of_main, Of_connection, call_at, at_limit, asks_place, last_asked, requests_rise, admissions, leavings_of}
use Rattle.tow_pass.specs.Views.{called}
use Rattle.tow_pass.specs.Rule.{LimitRule, Not_issued, Out, kept_at, Knows, PassRule}
use Rattle.tow_pass.specs.Tells.{IsFull, HasRoom, admitted, refused, went}
use Rattle.tow_pass.specs.Shown.{IsInside}
use Rattle.tow_pass.proofs.CallLists.{at_limit_add, admissions_add, leavings_add, each_add, requests_add, more, more_at, more_else, at_more, at_more_else}
use Rattle.tow_pass.proofs.OneLimit.{few, counted, balance, there, gains, refuses}

at_lt : {A : Type 0} (l : List A) (i : ℕ) (a : A) → get_elem? l i ≡ some a → i < length l
at_lt [] i a e = absurd (some-ne-none a (sym e))
at_lt (x ∷ xs) zero a e = omega arith
at_lt (x ∷ xs) (suc i) a e = let h = at_lt xs i a e in omega arith

pub at_get : (l : List ℕ) (i : ℕ) → i < length l → get_elem? l i ≡ some (get_or l i 0)
at_get [] i h = absurd (omega arith)
at_get (x ∷ xs) zero h = refl
at_get (x ∷ xs) (suc i) h = at_get xs i (omega arith)

-- the word that a seat found tells both numbers
numbers : (count inside found : ℕ) → found ≡ count * 65536 + inside → inside ≤ 65535 → (found / 65536 ≡ count) × (found % 65536 ≡ inside)
numbers count inside found is few = (omega arith, omega arith)

pub connection_is : (k q : ℕ) → Of_connection k ≡ Of_connection q → k ≡ q
connection_is k q e = cc

pub not_main : (k : ℕ) → Of_connection k ≢ Of_main
not_main k e = absurd (cc)

one_seat : (i j : ℕ) → Out i ≡ Out j → i ≡ j
one_seat i j e = cc

one_bound : (bounds : List Bound) (i l : ℕ) (a b : Bound) → i ≡ l → slice_get bounds i ≡ Some a → slice_get bounds l ≡ Some b → b ≡ a
one_bound bounds i l a b same e f = let z : Some b ≡ Some a = sym f ∙ ap (slice_get bounds) (sym same) ∙ e in cc

module _ {S : Type 0} (bounds : List Bound) where
  module _ (s : State S View) (r : PassRule bounds s) (id k l : ℕ) (b : Bound) (v : View) (c : Numbered) (at : get_elem? s.views id ≡ some v) (mine : v.holder ≡ Of_connection k)
      (bound : slice_get bounds l ≡ Some b) (is : c.call.limit ≡ l) where
    within_words : suc l < length s.words
    within_words = let near : l < length bounds = slice_get_within bounds l b bound in let wide = r.wide in omega (arith, near, wide)

    is_out : r.place k ≡ Out id
    is_out = (r.each_view id v at).is_out k mine

    its_calls : r.calls k ≡ v.calls
    its_calls = (r.each_view id v at).its_calls k mine

    its_limit : LimitRule b (get_or s.words (suc l) 0) (λ q. at_limit l (r.calls q))
    its_limit = r.each_limit l b bound

    -- one call more, with the word that it leaves
    adds : (new : ℕ) → (asks_place c.call.what ≡ true → last_asked 0 v.calls ≤ c.call.request) → LimitRule b new (more (λ q. at_limit l (r.calls q)) k c)
        → PassRule bounds record { words = set s.words (suc l) new; homes = s.homes; views = set s.views id (called v c) }
    adds new rises limit = record {
      calls = more r.calls k c;
      place = r.place;
      issued = r.issued;
      main = r.main;
      wide = length-set s.words (suc l) new ∙ r.wide;
      own_word = get_or-set_other s.words (suc l) 0 new 0 (λ e. absurd (omega (arith, e))) ∙ r.own_word;
      each_limit = λ i a e. dite (ℕ_discrete i l) (λ same. limit_here i a same e) (λ ne. limit_else i a ne e);
      within = λ q. dite (ℕ_discrete q k)
          (λ same. subst (Each (λ d. d.call.limit < length bounds)) (sym (more_at r.calls k c q same)) (each_add (λ d. d.call.limit < length bounds) (r.calls q) c (r.within q) (let near = slice_get_within bounds l b bound in omega (arith, near, is))))
          (λ ne. subst (Each (λ d. d.call.limit < length bounds)) (sym (more_else r.calls k c q ne)) (r.within q));
      requests = λ q. dite (ℕ_discrete q k)
          (λ same. subst (requests_rise 0) (sym (more_at r.calls k c q same)) (requests_add 0 (r.calls q) c (r.requests q) (λ asks. subst (λ cs. last_asked 0 cs ≤ c.call.request) (sym (ap r.calls same ∙ its_calls)) (rises asks))))
          (λ ne. subst (requests_rise 0) (sym (more_else r.calls k c q ne)) (r.requests q));
      not_issued = λ q le. let old = r.not_issued q le in (old.0, more_else r.calls k c q (λ same. absurd (let z : Not_issued ≡ Out id = sym old.0 ∙ ap r.place same ∙ is_out in cc)) ∙ old.1);
      was_issued = r.was_issued;
      out = λ q seat e. out_now q seat (r.out q seat e);
      each_view = λ j u h. ⊎_elim
          (λ (t : (j ≡ id) × (called v c ≡ u)). subst (λ (x : ℕ × View). Knows r.place (more r.calls k c) r.issued r.main x.0 x.1) (λ i. (sym t.0 i, t.1 i)) mine_now)
          (λ (t : (j ≢ id) × (get_elem? s.views j ≡ some u)). others j u t.0 (r.each_view j u t.1))
          (at_set s.views id j (called v c) u h);
    }
      where
        limit_here : (i : ℕ) (a : Bound) → i ≡ l → slice_get bounds i ≡ Some a → LimitRule a (get_or (set s.words (suc l) new) (suc i) 0) (λ q. at_limit i (more r.calls k c q))
        limit_here i a same e =
            let here : LimitRule b (get_or (set s.words (suc l) new) (suc l) 0) (λ q. at_limit l (more r.calls k c q)) =
            subst (λ (t : ℕ × (ℕ → List Numbered)). LimitRule b t.0 t.1) (λ z. (sym (get_or-set_same s.words (suc l) new 0 within_words) z, λ q. sym (at_more r.calls l k c is q) z)) limit in
            subst (λ (t : ℕ × Bound). LimitRule t.1 (get_or (set s.words (suc l) new) (suc t.0) 0) (λ q. at_limit t.0 (more r.calls k c q))) (λ z. (sym same z, one_bound bounds i l a b same e bound z)) here

        limit_else : (i : ℕ) (a : Bound) → i ≢ l → slice_get bounds i ≡ Some a → LimitRule a (get_or (set s.words (suc l) new) (suc i) 0) (λ q. at_limit i (more r.calls k c q))
        limit_else i a ne e =
            subst (λ (t : ℕ × (ℕ → List Numbered)). LimitRule a t.0 t.1)
            (λ z. (sym (get_or-set_other s.words (suc l) (suc i) new 0 (λ f. absurd (ne (omega (arith, f))))) z, λ q. sym (at_more_else r.calls i k c (λ f. ne (sym f ∙ is)) q) z))
            (r.each_limit i a e)

        out_now : (q seat : ℕ) → (u : View) × (get_elem? s.views seat ≡ some u) × (u.holder ≡ Of_connection q) → (u : View) × (get_elem? (set s.views id (called v c)) seat ≡ some u) × (u.holder ≡ Of_connection q)
        out_now q seat old = dite (ℕ_discrete seat id)
            (λ same. let is_v : old.0 ≡ v = some-injective old.0 v (sym old.1 ∙ (ap (get_elem? s.views) same ∙ at)) in (
              called v c,
              subst (λ (i : ℕ). get_elem? (set s.views id (called v c)) i ≡ some (called v c)) (sym same) (set_here s.views id (called v c) (at_lt s.views id v at)),
              subst (λ (u : View). u.holder ≡ Of_connection q) is_v old.2,
            ))
            (λ apart. (old.0, set_else s.views id seat (called v c) apart ∙ old.1, old.2))

        mine_now : Knows r.place (more r.calls k c) r.issued r.main id (called v c)
        mine_now = let old = r.each_view id v at in record {
          is_out = old.is_out;
          its_calls = λ q e. let same : k ≡ q = connection_is k q (sym mine ∙ e) in more_at r.calls k c q (sym same) ∙ ap (λ cs. cs ++ c ∷ []) (old.its_calls q e);
          is_main = old.is_main;
          issues = old.issues;
          keeps = λ e. absurd (not_main k (sym mine ∙ e));
        }

        others : (j : ℕ) (u : View) → j ≢ id → Knows r.place r.calls r.issued r.main j u → Knows r.place (more r.calls k c) r.issued r.main j u
        others j u apart old = record {
          is_out = old.is_out;
          its_calls = λ q e. more_else r.calls k c q (λ same. apart (one_seat j id (sym (old.is_out q e) ∙ ap r.place same ∙ is_out))) ∙ old.its_calls q e;
          is_main = old.is_main;
          issues = old.issues;
          keeps = λ e q. old.keeps e q ∙ dite (ℕ_discrete q k)
              (λ same. let out_there : r.place q ≡ Out id = ap r.place same ∙ is_out in ap (λ p. kept_at p (r.calls q)) out_there ∙ sym (ap (λ p. kept_at p (more r.calls k c q)) out_there))
              (λ ne. ap (kept_at (r.place q)) (sym (more_else r.calls k c q ne)));
        }

  abbrev Goes : State S View → ℕ → ℕ → Me S View → (ℕ → Me S View → Type 0) → ℕ → Type 0
  Goes s l id me told n = (w : View) × (a : Act S) × Valid s.homes me.1 a × PassRule bounds (stepped s (suc l) n id me.1 w a) × told (slice_index s.words (suc l)) (w, carried_after me.1 a)

  -- nothing changes
  rests : (s : State S View) (r : PassRule bounds s) (l id : ℕ) (v : View) → suc l < length s.words → get_elem? s.views id ≡ some v
      → PassRule bounds record { words = set s.words (suc l) (get_or s.words (suc l) 0); homes = s.homes; views = set s.views id v }
  rests s r l id v near at = subst (λ (t : List ℕ × List View). PassRule bounds record { words = t.0; homes = s.homes; views = t.1 })
      (λ i. (sym (set_again s.words (suc l) (get_or s.words (suc l) 0) (at_get s.words (suc l) near)) i, sym (set_again s.views id v at) i)) r

  -- who was admitted is inside, since nobody left more often than it entered
  admitted_inside : (s : State S View) (r : PassRule bounds s) (id k l n j : ℕ) (b : Bound) (v : View) → get_elem? s.views id ≡ some v → v.holder ≡ Of_connection k → slice_get bounds l ≡ Some b
      → IsInside l j (called v (call_at n l j (Enter Admitted)))
  admitted_inside s r id k l n j b v at mine bound =
      let c : Numbered = call_at n l j (Enter Admitted) in
      let calls : ℕ → List Numbered = λ q. at_limit l (r.calls q) in
      let rule : LimitRule b (get_or s.words (suc l) 0) calls = r.each_limit l b bound in
      let are : r.calls k ≡ v.calls = (r.each_view id v at).its_calls k mine in
      let sum : times (k, j) (state_after rule.log).inside + leavings_of j (at_limit l v.calls) ≡ admissions j (at_limit l v.calls) =
      subst (λ cs. times (k, j) (state_after rule.log).inside + leavings_of j (at_limit l cs) ≡ admissions j (at_limit l cs)) are (balance b (get_or s.words (suc l) 0) calls rule k j) in
      let now : at_limit l (v.calls ++ c ∷ []) ≡ at_limit l v.calls ++ c ∷ [] = at_limit_add l v.calls c ∙ ap (λ u. at_limit l v.calls ++ cond u (c ∷ []) []) (eq-eqb l l refl) in
      let came : admissions j (at_limit l v.calls ++ c ∷ []) ≡ admissions j (at_limit l v.calls) + 1 = admissions_add j (at_limit l v.calls) c refl in
      let went : leavings_of j (at_limit l v.calls ++ c ∷ []) ≡ leavings_of j (at_limit l v.calls) = leavings_add j (at_limit l v.calls) c refl in
      subst (λ cs. leavings_of j cs < admissions j cs) (sym now) (omega (arith, sum, came, went))

  pub admits : (slots id k l : ℕ) (b : Bound) (me : Me S View) (seen j : ℕ) → slice_get bounds l ≡ Some b → b.most ≤ 65535 → me.0.holder ≡ Of_connection k → last_asked 0 me.0.calls ≤ j → HasRoom b.most seen
      → Allows (PassRule bounds) slots id me (suc l) (λ n. either (eqb n seen) (seen + 65537) n) (admitted l j (step slots (suc l) seen (seen + 65537) none) me)
  admits slots id k l b me seen j bound fits mine rises room s r wide at low =
      let told = admitted l j (step slots (suc l) seen (seen + 65537) none) me in
      let y : ℕ = get_or s.words (suc l) 0 in
      exchanged y seen (seen + 65537) (Goes s l id me told)
      (λ hit.
      let rule : LimitRule b y (λ q. at_limit l (r.calls q)) = r.each_limit l b bound in
      let xs : List Who = (state_after rule.log).inside in
      let inside : ℕ = length xs in
      let n : ℕ = length rule.log in
      let most : inside ≤ b.most = few b y (λ q. at_limit l (r.calls q)) rule in
      let is : seen ≡ n * 65536 + inside = sym hit ∙ rule.word_is in
      let both : (seen / 65536 ≡ n) × (seen % 65536 ≡ inside) = numbers n inside seen is (omega arith) in
      let a : seen / 65536 ≡ n = both.0 in let i : seen % 65536 ≡ inside = both.1 in
      let early : seen / 65536 < 2 ^ 47 = room.1 in let free : seen % 65536 < b.most = room.0 in
      let c : Numbered = call_at (seen / 65536) l j (Enter Admitted) in
      let long : length (xs ++ (k, j) ∷ []) ≡ suc inside = length_add xs (k, j) in (
        called me.0 c,
        keeps,
        tt,
        adds s r id k l b me.0 c at mine bound refl (seen + 65537) (λ _. rises)
            (gains b y (λ q. at_limit l (r.calls q)) rule (seen + 65537) k c refl a (omega arith) (omega arith) (omega arith)),
        (refl, (λ _. (ap (λ (m : ℕ). called me.0 (call_at (m / 65536) l j (Enter Admitted))) (sym hit), admitted_inside s r id k l (seen / 65536) j b me.0 at mine bound)), (λ miss. absurd (miss hit))),
      ))
      (λ miss. (me.0, keeps, tt, rests s r l id me.0 (near s r) at, (refl, (λ hit. absurd (miss hit)), (λ _. refl))))
    where
      near : (s : State S View) → PassRule bounds s → suc l < length s.words
      near s r = let lt : l < length bounds = slice_get_within bounds l b bound in let wide = r.wide in omega (arith, lt, wide)

  -- the load that decides: as many as may be are inside, or the count has come to its end
  pub turns_away : (slots id k l : ℕ) (b : Bound) (me : Me S View) (j : ℕ) → slice_get bounds l ≡ Some b → b.most ≤ 65535 → me.0.holder ≡ Of_connection k → last_asked 0 me.0.calls ≤ j
      → Allows (PassRule bounds) slots id me (suc l) (λ n. n) (refused b.most l j (step slots (suc l) 0 0 none) me)
  turns_away slots id k l b me j bound fits mine rises s r wide at low =
      let y : ℕ = get_or s.words (suc l) 0 in
      let rule : LimitRule b y (λ q. at_limit l (r.calls q)) = r.each_limit l b bound in
      let inside : ℕ = length (state_after rule.log).inside in
      let n : ℕ = length rule.log in
      let most : inside ≤ b.most = few b y (λ q. at_limit l (r.calls q)) rule in
      let both : (y / 65536 ≡ n) × (y % 65536 ≡ inside) = numbers n inside y rule.word_is (omega arith) in
      let a : y / 65536 ≡ n = both.0 in let i : y % 65536 ≡ inside = both.1 in
      let line : length (state_after rule.log).line ≤ 0 = (sound_after b.most 0 rule.log rule.legal).short in
      let sum : (state_after rule.log).drawn + (state_after rule.log).left ≡ n = counted b y (λ q. at_limit l (r.calls q)) rule in
      let c : Numbered = call_at (y / 65536) l j (Enter Refused) in
      let away : IsFull b.most y → Goes s l id me (refused b.most l j (step slots (suc l) 0 0 none) me) y = λ is. (
        called me.0 c,
        keeps,
        tt,
        adds s r id k l b me.0 c at mine bound refl y (λ _. rises)
            (refuses b y (λ q. at_limit l (r.calls q)) rule k c refl a
            (⊎_elim (λ (h : b.most ≤ y % 65536). inl (omega arith, inl (omega arith))) (λ (h : 2 ^ 47 ≤ y / 65536). inr (omega arith)) is)),
        (refl, (λ _. refl), (λ (h : HasRoom b.most y). let f = h.0 in let g = h.1 in ⊎_elim (λ (u : b.most ≤ y % 65536). absurd (omega arith)) (λ (u : 2 ^ 47 ≤ y / 65536). absurd (omega arith)) is)),
      ) in
      dite (dec_le b.most (y % 65536)) (λ h. away (inl h))
      (λ no. dite (dec_le (2 ^ 47) (y / 65536)) (λ h. away (inr h))
      (λ no'. (me.0, keeps, tt, rests s r l id me.0 near at, (refl, (λ is. absurd (⊎_elim (λ h. no h) (λ h. no' h) is)), (λ _. refl)))))
    where
      near : suc l < length s.words
      near = let lt : l < length bounds = slice_get_within bounds l b bound in let wide = r.wide in omega (arith, lt, wide)

  pub leaves : (slots id k l : ℕ) (b : Bound) (me : Me S View) (j : ℕ) → slice_get bounds l ≡ Some b → b.most ≤ 65535 → me.0.holder ≡ Of_connection k
      → leavings_of j (at_limit l me.0.calls) < admissions j (at_limit l me.0.calls)
      → Allows (PassRule bounds) slots id me (suc l) (λ n. (n + 65535) % 18446744073709551616) (went l j (step slots (suc l) 65535 0 none) me)
  leaves slots id k l b me j bound fits mine less s r wide at low =
      let y : ℕ = get_or s.words (suc l) 0 in
      let calls : ℕ → List Numbered = λ q. at_limit l (r.calls q) in
      let rule : LimitRule b y calls = r.each_limit l b bound in
      let xs : List Who = (state_after rule.log).inside in
      let inside : ℕ = length xs in
      let n : ℕ = length rule.log in
      let most : inside ≤ b.most = few b y calls rule in
      let has : 0 < times (k, j) xs = there b y calls rule k j (subst (λ cs. leavings_of j (at_limit l cs) < admissions j (at_limit l cs)) (sym ((r.each_view id me.0 at).its_calls k mine)) less) in
      let out : suc (length (take_out (k, j) xs)) ≡ inside = length_take_out (k, j) xs has in
      let is : y ≡ n * 65536 + inside = rule.word_is in
      let small : n + inside ≤ 2 ^ 47 + 65535 = rule.small in
      let both : (y / 65536 ≡ n) × (y % 65536 ≡ inside) = numbers n inside y is (omega arith) in
      let a : y / 65536 ≡ n = both.0 in
      let line : length (state_after rule.log).line ≤ 0 = (sound_after b.most 0 rule.log rule.legal).short in
      let c : Numbered = call_at (y / 65536) l j Leave in
      let after : length (let_in (state_after rule.log).line (take_out (k, j) xs)) ≡ length (take_out (k, j) xs) = nobody_waits (state_after rule.log).line (take_out (k, j) xs) line in (
        called me.0 c,
        keeps,
        tt,
        adds s r id k l b me.0 c at mine bound refl ((y + 65535) % 18446744073709551616) (λ asks. absurd (cc))
            (gains b y calls rule ((y + 65535) % 18446744073709551616) k c refl a has (omega arith) (omega arith)),
        (refl, refl),
      )
    where
      nobody_waits : (line : List (Who × ℕ)) (xs : List Who) → length line ≤ 0 → length (let_in line xs) ≡ length xs
      nobody_waits [] xs le = refl
      nobody_waits (p ∷ line) xs le = absurd (omega arith)
