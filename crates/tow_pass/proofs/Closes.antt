-- The history of a limit that main's view has once all passes were collected.
use Rattle.std.proofs.Common.{◌≡◌, ℕ, zero, suc, ◌+◌, ◌<◌, ◌≤◌, true, false, List, [], ◌∷◌, ◌++◌, length, get_or, take, Option, Some, refl, sym, ap, ◌∙◌, subst, arith, slice_get}
use Rattle.std.specs.Prelude.{IsSome, unwrap_or}
use Rattle.std.proofs.lemmas.Option.{slice_get_within}
use Rattle.std.specs.List.{AllByRecursion as Each}
use mathlib.Core.Option.{some, none}
use mathlib.Core.Logic.{dite}
use native.Mathlib.Decide.{dec_le}
use lib.ListN.{get_elem?}
use Rattle.atomic_table.specs.Table.{State, Me, step, keeps, Allows}
use Rattle.atomic_table.proofs.Lists.{set_again}
use Rattle.tow_model.specs.declared.account.Bound.{Bound}
use Rattle.tow_history.specs.declared.entry.Entry.{Entry}
use Rattle.tow_history.specs.Legal.{legal_at, state_after}
use Rattle.tow_history.specs.Histories.{of, calls_at}
use Rattle.tow_history.proofs.Exchanges.{of_append}
use Rattle.tow_pass.specs.declared.view.View.{View}
use Rattle.tow_pass.specs.Calls.{Numbered, Of_main, at_limit, entries}
use Rattle.tow_pass.specs.Views.{kept_of}
use Rattle.tow_pass.specs.Rule.{numbered, LimitRule, Place, Not_issued, Out, Collected, kept_at, PassRule}
use Rattle.tow_pass.specs.Closing.{gather, calls_kept, kept_at_limit, calls_of, refused_at, made_at, by, refusals_with, entry_with, count_kept, history_of, histories_of, AllCollected, Closed, AreClosed, closes}
use Rattle.tow_pass.proofs.Gather.{gather_none, gather_same, each_gather, of_gather, of_all, of_others, gather_one, sum_same}
use Rattle.tow_pass.proofs.Woven.{one_at, woven, gather_woven, MayRefuse, legal_woven, made_is, all_below, counts_all, refused_right}
use Rattle.tow_pass.proofs.InOrder.{did, joins_calls, calls_at_limit}
use Rattle.tow_pass.proofs.Steps.{at_get}

gather_at : (issued n : ℕ) (log : List Entry) → Each (λ e. e.connection < issued) log → gather (λ k. by k (of (one_at n log) k)) 0 issued ≡ one_at n log
gather_at issued zero [] each = gather_none (λ k. by k []) 0 issued (λ i le lt. refl)
gather_at issued (suc n) [] each = gather_none (λ k. by k []) 0 issued (λ i le lt. refl)
gather_at issued zero (e ∷ log) each = gather_one e 0 issued (omega arith) (let lt = each.0 in omega (arith, lt))
gather_at issued (suc n) (e ∷ log) each = gather_at issued n log each.1

keeps_calls : (k : ℕ) (kept : Option (List Numbered)) (p : Place) (cs : List Numbered) → kept ≡ kept_at p cs → IsSome kept → unwrap_or kept [] ≡ cs
keeps_calls k kept Not_issued cs e is = absurd (let z : false ≡ true = subst IsSome e is in cc)
keeps_calls k kept (Out seat) cs e is = absurd (let z : false ≡ true = subst IsSome e is in cc)
keeps_calls k kept Collected cs e is = ap (λ o. unwrap_or o []) e

module _ (b : Bound) (word l : ℕ) (v : View) (rule : LimitRule b word (kept_at_limit v l)) (nothing : (k : ℕ) → v.issued ≤ k → kept_at_limit v l k ≡ []) where
  below : Each (λ e. e.connection < v.issued) rule.log
  below = all_below v.issued 0 rule.log (λ k le. sym (rule.made k) ∙ ap entries (nothing k le))

  counts : count_kept v l ≡ length rule.log
  counts = sum_same (λ k. length (entries (kept_at_limit v l k))) (λ k. length (numbered k 0 rule.log)) 0 v.issued (λ k. ap length (rule.made k)) ∙ counts_all v.issued 0 rule.log below

  entry_is : (n : ℕ) → entry_with v l n ≡ one_at n rule.log
  entry_is n =
      gather_same (λ k. by k (made_at n (kept_at_limit v l k))) (λ k. by k (of (one_at n rule.log) k)) 0 v.issued (λ k le. ap (by k) (made_is k n (kept_at_limit v l k) rule.log (rule.made k)))
      ∙ gather_at v.issued n rule.log below

  is_woven : history_of v l ≡ woven (refusals_with v l) 0 rule.log
  is_woven =
      ap (λ (m : ℕ). gather (λ n. refusals_with v l n ++ entry_with v l n) 0 (suc m)) counts
      ∙ gather_woven (refusals_with v l) (entry_with v l) 0 rule.log (λ i. ap (entry_with v l) (let z : 0 + i ≡ i = omega arith in z) ∙ entry_is i)

  is_legal : legal_at b (history_of v l)
  is_legal = subst (legal_at b) (sym is_woven)
      (legal_woven b (refusals_with v l) rule.log (λ n. each_gather (MayRefuse b (state_after (take n rule.log))) (λ k. by k (refused_at n (kept_at_limit v l k))) 0 v.issued (λ k. refused_right b rule.log k n (kept_at_limit v l k) (rule.refused k))) [] rule.log refl rule.legal)

  its_calls : (k : ℕ) → k < v.issued → of (history_of v l) k ≡ calls_at l (calls_of (calls_kept v k))
  its_calls k lt =
      of_gather (λ n. refusals_with v l n ++ entry_with v l n) k 0 (suc (count_kept v l))
      ∙ gather_same (λ n. of (refusals_with v l n ++ entry_with v l n) k) (did (kept_at_limit v l k)) 0 (suc (count_kept v l)) (λ n le. one_number n)
      ∙ joins_calls (count_kept v l) 0 (kept_at_limit v l k) (rule.ordered k) (let known = rule.known k in let all = counts in omega (arith, known, all))
      ∙ sym (calls_at_limit l (calls_kept v k))
    where
      one_number : (n : ℕ) → of (refusals_with v l n ++ entry_with v l n) k ≡ did (kept_at_limit v l k) n
      one_number n =
          of_append (refusals_with v l n) (entry_with v l n) k
          ∙ ap (λ xs. xs ++ of (entry_with v l n) k) (of_all (λ q. refused_at n (kept_at_limit v l q)) k 0 v.issued (omega arith) (omega (arith, lt)))
          ∙ ap (λ xs. refused_at n (kept_at_limit v l k) ++ xs) (of_all (λ q. made_at n (kept_at_limit v l q)) k 0 v.issued (omega arith) (omega (arith, lt)))

  no_other : (k : ℕ) → v.issued ≤ k → of (history_of v l) k ≡ []
  no_other k le =
      of_gather (λ n. refusals_with v l n ++ entry_with v l n) k 0 (suc (count_kept v l))
      ∙ gather_none (λ n. of (refusals_with v l n ++ entry_with v l n) k) 0 (suc (count_kept v l)) (λ n le' lt. none_here n)
    where
      none_here : (n : ℕ) → of (refusals_with v l n ++ entry_with v l n) k ≡ []
      none_here n =
          of_append (refusals_with v l n) (entry_with v l n) k
          ∙ ap (λ xs. xs ++ of (entry_with v l n) k) (of_others (λ q. refused_at n (kept_at_limit v l q)) k 0 v.issued (λ i le' lt e. absurd (omega arith)))
          ∙ of_others (λ q. made_at n (kept_at_limit v l q)) k 0 v.issued (λ i le' lt e. absurd (omega arith))

  closed : Closed b v l (history_of v l)
  closed = record { is = refl; legal = is_legal; calls = its_calls; no_other = no_other }

module _ {S : Type 0} (bounds : List Bound) where
  -- what the view keeps is what each pass did
  kept_are : (s : State S View) (r : PassRule bounds s) (id : ℕ) (v : View) → get_elem? s.views id ≡ some v → v.holder ≡ Of_main → AllCollected v → (k : ℕ) → r.calls k ≡ calls_kept v k
  kept_are s r id v at main all k =
      let mine = r.each_view id v at in
      let count : v.issued ≡ r.issued = mine.issues main in
      let kept : kept_of k v.kept ≡ kept_at (r.place k) (r.calls k) = mine.keeps main k in
      dite (dec_le r.issued k)
      (λ le. let none = r.not_issued k le in none.1 ∙ sym (ap (λ o. unwrap_or o []) (kept ∙ ap (λ p. kept_at p (r.calls k)) none.0)))
      (λ nle. sym (keeps_calls k (kept_of k v.kept) (r.place k) (r.calls k) kept (all k (omega (arith, nle, count)))))

  nothing_later : (s : State S View) (r : PassRule bounds s) (id : ℕ) (v : View) → get_elem? s.views id ≡ some v → v.holder ≡ Of_main → AllCollected v → (l k : ℕ) → v.issued ≤ k → kept_at_limit v l k ≡ []
  nothing_later s r id v at main all l k le =
      let count : v.issued ≡ r.issued = (r.each_view id v at).issues main in
      ap (at_limit l) (sym (kept_are s r id v at main all k) ∙ (r.not_issued k (omega (arith, le, count))).1)

  -- the load of a close
  pub ends : (slots id : ℕ) (me : Me S View) → me.0.holder ≡ Of_main → AllCollected me.0 → Allows (PassRule bounds) slots id me 0 (λ n. n) (closes bounds (step slots 0 0 0 none) me)
  ends slots id me main all s r wide at low = (
    me.0,
    keeps,
    tt,
    subst (λ (t : List ℕ × List View). PassRule bounds record { words = t.0; homes = s.homes; views = t.1 })
        (λ i. (sym (set_again s.words 0 (get_or s.words 0 0) (at_get s.words 0 (let is = r.wide in omega (arith, is)))) i, sym (set_again s.views id me.0 at) i)) r,
    (
      refl,
      λ l b bound. closed b (get_or s.words (suc l) 0) l me.0
          (subst (λ cs. LimitRule b (get_or s.words (suc l) 0) cs) (λ i k. at_limit l (kept_are s r id me.0 at main all k i)) (r.each_limit l b bound))
          (nothing_later s r id me.0 at main all l),
    ),
  )

histories_long : (f : ℕ → List Entry) (n many : ℕ) → length (gather (λ l. f l ∷ []) n many) ≡ many
histories_long f n zero = refl
histories_long f n (suc many) = ap suc (histories_long f (suc n) many)

history_at : (f : ℕ → List Entry) (n many l : ℕ) → l < many → get_or (gather (λ l. f l ∷ []) n many) l [] ≡ f (n + l)
history_at f n zero l lt = absurd (omega arith)
history_at f n (suc many) zero lt = ap f (let z : n ≡ n + 0 = omega arith in z)
history_at f n (suc many) (suc l) lt = history_at f (suc n) many l (omega arith) ∙ ap f (let z : suc n + l ≡ n + suc l = omega arith in z)

pub are_closed : (bounds : List Bound) (v : View) (limits : ℕ) → limits ≡ length bounds → ((l : ℕ) (b : Bound) → slice_get bounds l ≡ Some b → Closed b v l (history_of v l)) → AreClosed bounds v (histories_of v limits)
are_closed bounds v limits is each = (
  histories_long (history_of v) 0 limits ∙ is,
  λ l b bound. subst (Closed b v l) (sym (history_at (history_of v) 0 limits l (let lt = slice_get_within bounds l b bound in omega (arith, lt, is)) ∙ ap (history_of v) (let z : 0 + l ≡ l = omega arith in z))) (each l b bound),
)
