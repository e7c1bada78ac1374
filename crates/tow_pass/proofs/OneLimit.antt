-- One limit: an admission or a leaving more, and a refusal more.
use Rattle.std.proofs.Common.{◌≡◌, ◌≢◌, ℕ, suc, ◌+◌, ◌<◌, ◌≤◌, true, false, cond, List, [], ◌∷◌, ◌++◌, length, take, refl, sym, ap, ◌∙◌, subst, eq-eqb, ne_eqb, arith}
use Rattle.std.proofs.lemmas.List.{append-nil, take-append-le}
use Rattle.std.proofs.Math.Seq.{take-length}
use Rattle.std.specs.List.{AllByRecursion as Each}
use mathlib.Core.Logic.{dite}
use native.Mathlib.Decide.{ℕ_discrete}
use Rattle.tow_model.specs.declared.account.Bound.{Bound}
use Rattle.tow_history.specs.declared.entry.Entry.{Entry}
use Rattle.tow_history.specs.Deed.{deed_of, queue_of, counters_end}
use Rattle.tow_history.specs.Legal.{Who, LimitState, nobody, times, waiting, May, done, state_after}
use Rattle.tow_history.specs.Histories.{enterings, leavings}
use Rattle.tow_history.proofs.Sound.{length_add, legal_add, state_add, sound_after}
use Rattle.tow_history.proofs.Exchanges.{present_from}
use Rattle.tow_history.proofs.Counting.{counts_from}
use Rattle.tow_pass.specs.Calls.{Numbered, was_refused, entries, admissions, leavings_of, seen, in_order}
use Rattle.tow_pass.specs.Rule.{most_inside, word_of, numbered, IsRight, LimitRule}
use Rattle.tow_pass.proofs.CallLists.{each_add, each_weaker, entries_add, seen_add, in_order_add, numbered_add, admissions_entries, leavings_entries, admissions_numbered, leavings_numbered, refusals_add, none_refused, more, more_at, more_else}

no_one : (w : Who) (line : List (Who × ℕ)) → length line ≤ 0 → times w (waiting line) ≡ 0
no_one w [] le = refl
no_one w (p ∷ line) le = absurd (omega arith)

module _ (b : Bound) (word : ℕ) (calls : ℕ → List Numbered) (r : LimitRule b word calls) where
  pub few : length (state_after r.log).inside ≤ b.most
  few = (sound_after b.most (queue_of b) r.log r.legal).few

  -- its numbers are those of the admissions, queuings and leavings of the log
  pub counted : (state_after r.log).drawn + (state_after r.log).left ≡ length r.log
  counted = let sum = counts_from nobody r.log in let none = r.no_refusal in omega (arith, sum, none)

  -- an exchange is inside as often as it was admitted and did not leave
  pub balance : (k j : ℕ) → times (k, j) (state_after r.log).inside + leavings_of j (calls k) ≡ admissions j (calls k)
  balance k j =
      let sum = present_from b.most (queue_of b) (k, j) nobody r.log r.legal in
      let none : times (k, j) (waiting (state_after r.log).line) ≡ 0 = no_one (k, j) (state_after r.log).line (sound_after b.most (queue_of b) r.log r.legal).short in
      let came : admissions j (calls k) ≡ enterings (k, j) r.log = sym (admissions_entries j (calls k)) ∙ ap (admissions j) (r.made k) ∙ admissions_numbered k j 0 r.log in
      let went : leavings_of j (calls k) ≡ leavings (k, j) r.log = sym (leavings_entries j (calls k)) ∙ ap (leavings_of j) (r.made k) ∙ leavings_numbered k j 0 r.log in
      omega (arith, sum, none, came, went)

  pub there : (k j : ℕ) → leavings_of j (calls k) < admissions j (calls k) → 0 < times (k, j) (state_after r.log).inside
  there k j less = let sum = balance k j in omega (arith, sum, less)

  still_right : (k : ℕ) (e : Entry) (c : Numbered) → IsRight b r.log k c → IsRight b (r.log ++ e ∷ []) k c
  still_right k e c right is =
      let was = right is in
      let long : length (r.log ++ e ∷ []) ≡ suc (length r.log) = length_add r.log e in
      let le : c.number ≤ length r.log = was.0 in (
        omega arith,
        subst (λ log. May b.most (queue_of b) (state_after log) (k, c.call.request) (deed_of c.call.what)) (sym (take-append-le c.number r.log (e ∷ []) le)) was.1,
      )

  -- an admission or a leaving more
  pub gains : (new k : ℕ) (c : Numbered) → was_refused c ≡ false → c.number ≡ length r.log → May b.most (queue_of b) (state_after r.log) (k, c.call.request) (deed_of c.call.what)
      → new ≡ word_of (suc (length r.log)) (length (done (deed_of c.call.what) (k, c.call.request) (state_after r.log)).inside)
      → suc (length r.log) + length (done (deed_of c.call.what) (k, c.call.request) (state_after r.log)).inside ≤ counters_end + most_inside
      → LimitRule b new (more calls k c)
  gains new k c entry number may is fits =
      let e : Entry = record { connection = k; call = c.call } in
      let log : List Entry = r.log ++ e ∷ [] in
      let long : length log ≡ suc (length r.log) = length_add r.log e in
      let next : state_after log ≡ done (deed_of c.call.what) (k, c.call.request) (state_after r.log) = state_add nobody r.log e in
      record {
        log = log;
        word_is = is ∙ ap (λ (t : ℕ × LimitState). word_of t.0 (length t.1.inside)) (λ i. (sym long i, sym next i));
        legal = legal_add b.most (queue_of b) nobody r.log e r.legal may;
        no_refusal = let sum = refusals_add r.log e in let none = none_refused (deed_of c.call.what) entry in let old = r.no_refusal in omega (arith, sum, none, old);
        small = subst (λ (t : ℕ × LimitState). t.0 + length t.1.inside ≤ counters_end + most_inside) (λ i. (sym long i, sym next i)) fits;
        made = λ q. dite (ℕ_discrete q k) (made_here q e number entry) (made_else q e);
        refused = λ q. dite (ℕ_discrete q k)
            (λ same. subst (Each (IsRight b log q)) (sym (more_at calls k c q same)) (each_add (IsRight b log q) (calls q) c (each_weaker (IsRight b r.log q) (IsRight b log q) (calls q) (still_right q e) (r.refused q)) (λ was. absurd (let z : true ≡ false = sym was ∙ entry in cc))))
            (λ ne. subst (Each (IsRight b log q)) (sym (more_else calls k c q ne)) (each_weaker (IsRight b r.log q) (IsRight b log q) (calls q) (still_right q e) (r.refused q)));
        ordered = λ q. dite (ℕ_discrete q k)
            (λ same. subst (in_order 0) (sym (more_at calls k c q same)) (in_order_add 0 (calls q) c (r.ordered q) (let le = r.known q in omega (arith, le, number))))
            (λ ne. subst (in_order 0) (sym (more_else calls k c q ne)) (r.ordered q));
        known = λ q. dite (ℕ_discrete q k)
            (λ same. let now : seen 0 (more calls k c q) ≡ suc c.number = ap (seen 0) (more_at calls k c q same) ∙ seen_add 0 (calls q) c ∙ ap (λ u. cond u c.number (suc c.number)) entry in omega (arith, now, number, long))
            (λ ne. let now : seen 0 (more calls k c q) ≡ seen 0 (calls q) = ap (seen 0) (more_else calls k c q ne) in let le = r.known q in omega (arith, now, le, long));
      }
    where
      made_here : (q : ℕ) (e : Entry) → c.number ≡ length r.log → was_refused c ≡ false → q ≡ k → entries (more calls k c q) ≡ numbered q 0 (r.log ++ record { connection = k; call = c.call } ∷ [])
      made_here q e number entry same =
          let place : 0 + length r.log ≡ c.number = omega (arith, number) in
          ap entries (more_at calls k c q same) ∙ entries_add (calls q) c ∙ ap (λ u. entries (calls q) ++ cond u [] (c ∷ [])) entry
          ∙ ap (λ cs. cs ++ c ∷ []) (r.made q)
          ∙ ap (λ n. numbered q 0 r.log ++ record { number = n; call = c.call } ∷ []) (sym place)
          ∙ ap (λ u. numbered q 0 r.log ++ cond u (record { number = 0 + length r.log; call = c.call } ∷ []) []) (sym (eq-eqb k q (sym same)))
          ∙ sym (numbered_add q 0 r.log (record { connection = k; call = c.call }))

      made_else : (q : ℕ) (e : Entry) → q ≢ k → entries (more calls k c q) ≡ numbered q 0 (r.log ++ record { connection = k; call = c.call } ∷ [])
      made_else q e ne =
          ap entries (more_else calls k c q ne) ∙ r.made q ∙ sym (append-nil (numbered q 0 r.log))
          ∙ ap (λ u. numbered q 0 r.log ++ cond u (record { number = 0 + length r.log; call = c.call } ∷ []) []) (sym (ne_eqb k q (λ z. ne (sym z))))
          ∙ sym (numbered_add q 0 r.log (record { connection = k; call = c.call }))

  -- a refusal more
  pub refuses : (k : ℕ) (c : Numbered) → was_refused c ≡ true → c.number ≡ length r.log → May b.most (queue_of b) (state_after r.log) (k, c.call.request) (deed_of c.call.what)
      → LimitRule b word (more calls k c)
  refuses k c refusal number may =
      let right : IsRight b r.log k c = λ _. (omega (arith, number), subst (λ log. May b.most (queue_of b) (state_after log) (k, c.call.request) (deed_of c.call.what)) (sym (ap (λ n. take n r.log) number ∙ take-length r.log)) may) in
      record {
        log = r.log;
        word_is = r.word_is;
        legal = r.legal;
        no_refusal = r.no_refusal;
        small = r.small;
        made = λ q. dite (ℕ_discrete q k)
            (λ same. ap entries (more_at calls k c q same) ∙ entries_add (calls q) c ∙ ap (λ u. entries (calls q) ++ cond u [] (c ∷ [])) refusal ∙ append-nil (entries (calls q)) ∙ r.made q)
            (λ ne. ap entries (more_else calls k c q ne) ∙ r.made q);
        refused = λ q. dite (ℕ_discrete q k)
            (λ same. subst (Each (IsRight b r.log q)) (sym (more_at calls k c q same)) (each_add (IsRight b r.log q) (calls q) c (r.refused q) (subst (λ i. IsRight b r.log i c) (sym same) right)))
            (λ ne. subst (Each (IsRight b r.log q)) (sym (more_else calls k c q ne)) (r.refused q));
        ordered = λ q. dite (ℕ_discrete q k)
            (λ same. subst (in_order 0) (sym (more_at calls k c q same)) (in_order_add 0 (calls q) c (r.ordered q) (let le = r.known q in omega (arith, le, number))))
            (λ ne. subst (in_order 0) (sym (more_else calls k c q ne)) (r.ordered q));
        known = λ q. dite (ℕ_discrete q k)
            (λ same. let now : seen 0 (more calls k c q) ≡ c.number = ap (seen 0) (more_at calls k c q same) ∙ seen_add 0 (calls q) c ∙ ap (λ u. cond u c.number (suc c.number)) refusal in omega (arith, now, number))
            (λ ne. subst (λ cs. seen 0 cs ≤ length r.log) (sym (more_else calls k c q ne)) (r.known q));
      }
