-- Lists of calls, with one call more.
use Rattle.std.proofs.Common.{◌≡◌, ◌≢◌, ℕ, suc, ◌+◌, ◌≤◌, ◌==◌, ◌&&◌, Bool, true, false, cond, List, [], ◌∷◌, ◌++◌, length, All, refl, sym, ap, ◌∙◌, eq-eqb, ne_eqb, arith}
use Rattle.std.proofs.lemmas.List.{append-nil}
use Rattle.std.specs.List.{AllByRecursion as Each}
use mathlib.Core.Logic.{dite}
use native.Mathlib.Decide.{ℕ_discrete}
use Rattle.tow_history.specs.declared.entry.Entry.{Entry}
use Rattle.tow_history.specs.Deed.{Deed, Comes, Waits, Stays_out, Goes, deed_of}
use Rattle.tow_history.specs.Histories.{refusals, refusals_in, entering, leaving, enterings, leavings}
use Rattle.tow_pass.specs.Calls.{Numbered, is_refusal, was_refused, asks_place, at_limit, entries, admissions, leavings_of, seen_by, seen, in_order, asked_by, last_asked, requests_rise}
use Rattle.tow_pass.specs.Rule.{numbered}

module _ {X : Type 0} where
  cond_front : (b : Bool) (x : X) (xs ys : List X) → cond b (x ∷ (xs ++ ys)) (xs ++ ys) ≡ cond b (x ∷ xs) xs ++ ys
  cond_front true x xs ys = refl
  cond_front false x xs ys = refl

  cond_back : (b : Bool) (x : X) (xs ys : List X) → cond b (xs ++ ys) (x ∷ (xs ++ ys)) ≡ cond b xs (x ∷ xs) ++ ys
  cond_back true x xs ys = refl
  cond_back false x xs ys = refl

  pub each_add : (P : X → Type 0) (xs : List X) (x : X) → Each P xs → P x → Each P (xs ++ x ∷ [])
  each_add P [] x each p = (p, tt)
  each_add P (y ∷ xs) x each p = (each.0, each_add P xs x each.1 p)

  pub each_weaker : (P Q : X → Type 0) (xs : List X) → ((x : X) → P x → Q x) → Each P xs → Each Q xs
  each_weaker P Q [] f each = tt
  each_weaker P Q (x ∷ xs) f each = (f x each.0, each_weaker P Q xs f each.1)

  pub all_each : (P : X → Type 0) (xs : List X) → All P xs → Each P xs
  all_each P [] all = tt
  all_each P (x ∷ xs) all = (all 0 x (omega arith), all_each P xs (λ k d lt. all (suc k) d (omega arith)))

pub eq_swap : (m n : ℕ) → (m == n) ≡ (n == m)
eq_swap m n = dite (ℕ_discrete m n) (λ e. eq-eqb m n e ∙ sym (eq-eqb n m (sym e))) (λ ne. ne_eqb m n ne ∙ sym (ne_eqb n m (λ e. ne (sym e))))

pub at_limit_add : (l : ℕ) (cs : List Numbered) (c : Numbered) → at_limit l (cs ++ c ∷ []) ≡ at_limit l cs ++ cond (c.call.limit == l) (c ∷ []) []
at_limit_add l [] c = refl
at_limit_add l (x ∷ cs) c = ap (λ ys. cond (x.call.limit == l) (x ∷ ys) ys) (at_limit_add l cs c) ∙ cond_front (x.call.limit == l) x (at_limit l cs) (cond (c.call.limit == l) (c ∷ []) [])

pub entries_add : (cs : List Numbered) (c : Numbered) → entries (cs ++ c ∷ []) ≡ entries cs ++ cond (was_refused c) [] (c ∷ [])
entries_add [] c = refl
entries_add (x ∷ cs) c = ap (λ ys. cond (was_refused x) ys (x ∷ ys)) (entries_add cs c) ∙ cond_back (was_refused x) x (entries cs) (cond (was_refused c) [] (c ∷ []))

pub seen_add : (n : ℕ) (cs : List Numbered) (c : Numbered) → seen n (cs ++ c ∷ []) ≡ seen_by c
seen_add n [] c = refl
seen_add n (x ∷ cs) c = seen_add (seen_by x) cs c

pub in_order_add : (n : ℕ) (cs : List Numbered) (c : Numbered) → in_order n cs → seen n cs ≤ c.number → in_order n (cs ++ c ∷ [])
in_order_add n [] c order le = (le, tt)
in_order_add n (x ∷ cs) c order le = (order.0, in_order_add (seen_by x) cs c order.1 le)

pub requests_add : (j : ℕ) (cs : List Numbered) (c : Numbered) → requests_rise j cs → (asks_place c.call.what ≡ true → last_asked j cs ≤ c.call.request) → requests_rise j (cs ++ c ∷ [])
requests_add j [] c rise le = (le, tt)
requests_add j (x ∷ cs) c rise le = (rise.0, requests_add (asked_by j x) cs c rise.1 le)

asked_below : (b : Bool) (r j m : ℕ) → r ≤ m → j ≤ m → cond b r j ≤ m
asked_below true r j m le le' = le
asked_below false r j m le le' = le'

pub asked_up_to : (j m : ℕ) (cs : List Numbered) → Each (λ c. c.call.request ≤ m) cs → j ≤ m → last_asked j cs ≤ m
asked_up_to j m [] each le = le
asked_up_to j m (x ∷ cs) each le = asked_up_to (asked_by j x) m cs each.1 (asked_below (asks_place x.call.what) x.call.request j m each.0 le)

pub numbered_add : (k n : ℕ) (log : List Entry) (e : Entry)
    → numbered k n (log ++ e ∷ []) ≡ numbered k n log ++ cond (e.connection == k) (record { number = n + length log; call = e.call } ∷ []) []
numbered_add k n [] e = ap (λ m. cond (e.connection == k) (record { number = m; call = e.call } ∷ []) []) (let same : n ≡ n + 0 = omega arith in same)
numbered_add k n (d ∷ log) e =
    ap (λ ys. cond (d.connection == k) (record { number = n; call = d.call } ∷ ys) ys)
    (numbered_add k (suc n) log e ∙ ap (λ m. numbered k (suc n) log ++ cond (e.connection == k) (record { number = m; call = e.call } ∷ []) []) (let same : suc n + length log ≡ n + length (d ∷ log) = omega arith in same))
    ∙ cond_front (d.connection == k) (record { number = n; call = d.call }) (numbered k (suc n) log) (cond (e.connection == k) (record { number = n + length (d ∷ log); call = e.call } ∷ []) [])

-- a refusal neither enters nor leaves
no_entering : (d : Deed) → is_refusal d ≡ true → entering d ≡ 0
no_entering Comes is = absurd (cc)
no_entering (Waits t) is = absurd (cc)
no_entering Stays_out is = refl
no_entering Goes is = absurd (cc)

no_leaving : (d : Deed) → is_refusal d ≡ true → leaving d ≡ 0
no_leaving Comes is = absurd (cc)
no_leaving (Waits t) is = absurd (cc)
no_leaving Stays_out is = refl
no_leaving Goes is = absurd (cc)

counts_none : (b : Bool) (m n i : ℕ) → i ≡ 0 → m ≡ n → m ≡ cond b (i + n) n
counts_none true m n i none e = omega arith
counts_none false m n i none e = e

pub admissions_entries : (j : ℕ) (cs : List Numbered) → admissions j (entries cs) ≡ admissions j cs
admissions_entries j [] = refl
admissions_entries j (c ∷ cs) = cases (was_refused c) refl (admissions_entries j cs) where
  cases : (b : Bool) → was_refused c ≡ b → admissions j (entries cs) ≡ admissions j cs → admissions j (cond b (entries cs) (c ∷ entries cs)) ≡ admissions j (c ∷ cs)
  cases true is old = counts_none (j == c.call.request) (admissions j (entries cs)) (admissions j cs) (entering (deed_of c.call.what)) (no_entering (deed_of c.call.what) is) old
  cases false is old = ap (λ n. cond (j == c.call.request) (entering (deed_of c.call.what) + n) n) old

pub leavings_entries : (j : ℕ) (cs : List Numbered) → leavings_of j (entries cs) ≡ leavings_of j cs
leavings_entries j [] = refl
leavings_entries j (c ∷ cs) = cases (was_refused c) refl (leavings_entries j cs) where
  cases : (b : Bool) → was_refused c ≡ b → leavings_of j (entries cs) ≡ leavings_of j cs → leavings_of j (cond b (entries cs) (c ∷ entries cs)) ≡ leavings_of j (c ∷ cs)
  cases true is old = counts_none (j == c.call.request) (leavings_of j (entries cs)) (leavings_of j cs) (leaving (deed_of c.call.what)) (no_leaving (deed_of c.call.what) is) old
  cases false is old = ap (λ n. cond (j == c.call.request) (leaving (deed_of c.call.what) + n) n) old

-- what one connection did of all
admissions_step : (b : Bool) (j : ℕ) (c : Numbered) (cs : List Numbered) (n : ℕ) → admissions j cs ≡ n
    → admissions j (cond b (c ∷ cs) cs) ≡ cond (b && (j == c.call.request)) (entering (deed_of c.call.what) + n) n
admissions_step true j c cs n e = ap (λ m. cond (j == c.call.request) (entering (deed_of c.call.what) + m) m) e
admissions_step false j c cs n e = e

pub admissions_numbered : (k j n : ℕ) (log : List Entry) → admissions j (numbered k n log) ≡ enterings (k, j) log
admissions_numbered k j n [] = refl
admissions_numbered k j n (e ∷ log) =
    admissions_step (e.connection == k) j (record { number = n; call = e.call }) (numbered k (suc n) log) (enterings (k, j) log) (admissions_numbered k j (suc n) log)
    ∙ ap (λ b. cond (b && (j == e.call.request)) (entering (deed_of e.call.what) + enterings (k, j) log) (enterings (k, j) log)) (eq_swap e.connection k)

leavings_step : (b : Bool) (j : ℕ) (c : Numbered) (cs : List Numbered) (n : ℕ) → leavings_of j cs ≡ n
    → leavings_of j (cond b (c ∷ cs) cs) ≡ cond (b && (j == c.call.request)) (leaving (deed_of c.call.what) + n) n
leavings_step true j c cs n e = ap (λ m. cond (j == c.call.request) (leaving (deed_of c.call.what) + m) m) e
leavings_step false j c cs n e = e

pub leavings_numbered : (k j n : ℕ) (log : List Entry) → leavings_of j (numbered k n log) ≡ leavings (k, j) log
leavings_numbered k j n [] = refl
leavings_numbered k j n (e ∷ log) =
    leavings_step (e.connection == k) j (record { number = n; call = e.call }) (numbered k (suc n) log) (leavings (k, j) log) (leavings_numbered k j (suc n) log)
    ∙ ap (λ b. cond (b && (j == e.call.request)) (leaving (deed_of e.call.what) + leavings (k, j) log) (leavings (k, j) log)) (eq_swap e.connection k)

pub refusals_add : (log : List Entry) (e : Entry) → refusals (log ++ e ∷ []) ≡ refusals log + refusals_in (deed_of e.call.what)
refusals_add [] e = omega arith
refusals_add (d ∷ log) e = let more = refusals_add log e in omega arith

pub none_refused : (d : Deed) → is_refusal d ≡ false → refusals_in d ≡ 0
none_refused Comes is = refl
none_refused (Waits t) is = refl
none_refused Stays_out is = absurd (cc)
none_refused Goes is = refl

-- the calls with one call more, of one pass
pub more : (ℕ → List Numbered) → ℕ → Numbered → ℕ → List Numbered
more calls k c i = cond (i == k) (calls i ++ c ∷ []) (calls i)

pub more_at : (calls : ℕ → List Numbered) (k : ℕ) (c : Numbered) (i : ℕ) → i ≡ k → more calls k c i ≡ calls i ++ c ∷ []
unfolding more
more_at calls k c i e = rw (eq-eqb i k e) refl

pub more_else : (calls : ℕ → List Numbered) (k : ℕ) (c : Numbered) (i : ℕ) → i ≢ k → more calls k c i ≡ calls i
unfolding more
more_else calls k c i ne = rw (ne_eqb i k ne) refl

pub at_more : (calls : ℕ → List Numbered) (l k : ℕ) (c : Numbered) → c.call.limit ≡ l → (i : ℕ) → at_limit l (more calls k c i) ≡ more (λ q. at_limit l (calls q)) k c i
at_more calls l k c is i = dite (ℕ_discrete i k)
    (λ e. ap (at_limit l) (more_at calls k c i e) ∙ at_limit_add l (calls i) c ∙ ap (λ b. at_limit l (calls i) ++ cond b (c ∷ []) []) (eq-eqb c.call.limit l is) ∙ sym (more_at (λ q. at_limit l (calls q)) k c i e))
    (λ ne. ap (at_limit l) (more_else calls k c i ne) ∙ sym (more_else (λ q. at_limit l (calls q)) k c i ne))

pub at_more_else : (calls : ℕ → List Numbered) (l k : ℕ) (c : Numbered) → c.call.limit ≢ l → (i : ℕ) → at_limit l (more calls k c i) ≡ at_limit l (calls i)
at_more_else calls l k c apart i = dite (ℕ_discrete i k)
    (λ e. ap (at_limit l) (more_at calls k c i e) ∙ at_limit_add l (calls i) c ∙ ap (λ b. at_limit l (calls i) ++ cond b (c ∷ []) []) (ne_eqb c.call.limit l apart) ∙ append-nil (at_limit l (calls i)))
    (λ ne. ap (at_limit l) (more_else calls k c i ne))

counts_end : (b : Bool) (m n i : ℕ) → m ≡ n → cond b (i + m) m ≡ cond b (i + n) n
counts_end b m n i e = ap (λ (x : ℕ). cond b (i + x) x) e

pub admissions_add : (j : ℕ) (cs : List Numbered) (c : Numbered) → j ≡ c.call.request → admissions j (cs ++ c ∷ []) ≡ admissions j cs + entering (deed_of c.call.what)
admissions_add j [] c is = ap (λ b. cond b (entering (deed_of c.call.what) + 0) 0) (eq-eqb j c.call.request is) ∙ omega arith
admissions_add j (x ∷ cs) c is = sum (j == x.call.request) (entering (deed_of x.call.what)) (admissions j (cs ++ c ∷ [])) (admissions j cs) (entering (deed_of c.call.what)) (admissions_add j cs c is) where
  sum : (b : Bool) (i m n k : ℕ) → m ≡ n + k → cond b (i + m) m ≡ cond b (i + n) n + k
  sum true i m n k e = omega arith
  sum false i m n k e = e

pub leavings_add : (j : ℕ) (cs : List Numbered) (c : Numbered) → leaving (deed_of c.call.what) ≡ 0 → leavings_of j (cs ++ c ∷ []) ≡ leavings_of j cs
leavings_add j [] c none = nothing (j == c.call.request) (leaving (deed_of c.call.what)) none where
  nothing : (b : Bool) (i : ℕ) → i ≡ 0 → cond b (i + 0) 0 ≡ 0
  nothing true i e = omega arith
  nothing false i e = refl
leavings_add j (x ∷ cs) c none = counts_end (j == x.call.request) (leavings_of j (cs ++ c ∷ [])) (leavings_of j cs) (leaving (deed_of x.call.what)) (leavings_add j cs c none)
