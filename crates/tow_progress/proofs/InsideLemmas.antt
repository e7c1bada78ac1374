-- Each step of a connection keeps what its calls say of the limits that its exchanges are inside.
use Rattle.std.proofs.Common.{◌≡◌, ◌≢◌, ℕ, suc, ◌+◌, ◌<◌, ◌≤◌, Bool, true, false, ◌&&◌, ◌==◌, cond, List, [], ◌∷◌, ◌++◌, count_by, All, refl, sym, ap, ◌∙◌, subst, arith}
use Rattle.std.proofs.lemmas.List.Elements.{All-nil, All-push, All-weaker}
use Rattle.std.proofs.lemmas.List.Sums.{sum_by-cons, sum_by_push}
use Rattle.tow_model.specs.declared.record.Listener.{Listener}
use Rattle.tow_model.specs.declared.record.Listener.TheVariants as listener
use Rattle.tow_model.specs.declared.account.Call.{Call}
use Rattle.tow_model.specs.declared.account.What.{What}
use Rattle.tow_model.specs.declared.account.What.TheVariants.{Enter, Leave}
use Rattle.tow_model.specs.declared.account.Verdict.TheVariants.{Admitted, Refused}
use Rattle.tow_progress.specs.Ended.{leaves}
use Rattle.tow_progress.specs.Inside.{is_entry, is_exit, goes_in, goes_out, KeepsInside, call_of, InsideIsKept}

-- ---- counts

abbrev one_if : Bool → ℕ
one_if b = cond b 1 0

same_number : (m : ℕ) → (m == m) ≡ true
same_number m = grind arith

other_number : (m n : ℕ) → m ≢ n → (n == m) ≡ false
other_number m n ne = grind (arith, ne)

is_same : (m n : ℕ) → (m == n) ≡ true → m ≡ n
is_same m n e = grind (arith, e)

is_other : (m n : ℕ) → (m == n) ≡ false → m ≢ n
is_other m n e = grind (arith, e)

-- the call is of this request, and does this or not
counts_so : (b r a : Bool) → r ≡ true → a ≡ true → one_if (b && (r && a)) ≡ one_if b
counts_so true r a e f = ap (λ x. one_if (x && a)) e ∙ ap one_if f
counts_so false r a e f = refl

counts_not : (b r a : Bool) → a ≡ false → one_if (b && (r && a)) ≡ 0
counts_not true true a e = ap one_if e
counts_not true false a e = refl
counts_not false r a e = refl

counts_other : (b r a : Bool) → r ≡ false → one_if (b && (r && a)) ≡ 0
counts_other true r a e = ap (λ x. one_if (x && a)) e
counts_other false r a e = refl

count_push : {X : Type 0} (p : X → Bool) (xs : List X) (x : X) → count_by p (xs ++ x ∷ []) ≡ count_by p xs + one_if (p x)
count_push p xs x = sum_by_push (λ y. one_if (p y)) xs x

count_cons : {X : Type 0} (p : X → Bool) (x : X) (xs : List X) → count_by p (x ∷ xs) ≡ one_if (p x) + count_by p xs
count_cons p x xs = sum_by-cons (λ y. one_if (p y)) x xs

-- ---- one more call of the open request

none_later_on : (j : ℕ) (made : List Call) (limit : ℕ) (what : What) → All (λ (c : Call). c.request ≤ j) made
    → All (λ (c : Call). c.request ≤ j) (made ++ call_of limit j what ∷ [])
none_later_on j made limit what all = All-push (λ (c : Call). c.request ≤ j) made (call_of limit j what) all (omega arith)

others_on : (j : ℕ) (made : List Call) (limit : ℕ) (what : What) (l i : ℕ) → i ≢ j
    → count_by (goes_in l i) made ≡ count_by (goes_out l i) made
    → count_by (goes_in l i) (made ++ call_of limit j what ∷ []) ≡ count_by (goes_out l i) (made ++ call_of limit j what ∷ [])
others_on j made limit what l i ne same =
    let a = count_push (goes_in l i) made (call_of limit j what) in
    let b = count_push (goes_out l i) made (call_of limit j what) in
    let c = counts_other (limit == l) (j == i) (is_entry what) (other_number i j ne) in
    let d = counts_other (limit == l) (j == i) (is_exit what) (other_number i j ne) in
    omega (arith, a, b, c, d, same)

-- ---- steps

admits_step : (j : ℕ) (to_run : List Listener) (made : List Call) (limit : ℕ) → KeepsInside j to_run made
    → KeepsInside j (listener.Leave limit ∷ to_run) (made ++ call_of limit j (Enter Admitted) ∷ [])
admits_step j to_run made limit keeps =
    let call = call_of limit j (Enter Admitted) in
    record {
      none_later = none_later_on j made limit (Enter Admitted) keeps.none_later;
      open_one = λ l.
          let a = count_push (goes_in l j) made call in
          let b = count_push (goes_out l j) made call in
          let c = counts_so (limit == l) (j == j) true (same_number j) refl in
          let d = counts_not (limit == l) (j == j) false refl in
          let e = count_cons (leaves l) (listener.Leave limit) to_run in
          let f = keeps.open_one l in
          omega (arith, a, b, c, d, e, f);
      others = λ l i ne. others_on j made limit (Enter Admitted) l i ne (keeps.others l i ne);
    }

refuses_step : (j : ℕ) (to_run : List Listener) (made : List Call) (limit : ℕ) → KeepsInside j to_run made
    → KeepsInside j to_run (made ++ call_of limit j (Enter Refused) ∷ [])
refuses_step j to_run made limit keeps =
    let call = call_of limit j (Enter Refused) in
    record {
      none_later = none_later_on j made limit (Enter Refused) keeps.none_later;
      open_one = λ l.
          let a = count_push (goes_in l j) made call in
          let b = count_push (goes_out l j) made call in
          let c = counts_not (limit == l) (j == j) false refl in
          let f = keeps.open_one l in
          omega (arith, a, b, c, f);
      others = λ l i ne. others_on j made limit (Enter Refused) l i ne (keeps.others l i ne);
    }

leaves_step : (j : ℕ) (to_run : List Listener) (made : List Call) (limit : ℕ) → KeepsInside j (listener.Leave limit ∷ to_run) made
    → KeepsInside j to_run (made ++ call_of limit j Leave ∷ [])
leaves_step j to_run made limit keeps =
    let call = call_of limit j Leave in
    record {
      none_later = none_later_on j made limit Leave keeps.none_later;
      open_one = λ l.
          let a = count_push (goes_in l j) made call in
          let b = count_push (goes_out l j) made call in
          let c = counts_so (limit == l) (j == j) true (same_number j) refl in
          let d = counts_not (limit == l) (j == j) false refl in
          let e = count_cons (leaves l) (listener.Leave limit) to_run in
          let f = keeps.open_one l in
          omega (arith, a, b, c, d, e, f);
      others = λ l i ne. others_on j made limit Leave l i ne (keeps.others l i ne);
    }

may_leave_step : (j : ℕ) (to_run : List Listener) (made : List Call) (limit : ℕ) → KeepsInside j (listener.Leave limit ∷ to_run) made
    → count_by (goes_out limit j) made < count_by (goes_in limit j) made
may_leave_step j to_run made limit keeps =
    let e = count_cons (leaves limit) (listener.Leave limit) to_run in
    let c = ap one_if (same_number limit) in
    let f = keeps.open_one limit in
    omega (arith, c, e, f)

log_step : (j : ℕ) (to_run : List Listener) (made : List Call) (number : ℕ) → KeepsInside j to_run made
    → KeepsInside j (listener.Log number ∷ to_run) made
log_step j to_run made number keeps = record {
  none_later = keeps.none_later;
  open_one = λ l. let e = count_cons (leaves l) (listener.Log number) to_run in let f = keeps.open_one l in omega (arith, e, f);
  others = keeps.others;
}

tells_step : (j : ℕ) (to_run : List Listener) (made : List Call) (number : ℕ) → KeepsInside j (listener.Log number ∷ to_run) made
    → KeepsInside j to_run made
tells_step j to_run made number keeps = record {
  none_later = keeps.none_later;
  open_one = λ l. let e = count_cons (leaves l) (listener.Log number) to_run in let f = keeps.open_one l in omega (arith, e, f);
  others = keeps.others;
}

-- what holds of the request that was open holds of it as of every other
closed : (j : ℕ) (made : List Call) → KeepsInside j [] made → (l i : ℕ) (b : Bool) → (i == j) ≡ b
    → count_by (goes_in l i) made ≡ count_by (goes_out l i) made
closed j made keeps l i true e =
    let f = keeps.open_one l in
    let g : count_by (goes_in l j) made ≡ count_by (goes_out l j) made = omega (arith, f) in
    subst (λ n. count_by (goes_in l n) made ≡ count_by (goes_out l n) made) (sym (is_same i j e)) g
closed j made keeps l i false e = keeps.others l i (is_other i j e)

goes_on_step : (j : ℕ) (made : List Call) → KeepsInside j [] made → KeepsInside (suc j) [] made
goes_on_step j made keeps = record {
  none_later = All-weaker (λ (c : Call). c.request ≤ j) (λ (c : Call). c.request ≤ suc j) (λ c le. omega (arith, le)) made keeps.none_later;
  open_one = λ l. let f = closed j made keeps l (suc j) (suc j == j) refl in omega (arith, f);
  others = λ l i ne. closed j made keeps l i (i == j) refl;
}

pub inside_is_kept : InsideIsKept
inside_is_kept = record {
  opens = λ j. record { none_later = All-nil _; open_one = λ l. refl; others = λ l i ne. refl };
  admits = admits_step;
  refuses = refuses_step;
  adds_log = log_step;
  leaves_one = leaves_step;
  may_leave = may_leave_step;
  tells_one = tells_step;
  goes_on = goes_on_step;
}
