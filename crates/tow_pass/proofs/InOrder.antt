-- The calls of a pass, joined by number, are its calls in their order.
use Rattle.std.proofs.Common.{◌≡◌, ◌≢◌, ℕ, zero, suc, ◌+◌, ◌<◌, ◌≤◌, ◌==◌, Bool, true, false, cond, List, [], ◌∷◌, ◌++◌, refl, ap, ◌∙◌, subst, eq-eqb, ne_eqb, arith}
use mathlib.Core.Logic.{dite}
use native.Mathlib.Decide.{ℕ_discrete}
use Rattle.tow_model.specs.declared.account.Call.{Call}
use Rattle.tow_history.specs.Histories.{calls_at}
use Rattle.tow_pass.specs.Calls.{Numbered, was_refused, at_limit, seen_by, seen, in_order}
use Rattle.tow_pass.specs.Closing.{gather, calls_of, refused_at, made_at}
use Rattle.tow_pass.proofs.Gather.{gather_same, gather_none}

-- what the pass did with number i: its refusals, and then its admission or leaving
abbrev pub did : List Numbered → ℕ → List Call
did cs i = refused_at i cs ++ made_at i cs

skip_refused : (i : ℕ) (c : Numbered) (cs : List Numbered) → c.number ≢ i → refused_at i (c ∷ cs) ≡ refused_at i cs
skip_refused i c cs ne = ap (λ w. cond (was_refused c) (cond w (c.call ∷ refused_at i cs) (refused_at i cs)) (refused_at i cs)) (ne_eqb c.number i ne) ∙ both (was_refused c) (refused_at i cs) where
  both : (b : Bool) (xs : List Call) → cond b xs xs ≡ xs
  both true xs = refl
  both false xs = refl

skip_made : (i : ℕ) (c : Numbered) (cs : List Numbered) → c.number ≢ i → made_at i (c ∷ cs) ≡ made_at i cs
skip_made i c cs ne = ap (λ w. cond (was_refused c) (made_at i cs) (cond w (c.call ∷ made_at i cs) (made_at i cs))) (ne_eqb c.number i ne) ∙ both (was_refused c) (made_at i cs) where
  both : (b : Bool) (xs : List Call) → cond b xs xs ≡ xs
  both true xs = refl
  both false xs = refl

skip : (i : ℕ) (c : Numbered) (cs : List Numbered) → c.number ≢ i → did (c ∷ cs) i ≡ did cs i
skip i c cs ne = ap (λ xs. xs ++ made_at i (c ∷ cs)) (skip_refused i c cs ne) ∙ ap (λ xs. refused_at i cs ++ xs) (skip_made i c cs ne)

seen_from : (c : Numbered) → c.number ≤ seen_by c
seen_from c = step (was_refused c) c.number where
  step : (b : Bool) (n : ℕ) → n ≤ cond b n (suc n)
  step true n = omega arith
  step false n = omega arith

in_order_from : (m n : ℕ) (cs : List Numbered) → m ≤ n → in_order n cs → in_order m cs
in_order_from m n [] le order = tt
in_order_from m n (c ∷ cs) le order = (let here = order.0 in omega arith, order.1)

-- no call has a number below the first
none_refused_before : (i n : ℕ) (cs : List Numbered) → i < n → in_order n cs → refused_at i cs ≡ []
none_refused_before i n [] lt order = refl
none_refused_before i n (c ∷ cs) lt order =
    skip_refused i c cs (λ z. absurd (let here = order.0 in omega arith)) ∙ none_refused_before i (seen_by c) cs (let here = order.0 in let le = seen_from c in omega arith) order.1

none_made_before : (i n : ℕ) (cs : List Numbered) → i < n → in_order n cs → made_at i cs ≡ []
none_made_before i n [] lt order = refl
none_made_before i n (c ∷ cs) lt order =
    skip_made i c cs (λ z. absurd (let here = order.0 in omega arith)) ∙ none_made_before i (seen_by c) cs (let here = order.0 in let le = seen_from c in omega arith) order.1

seen_grows : (n : ℕ) (cs : List Numbered) → in_order n cs → n ≤ seen n cs
seen_grows n [] order = omega arith
seen_grows n (c ∷ cs) order = let more = seen_grows (seen_by c) cs order.1 in let here = order.0 in let le = seen_from c in omega arith

refused_here : (c : Numbered) (cs : List Numbered) (n : ℕ) → was_refused c ≡ true → c.number ≡ n → (refused_at n (c ∷ cs) ≡ c.call ∷ refused_at n cs) × (made_at n (c ∷ cs) ≡ made_at n cs)
refused_here c cs n is same = (
  ap (λ b. cond b (cond (c.number == n) (c.call ∷ refused_at n cs) (refused_at n cs)) (refused_at n cs)) is ∙ ap (λ w. cond w (c.call ∷ refused_at n cs) (refused_at n cs)) (eq-eqb c.number n same),
  ap (λ b. cond b (made_at n cs) (cond (c.number == n) (c.call ∷ made_at n cs) (made_at n cs))) is,
)

made_here : (c : Numbered) (cs : List Numbered) (n : ℕ) → was_refused c ≡ false → c.number ≡ n → (refused_at n (c ∷ cs) ≡ refused_at n cs) × (made_at n (c ∷ cs) ≡ c.call ∷ made_at n cs)
made_here c cs n is same = (
  ap (λ b. cond b (cond (c.number == n) (c.call ∷ refused_at n cs) (refused_at n cs)) (refused_at n cs)) is,
  ap (λ b. cond b (made_at n cs) (cond (c.number == n) (c.call ∷ made_at n cs) (made_at n cs))) is ∙ ap (λ w. cond w (c.call ∷ made_at n cs) (made_at n cs)) (eq-eqb c.number n same),
)

-- what is said of calls from n on, for so many numbers more
abbrev Joins_from : ℕ → Type 0
Joins_from many = (n : ℕ) (cs : List Numbered) → in_order n cs → seen n cs ≤ n + many → gather (did cs) n (suc many) ≡ calls_of cs

abbrev Tail : ℕ → ℕ → Type 0
Tail n many = (cs : List Numbered) → in_order (suc n) cs → seen (suc n) cs ≤ n + many → gather (did cs) (suc n) many ≡ calls_of cs

-- a refusal with the first number
with_refusal : (n many : ℕ) (c : Numbered) (cs : List Numbered) → was_refused c ≡ true → c.number ≡ n → gather (did cs) n (suc many) ≡ calls_of cs → gather (did (c ∷ cs)) n (suc many) ≡ calls_of (c ∷ cs)
with_refusal n many c cs is same rest =
    let here = refused_here c cs n is same in
    ap (λ xs. (xs ++ made_at n (c ∷ cs)) ++ gather (did (c ∷ cs)) (suc n) many) here.0
    ∙ ap (λ xs. c.call ∷ ((refused_at n cs ++ xs) ++ gather (did (c ∷ cs)) (suc n) many)) here.1
    ∙ ap (λ xs. c.call ∷ (did cs n ++ xs)) (gather_same (did (c ∷ cs)) (did cs) (suc n) many (λ i le. skip i c cs (λ z. absurd (omega arith))))
    ∙ ap (λ xs. c.call ∷ xs) rest

-- an admission or leaving with the first number
with_entry : (n many : ℕ) (c : Numbered) (cs : List Numbered) → was_refused c ≡ false → c.number ≡ n → in_order (suc n) cs → gather (did cs) (suc n) many ≡ calls_of cs
    → gather (did (c ∷ cs)) n (suc many) ≡ calls_of (c ∷ cs)
with_entry n many c cs is same order rest =
    let here = made_here c cs n is same in
    ap (λ xs. (xs ++ made_at n (c ∷ cs)) ++ gather (did (c ∷ cs)) (suc n) many) (here.0 ∙ none_refused_before n (suc n) cs (omega arith) order)
    ∙ ap (λ xs. xs ++ gather (did (c ∷ cs)) (suc n) many) (here.1 ∙ ap (λ xs. c.call ∷ xs) (none_made_before n (suc n) cs (omega arith) order))
    ∙ ap (λ xs. c.call ∷ xs) (gather_same (did (c ∷ cs)) (did cs) (suc n) many (λ i le. skip i c cs (λ z. absurd (omega arith))))
    ∙ ap (λ xs. c.call ∷ xs) rest

-- none with the first number
with_none : (n many : ℕ) (cs : List Numbered) → in_order (suc n) cs → gather (did cs) (suc n) many ≡ calls_of cs → gather (did cs) n (suc many) ≡ calls_of cs
with_none n many cs order rest =
    ap (λ xs. (xs ++ made_at n cs) ++ gather (did cs) (suc n) many) (none_refused_before n (suc n) cs (omega arith) order)
    ∙ ap (λ xs. xs ++ gather (did cs) (suc n) many) (none_made_before n (suc n) cs (omega arith) order)
    ∙ rest

by_first : (n many : ℕ) → Tail n many → (cs : List Numbered) → in_order n cs → seen n cs ≤ n + many → gather (did cs) n (suc many) ≡ calls_of cs
by_first n many tail [] order le = gather_none (did []) n (suc many) (λ i le' lt. refl)
by_first n many tail (c ∷ cs) order le = by_number (λ o l. by_first n many tail cs o l) order le where
  by_kind : (b : Bool) → was_refused c ≡ b → c.number ≡ n → (in_order n cs → seen n cs ≤ n + many → gather (did cs) n (suc many) ≡ calls_of cs) → in_order (seen_by c) cs → seen (seen_by c) cs ≤ n + many
      → gather (did (c ∷ cs)) n (suc many) ≡ calls_of (c ∷ cs)
  by_kind true is same more order le =
      let now : seen_by c ≡ n = ap (λ b. cond b c.number (suc c.number)) is ∙ same in
      with_refusal n many c cs is same (more (subst (λ m. in_order m cs) now order) (subst (λ m. seen m cs ≤ n + many) now le))
  by_kind false is same more order le =
      let now : seen_by c ≡ suc n = ap (λ b. cond b c.number (suc c.number)) is ∙ ap suc same in
      let order' : in_order (suc n) cs = subst (λ m. in_order m cs) now order in
      with_entry n many c cs is same order' (tail cs order' (subst (λ m. seen m cs ≤ n + many) now le))

  by_number : (in_order n cs → seen n cs ≤ n + many → gather (did cs) n (suc many) ≡ calls_of cs) → in_order n (c ∷ cs) → seen n (c ∷ cs) ≤ n + many → gather (did (c ∷ cs)) n (suc many) ≡ calls_of (c ∷ cs)
  by_number more order le = dite (ℕ_discrete c.number n)
      (λ same. by_kind (was_refused c) refl same more order.1 le)
      (λ ne. let here = order.0 in let later : in_order (suc n) (c ∷ cs) = (omega (arith, here, ne), order.1) in with_none n many (c ∷ cs) later (tail (c ∷ cs) later le))

pub joins_calls : (many n : ℕ) (cs : List Numbered) → in_order n cs → seen n cs ≤ n + many → gather (did cs) n (suc many) ≡ calls_of cs
joins_calls zero n cs order le = by_first n zero (λ ds later le'. no_more ds later le') cs order le where
  no_more : (ds : List Numbered) → in_order (suc n) ds → seen (suc n) ds ≤ n + 0 → [] ≡ calls_of ds
  no_more [] later le' = refl
  no_more (d ∷ ds) later le' = absurd (let grows = seen_grows (suc n) (d ∷ ds) later in omega (arith, grows, le'))
joins_calls (suc many) n cs order le = by_first n (suc many) (λ ds later le'. joins_calls many (suc n) ds later (omega (arith, le'))) cs order le

pub calls_at_limit : (l : ℕ) (cs : List Numbered) → calls_at l (calls_of cs) ≡ calls_of (at_limit l cs)
calls_at_limit l [] = refl
calls_at_limit l (c ∷ cs) = ap (λ xs. cond (c.call.limit == l) (c.call ∷ xs) xs) (calls_at_limit l cs) ∙ step (c.call.limit == l) where
  step : (b : Bool) → cond b (c.call ∷ calls_of (at_limit l cs)) (calls_of (at_limit l cs)) ≡ calls_of (cond b (c ∷ at_limit l cs) (at_limit l cs))
  step true = refl
  step false = refl
