-- What is skipped, one test after the other, and that the program goes on behind it.
use Rattle.std.proofs.Common.{◌≡◌, ℕ, zero, suc, ◌+◌, ◌-◌, ◌<◌, ◌≤◌, ◌⊎◌, inl, inr, Bool, true, false, cond, ◌||◌, List, [], ◌∷◌, map, length, drop, filter, if◌then◌else◌, Option, Some, None, slice_get, refl, sym, ap, ◌∙◌, true≢false, option_map, option_and_then, codes, arith}
use Rattle.std.specs.List.{list_any}
use Rattle.std.specs.Str.{bytes_eq}
use Rattle.std.proofs.Math.Nat.{min-eq_left, min-eq_right}
use Rattle.std.proofs.Math.Seq.{drop-length}
use Rattle.std.proofs.lemmas.Bool.{cases_lt}
use Rattle.std.proofs.lemmas.List.{drop-drop, length-drop}
use Rattle.std.proofs.lemmas.Option.{slice_get_within}
use Rattle.tow_model.specs.declared.request.Request.{Request}
use Rattle.tow_model.specs.declared.record.Record.{Record}
use Rattle.tow_model.specs.declared.predicate.Test.{Test}
use Rattle.tow_model.specs.declared.predicate.Test.TheVariants as test
use Rattle.tow_model.specs.Fields.{field}
use Rattle.tow_model.specs.Paths.{is_prefix}
use Rattle.tow_model.specs.Texts.{Text, is_among}
use Rattle.tow_semantics.specs.Predicates.{held, longest, prefix_bindings, test_of, where_true}
use Rattle.tow_semantics.specs.Plans.{Mark, Free, Passed, Worked, Stand, Exits, after_step, tested}
use Rattle.tow_matcher.specs.Firsts.{row_holds}
use Rattle.tow_program.specs.declared.instruction.Instruction.{Instruction}
use Rattle.tow_program.specs.declared.instruction.Instruction.TheVariants.{Ask, Do, Skip}
use Rattle.tow_program.specs.Runs.{run, exits_in, way_in}
use Rattle.tow_program.specs.Skips.{row_of, alternatives, failing, failing_by, past, passed, skipped}
use Rattle.tow_program.specs.Laws.{SkippedAreAsked}

-- ONE INSTRUCTION

pub reads : (program : List Instruction) (at : ℕ) (i : Instruction) → slice_get program at ≡ Some i → drop at program ≡ i ∷ drop (suc at) program
reads [] at i is = absurd cc
reads (j ∷ program) zero i is = let e : j ≡ i = cc in ap (λ k. k ∷ program) e
reads (j ∷ program) (suc at) i is = reads program at i is

pub past_end : (program : List Instruction) (at : ℕ) → slice_get program at ≡ None → length program ≤ at
past_end [] at none = omega arith
past_end (i ∷ program) zero none = absurd cc
past_end (i ∷ program) (suc at) none = omega (arith, past_end program at none)

module _ (path : Text) (i : Instruction) (is : List Instruction) where
  abbrev passed_after : Option ℕ → ℕ
  passed_after o = elim o [ None ↦ 0 | Some fails ↦ suc (passed path is fails) ]

  stays_here : failing path i ≡ None → passed path (i ∷ is) 0 ≡ 0
  stays_here e = ap passed_after e

  goes_on : (fails : ℕ) → failing path i ≡ Some fails → passed path (i ∷ is) 0 ≡ suc (passed path is fails)
  goes_on fails e = ap passed_after e

-- PLACES

within : (path : Text) (is : List Instruction) (k : ℕ) → k ≤ length is → passed path is k ≡ k + passed path (drop k is) 0
within path [] zero low = refl
within path [] (suc k) low = absurd (omega (arith, low))
within path (i ∷ is) zero low = omega arith
within path (i ∷ is) (suc k) low =
    let deeper : passed path is k ≡ k + passed path (drop k is) 0 = within path is k (omega (arith, low)) in
    ap suc deeper ∙ omega arith

beyond : (path : Text) (is : List Instruction) (k : ℕ) → length is ≤ k → passed path is k ≡ length is
beyond path [] k low = refl
beyond path (i ∷ is) zero low = absurd (omega (arith, low))
beyond path (i ∷ is) (suc k) low = ap suc (beyond path is k (omega (arith, low)))

module _ (program : List Instruction) (path : Text) (at : ℕ) where
  -- behind the last instruction nothing is skipped
  pub nothing_skipped : length program ≤ at → skipped program path at ≡ at
  nothing_skipped low =
      let none : passed path (drop at program) 0 ≡ 0 = beyond_all (drop at program) (length-drop at program) in
      omega (arith, none)
    where
      beyond_all : (is : List Instruction) → length is ≡ length program - at → passed path is 0 ≡ 0
      beyond_all [] e = refl
      beyond_all (i ∷ is) e = absurd (omega (arith, e, low))

  module _ (i : Instruction) (is : slice_get program at ≡ Some i) where
    pub stays : failing path i ≡ None → skipped program path at ≡ at
    stays none =
        let here : passed path (drop at program) 0 ≡ 0 =
        ap (λ l. passed path l 0) (reads program at i is) ∙ stays_here path i (drop (suc at) program) none in
        omega (arith, here)

    steps : (fails : ℕ) → failing path i ≡ Some fails → passed path (drop at program) 0 ≡ suc (passed path (drop (suc at) program) fails)
    steps fails some = ap (λ l. passed path l 0) (reads program at i is) ∙ goes_on path i (drop (suc at) program) fails some

    -- a test that fails leads on
    pub skips : (fails : ℕ) → failing path i ≡ Some fails → skipped program path at ≡ skipped program path (past program at fails)
    skips fails some = by (cases_lt (length program) (suc at + fails))
      where
        by : (length program < suc at + fails) ⊎ (suc at + fails ≤ length program) → skipped program path at ≡ skipped program path (past program at fails)
        by (inl low) =
            let last : past program at fails ≡ length program = min-eq_right (omega (arith, low)) in
            let inside : at < length program = slice_get_within program at i is in
            let long : length (drop (suc at) program) ≡ length program - suc at = length-drop (suc at) program in
            let all : passed path (drop (suc at) program) fails ≡ length (drop (suc at) program) =
            beyond path (drop (suc at) program) fails (omega (arith, long, low)) in
            let here : passed path (drop at program) 0 ≡ suc (passed path (drop (suc at) program) fails) = steps fails some in
            let end : passed path (drop (length program) program) 0 ≡ 0 = ap (λ l. passed path l 0) (drop-length program) in
            let same : skipped program path at ≡ skipped program path (length program) = omega (arith, here, all, long, inside, end) in
            same ∙ ap (skipped program path) (sym last)
        by (inr low) =
            let next : past program at fails ≡ suc at + fails = min-eq_left low in
            let long : length (drop (suc at) program) ≡ length program - suc at = length-drop (suc at) program in
            let some_more : passed path (drop (suc at) program) fails ≡ fails + passed path (drop fails (drop (suc at) program)) 0 =
            within path (drop (suc at) program) fails (omega (arith, long, low)) in
            let there : passed path (drop fails (drop (suc at) program)) 0 ≡ passed path (drop (suc at + fails) program) 0 =
            ap (λ l. passed path l 0) (drop-drop fails (suc at) program) in
            let here : passed path (drop at program) 0 ≡ suc (passed path (drop (suc at) program) fails) = steps fails some in
            let same : skipped program path at ≡ skipped program path (suc at + fails) = omega (arith, here, some_more, there) in
            same ∙ ap (skipped program path) (sym next)

-- A TEST OF LITERAL PATHS THAT FAILS

among : (path : Text) (paths : List Text) → list_any (row_holds path) (map (row_of false) paths) ≡ is_among path paths
among path [] = refl
among path (p ∷ paths) = ap (λ b. bytes_eq p path || b) (among path paths)

module _ (path : Text) (prefixes : List Text) where
  abbrev any_under : Bool
  any_under = list_any (row_holds path) (map (row_of true) prefixes)

  abbrev all_under : List Text
  all_under = filter (λ p. is_prefix p path) prefixes

  one_fewer : (p : Text) (b : Bool) → is_prefix p path ≡ b → (is_prefix p path || any_under) ≡ false → (any_under ≡ false → all_under ≡ []) →
      cond (is_prefix p path) (p ∷ all_under) all_under ≡ []
  one_fewer p true is e deeper = absurd (true≢false (sym (ap (λ b. b || any_under) is) ∙ e))
  one_fewer p false is e deeper = ap (λ b. cond b (p ∷ all_under) all_under) is ∙ deeper (sym (ap (λ b. b || any_under) is) ∙ e)

none_under : (path : Text) (prefixes : List Text) → list_any (row_holds path) (map (row_of true) prefixes) ≡ false → filter (λ p. is_prefix p path) prefixes ≡ []
none_under path [] e = refl
none_under path (p ∷ prefixes) e = one_fewer path prefixes p (is_prefix p path) refl e (none_under path prefixes)

module _ (q : Request) (m : ℕ) (x : Record) where
  abbrev Fails : Test → ℕ → ℕ → Type 0
  Fails t other fails = (test_of t q x m ≡ None) × (other ≡ fails)

  fails_where : (b : Bool) (other fails : ℕ) → (if b then None else Some other) ≡ Some fails → (b ≡ false) × (other ≡ fails)
  fails_where true other fails e = absurd cc
  fails_where false other fails e = let same : other ≡ fails = cc in (refl, same)

  fails_of : (t : Test) (other fails : ℕ) → option_and_then (failing_by x.path) (alternatives t other) ≡ Some fails → Fails t other fails
  fails_of (test.Path paths) other fails e =
      let f = fails_where (list_any (row_holds x.path) (map (row_of false) paths)) other fails e in
      (ap where_true (sym (among x.path paths) ∙ f.0), f.1)
  fails_of (test.Prefix prefixes) other fails e =
      let f = fails_where (list_any (row_holds x.path) (map (row_of true) prefixes)) other fails e in
      (ap (λ l. option_map (λ p. field (codes "remaining") (drop (length p) x.path) ∷ []) (longest l)) (none_under x.path prefixes f.0), f.1)
  fails_of test.True other fails e = absurd cc
  fails_of test.False other fails e = absurd cc
  fails_of (test.Suffix s) other fails e = absurd cc
  fails_of (test.PathTemplate p v) other fails e = absurd cc
  fails_of (test.Regex n p v) other fails e = absurd cc
  fails_of (test.Method ms) other fails e = absurd cc
  fails_of (test.Equals vs) other fails e = absurd cc
  fails_of (test.Contains v s) other fails e = absurd cc
  fails_of (test.Exists v) other fails e = absurd cc

-- WHAT THE PROGRAM DOES

step_twice : (mark : Mark) → after_step (after_step mark) ≡ after_step mark
step_twice Free = refl
step_twice Passed = refl
step_twice Worked = refl

module _ (q : Request) (m : ℕ) (exits : Exits) where
  asked : (i : Instruction) (is : List Instruction) (fails : ℕ) (s : Stand) → failing s.state.path i ≡ Some fails →
      run q m exits (i ∷ is) 0 s ≡ run q m exits is fails (tested s.state s)
  asked (Ask t holds other) is fails s e =
      let f = fails_of q m s.state t other fails e in
      ap (λ o. (let h = held o s.state in run q m exits is (if h.holds then holds else other) (tested h.state s))) f.0
      ∙ ap (λ n. run q m exits is n (tested s.state s)) f.1
  asked (Do a) is fails s e = absurd cc
  asked (Skip n) is fails s e = absurd cc

  -- where one more step leaves the mark
  settled : (is : List Instruction) (n : ℕ) (s : Stand) → after_step s.mark ≡ s.mark →
      run q m exits is n s ≡ run q m exits (drop (passed s.state.path is n) is) 0 s
  settled [] n s e = refl
  settled (i ∷ is) (suc n) s e = settled is n s e
  settled (i ∷ is) zero s e = by (failing s.state.path i) refl (λ fails. settled is fails s e)
    where
      same : tested s.state s ≡ s
      same = ap (λ (mark : Mark). record s { mark = mark }) e

      by : (o : Option ℕ) → failing s.state.path i ≡ o →
          ((fails : ℕ) → run q m exits is fails s ≡ run q m exits (drop (passed s.state.path is fails) is) 0 s) →
          run q m exits (i ∷ is) 0 s ≡ run q m exits (drop (passed s.state.path (i ∷ is) 0) (i ∷ is)) 0 s
      by None none deeper = sym (ap (λ n. run q m exits (drop n (i ∷ is)) 0 s) (stays_here s.state.path i is none))
      by (Some fails) some deeper =
          asked i is fails s some
          ∙ ap (run q m exits is fails) same
          ∙ deeper fails
          ∙ sym (ap (λ n. run q m exits (drop n (i ∷ is)) 0 s) (goes_on s.state.path i is fails some))

module _ (program : List Instruction) (q : Request) (m left at : ℕ) (s : Stand) where
  abbrev path : Text
  path = s.state.path

  abbrev exits : Exits
  exits = exits_in program q m left

  abbrev IsAsked : Type 0
  IsAsked = way_in program q m left at s ≡ way_in program q m left (skipped program path at) (tested s.state s)

  goes_behind : (i : Instruction) → slice_get program at ≡ Some i → (fails : ℕ) → failing path i ≡ Some fails → IsAsked
  goes_behind i is fails some =
      let here : passed path (drop at program) 0 ≡ suc (passed path (drop (suc at) program) fails) = steps program path at i is fails some in
      let there : suc at + passed path (drop (suc at) program) fails ≡ skipped program path at = omega (arith, here) in
      ap (λ l. run q m exits l 0 s) (reads program at i is)
      ∙ asked q m exits i (drop (suc at) program) fails s some
      ∙ settled q m exits (drop (suc at) program) fails (tested s.state s) (step_twice s.mark)
      ∙ ap (λ l. run q m exits l 0 (tested s.state s))
      (drop-drop (passed path (drop (suc at) program) fails) (suc at) program ∙ ap (λ n. drop n program) there)

  skips_there : (skipped program path at ≡ at → ⊥) → (i : Instruction) → slice_get program at ≡ Some i →
      (o : Option ℕ) → failing path i ≡ o → IsAsked
  skips_there further i is None none = absurd (further (stays program path at i is none))
  skips_there further i is (Some fails) some = goes_behind i is fails some

  is_asked : (skipped program path at ≡ at → ⊥) → (o : Option Instruction) → slice_get program at ≡ o → IsAsked
  is_asked further None none = absurd (further (nothing_skipped program path at (past_end program at none)))
  is_asked further (Some i) is = skips_there further i is (failing path i) refl

pub skipped_are_asked : SkippedAreAsked
skipped_are_asked program q m left at s further = is_asked program q m left at s further (slice_get program at) refl
