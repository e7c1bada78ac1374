-- What a run and its entries say, while the run grows.
use Rattle.std.proofs.Common.{◌≡◌, ◌≢◌, ℕ, zero, suc, ◌+◌, ◌-◌, ◌<◌, ◌≤◌, ◌⊎◌, inl, inr, Bool, true, false, List, [], ◌∷◌, ◌++◌, map, length, drop, get_or, replicate, slice_set, if◌then◌else◌, Option, Some, None, slice_get, option_and_then, refl, sym, ap, ap₂, subst, ◌∙◌, arith}
use Rattle.std.specs.List.{list_any}
use Rattle.std.proofs.Math.Nat.{min-eq_left, min-eq_right}
use Rattle.std.proofs.Math.Seq.{drop-length}
use Rattle.std.proofs.lemmas.Bool.{cases_lt}
use Rattle.std.proofs.lemmas.List.{get_or-replicate, get_or-set_other, get_or-set_same, length-append, length-replicate, length-set, length-drop}
use Rattle.std.proofs.lemmas.Option.{slice_get_within, slice_get-get_or}
use Rattle.tow_model.specs.Texts.{Text}
use Rattle.tow_matcher.specs.declared.row.Row.{Row}
use Rattle.tow_matcher.specs.Firsts.{first_at, first_row, row_holds}
use Rattle.tow_program.specs.declared.instruction.Instruction.{Instruction}
use Rattle.tow_program.specs.declared.run.Hop.TheVariants.{Rests, Goes}
use Rattle.tow_program.specs.declared.run.Run.{Run}
use Rattle.tow_program.specs.declared.table.Entry.{Entry}
use Rattle.tow_program.specs.Skips.{Alternatives, alternatives_in, failing, failing_by, past, skipped}
use Rattle.tow_program.specs.Tables.{hop_along, hop_by, hop_from, hop_in, hop_of, Leads, IsEntry, AreEntered, unless, unentered}
use Rattle.tow_program.proofs.Finding.{or_later, first_row-append, found_within, none_holds, one_holds, place_added, place_kept}
use Rattle.tow_program.proofs.Skipping.{nothing_skipped, past_end, skips, stays}

-- ONE MORE TEST OF A RUN

abbrev pub growing : List Row → List ℕ → ℕ → Run
growing rows places behind = record { matcher = rows; places = places; behind = behind }

abbrev pub with_places : List ℕ → ℕ → List Row → List ℕ
with_places places at more = places ++ map (λ row. at) more

module _ (program : List Instruction) (rows more : List Row) (places : List ℕ) (at fails : ℕ) (i : Instruction)
    (is : slice_get program at ≡ Some i) (asks : alternatives_in i ≡ Some (record { rows = more; fails = fails }))
    (same : length places ≡ length rows) where
  fails_by : (path : Text) (b : Bool) → list_any (row_holds path) more ≡ b → failing path i ≡ (if b then None else Some fails)
  fails_by path b e = ap (option_and_then (failing_by path)) asks ∙ ap (λ (b : Bool). if b then None else Some fails) e

  abbrev next : ℕ
  next = past program at fails

  abbrev Found : Text → ℕ → Option ℕ → Type 0
  Found path p o = Leads program path p (hop_by next (option_and_then (slice_get (with_places places at more)) o))

  inside : at < length program
  inside = slice_get_within program at i is

  further : (x : ℕ) → x ≡ next → at < x
  further x e = by (cases_lt (length program) (suc at + fails))
    where
      by : (length program < suc at + fails) ⊎ (suc at + fails ≤ length program) → at < x
      by (inl low) =
          let last : next ≡ length program = min-eq_right (omega (arith, low)) in
          omega (arith, inside, last, e)
      by (inr low) =
          let there : next ≡ suc at + fails = min-eq_left low in
          omega (arith, there, e)

  module _ (path : Text) where
    -- from a place that leads to the new test
    to_the_new : (p from : ℕ) → from ≤ length rows → first_row rows path from ≡ None →
        skipped program path p ≡ skipped program path at → p ≤ at → Leads program path p (hop_in (rows ++ more) (with_places places at more) next path from)
    to_the_new p from low none e before = by (first_at (row_holds path) (length rows) more) refl
      where
        by : (o : Option ℕ) → first_at (row_holds path) (length rows) more ≡ o →
            Leads program path p (hop_in (rows ++ more) (with_places places at more) next path from)
        by None lacks =
            let found : first_row (rows ++ more) path from ≡ None = first_row-append rows more path from low ∙ ap₂ or_later none lacks in
            let fails_here = fails_by path false (none_holds (row_holds path) (length rows) more lacks) in
            let higher : at < next = further next refl in
            subst (Found path p) (sym found) (e ∙ skips program path at i is fails fails_here, omega (arith, before, higher), omega (arith, before, inside))
        by (Some n) has =
            let found : first_row (rows ++ more) path from ≡ Some n = first_row-append rows more path from low ∙ ap₂ or_later none has in
            let bounds = found_within (row_holds path) (length rows) more n has in
            let place : slice_get (with_places places at more) n ≡ Some at =
            place_added places more at n (omega (arith, bounds.0, same)) (omega (arith, bounds.1, same)) in
            let holds_here = fails_by path true (one_holds (row_holds path) (length rows) more n has) in
            subst (Found path p) (sym found)
            (subst (λ o. Leads program path p (hop_by next o)) (sym place) (e ∙ stays program path at i is holds_here))

    still_leads : (p from : ℕ) → from ≤ length rows → Leads program path p (hop_in rows places at path from) →
        Leads program path p (hop_in (rows ++ more) (with_places places at more) next path from)
    still_leads p from low leads = by (first_row rows path from) refl
      where
        by : (o : Option ℕ) → first_row rows path from ≡ o →
            Leads program path p (hop_in (rows ++ more) (with_places places at more) next path from)
        by None none =
            let was : Leads program path p (Goes at) =
            subst (λ o. Leads program path p (hop_by at (option_and_then (slice_get places) o))) none leads in
            to_the_new p from low none was.0 (omega (arith, was.1))
        by (Some n) has =
            let found : first_row (rows ++ more) path from ≡ Some n =
            first_row-append rows more path from low ∙ ap (λ o. or_later o (first_at (row_holds path) (length rows) more)) has in
            let long : length (drop from rows) ≡ length rows - from = length-drop from rows in
            let bounds = found_within (row_holds path) from (drop from rows) n has in
            let short : n < length places = omega (arith, bounds.1, long, low, same) in
            let place : slice_get places n ≡ Some (get_or places n 0) = slice_get-get_or places n 0 short in
            let was : Leads program path p (Rests (get_or places n 0)) =
            subst (λ o. Leads program path p (hop_by at o)) place
            (subst (λ o. Leads program path p (hop_by at (option_and_then (slice_get places) o))) has leads) in
            subst (Found path p) (sym found)
            (subst (λ o. Leads program path p (hop_by next o)) (sym (place_kept places (map (λ row. at) more) n short ∙ place)) was)

  longer : length (rows ++ more) ≡ length rows + length more
  longer = length-append rows more

  same_length : length (with_places places at more) ≡ length (rows ++ more)
  same_length =
      let a : length (with_places places at more) ≡ length places + length (map (λ row. at) more) = length-append places (map (λ row. at) more) in
      let b : length (map (λ row. at) more) ≡ length more = long_map more in
      omega (arith, a, b, longer, same)
    where
      long_map : (l : List Row) → length (map (λ row. at) l) ≡ length l
      long_map [] = refl
      long_map (x ∷ l) = ap suc (long_map l)

  pub same_lengths : length (with_places places at more) ≡ length (rows ++ more)
  same_lengths = same_length

  pub stays_entry : (p row : ℕ) → IsEntry program (growing rows places at) p row →
      IsEntry program (growing (rows ++ more) (with_places places at more) next) p row
  stays_entry p row entry = record {
    within = (let low = entry.within in omega (arith, low, longer));
    places = same_length;
    leads = λ path. still_leads path p row entry.within (entry.leads path);
  }

  pub new_entry : IsEntry program (growing (rows ++ more) (with_places places at more) next) at (length rows)
  new_entry = record {
    within = omega (arith, longer);
    places = same_length;
    leads = λ path. to_the_new path at (length rows) (omega arith)
        (ap (first_at (row_holds path) (length rows)) (drop-length rows)) refl (omega arith);
  }

-- THE LIST OF THE RUNS

-- a run of a list, but for its last one, is in the list with another last one
last_or_before : (runs : List Run) (c d run : Run) (n : ℕ) → slice_get (runs ++ c ∷ []) n ≡ Some run →
    (slice_get (runs ++ d ∷ []) n ≡ Some run) ⊎ ((c ≡ run) × (slice_get (runs ++ d ∷ []) n ≡ Some d))
last_or_before [] c d run zero is = let e : c ≡ run = cc in inr (e, refl)
last_or_before [] c d run (suc n) is = absurd cc
last_or_before (r ∷ runs) c d run zero is = inl is
last_or_before (r ∷ runs) c d run (suc n) is = last_or_before runs c d run n is

kept : (runs : List Run) (c run : Run) (n : ℕ) → slice_get runs n ≡ Some run → slice_get (runs ++ c ∷ []) n ≡ Some run
kept [] c run n is = absurd cc
kept (r ∷ runs) c run zero is = is
kept (r ∷ runs) c run (suc n) is = kept runs c run n is

last : (runs : List Run) (c : Run) → slice_get (runs ++ c ∷ []) (length runs) ≡ Some c
last [] c = refl
last (r ∷ runs) c = last runs c

same_or_not : (p at : ℕ) → (p ≡ at) ⊎ (p ≢ at)
same_or_not p at = by (cases_lt p at) (cases_lt at p)
  where
    by : (p < at) ⊎ (at ≤ p) → (at < p) ⊎ (p ≤ at) → (p ≡ at) ⊎ (p ≢ at)
    by (inl low) other = inr (λ e. omega (arith, low, e))
    by (inr high) (inl low) = inr (λ e. omega (arith, low, e))
    by (inr high) (inr low) = inl (omega (arith, high, low))

-- ENTRIES

abbrev Entered : List Instruction → List Run → ℕ → Entry → Type 0
Entered program runs p entry = (run : Run) × (slice_get runs entry.run ≡ Some run) × IsEntry program run p entry.row

pub none_entered : (program : List Instruction) → AreEntered program 0 [] (replicate (length program) None)
none_entered program = record {
  whole = length-replicate (length program) None;
  right = λ p entry is. absurd (lacks (length program) p entry is);
  others = λ p low is path. absurd (omega (arith, low));
}
  where
    lacks : (n p : ℕ) (entry : Entry) → get_or (replicate n None) p None ≡ Some entry → ⊥
    lacks zero zero entry is = absurd cc
    lacks zero (suc p) entry is = absurd cc
    lacks (suc n) zero entry is = absurd cc
    lacks (suc n) (suc p) entry is = lacks n p entry is

-- with a run that no entry names
pub new_run : (program : List Instruction) (start : ℕ) (runs : List Run) (entries : List (Option Entry)) (c : Run) →
    AreEntered program start runs entries → AreEntered program start (runs ++ c ∷ []) entries
new_run program start runs entries c are = record {
  whole = are.whole;
  right = λ p entry is. (let e = are.right p entry is in (e.0, kept runs c e.0 entry.run e.1, e.2));
  others = are.others;
}

-- with the entry of one more test
module _ (program : List Instruction) (start : ℕ) (runs : List Run) (entries : List (Option Entry)) (rows more : List Row) (places : List ℕ)
    (at fails : ℕ) (i : Instruction) (is : slice_get program at ≡ Some i)
    (asks : alternatives_in i ≡ Some (record { rows = more; fails = fails })) (same : length places ≡ length rows)
    (are : AreEntered program start (runs ++ growing rows places at ∷ []) entries) where
  abbrev grown : Run
  grown = growing (rows ++ more) (with_places places at more) (past program at fails)

  abbrev entry_here : Entry
  entry_here = record { run = length runs; row = length rows }

  there : at < length entries
  there = let low : at < length program = slice_get_within program at i is in let whole = are.whole in omega (arith, low, whole)

  still_right : (p : ℕ) (entry : Entry) → get_or entries p None ≡ Some entry → Entered program (runs ++ grown ∷ []) p entry
  still_right p entry got = by (last_or_before runs (growing rows places at) grown (are.right p entry got).0 entry.run (are.right p entry got).1)
    where
      by : (slice_get (runs ++ grown ∷ []) entry.run ≡ Some (are.right p entry got).0)
          ⊎ ((growing rows places at ≡ (are.right p entry got).0) × (slice_get (runs ++ grown ∷ []) entry.run ≡ Some grown)) →
          Entered program (runs ++ grown ∷ []) p entry
      by (inl before) = ((are.right p entry got).0, before, (are.right p entry got).2)
      by (inr new) = (
        grown,
        new.1,
        stays_entry program rows more places at fails i is asks same p entry.row
            (subst (λ run. IsEntry program run p entry.row) (sym new.0) (are.right p entry got).2),
      )

  right_there : (p : ℕ) (entry : Entry) → get_or (slice_set entries at (Some entry_here)) p None ≡ Some entry →
      (p ≡ at) ⊎ (p ≢ at) → Entered program (runs ++ grown ∷ []) p entry
  right_there p entry got (inr other) = still_right p entry (sym (get_or-set_other entries at p (Some entry_here) None other) ∙ got)
  right_there p entry got (inl here) =
      let set : get_or (slice_set entries at (Some entry_here)) at None ≡ Some entry_here = get_or-set_same entries at (Some entry_here) None there in
      let new : Some entry_here ≡ Some entry = sym set ∙ ap (λ n. get_or (slice_set entries at (Some entry_here)) n None) (sym here) ∙ got in
      let e : entry_here ≡ entry = cc in
      subst (λ n. Entered program (runs ++ grown ∷ []) n entry) (sym here)
      (subst (Entered program (runs ++ grown ∷ []) at) e (grown, last runs grown, new_entry program rows more places at fails i is asks same))

  pub was_none : (p : ℕ) → get_or (slice_set entries at (Some entry_here)) p None ≡ None → (p ≡ at) ⊎ (p ≢ at) → (p ≢ at) × (get_or entries p None ≡ None)
  was_none p none (inr other) = (other, sym (get_or-set_other entries at p (Some entry_here) None other) ∙ none)
  was_none p none (inl here) =
      let set : get_or (slice_set entries at (Some entry_here)) at None ≡ Some entry_here = get_or-set_same entries at (Some entry_here) None there in
      let wrong : Some entry_here ≡ None = sym set ∙ ap (λ n. get_or (slice_set entries at (Some entry_here)) n None) (sym here) ∙ none in
      absurd cc

  pub one_entered : AreEntered program start (runs ++ grown ∷ []) (slice_set entries at (Some entry_here))
  one_entered = record {
    whole = length-set entries at (Some entry_here) ∙ are.whole;
    right = λ p entry got. right_there p entry got (same_or_not p at);
    others = λ p low none path. are.others p low (was_none p none (same_or_not p at)).1 path;
  }

  -- if `start` has no entry yet, the run begins there
  pub begins_there : (get_or entries start None ≡ None → at ≡ start) → get_or (slice_set entries at (Some entry_here)) start None ≡ None → ⊥
  begins_there begins none =
      let w = was_none start none (same_or_not start at) in
      w.0 (sym (begins w.1))

  -- as the code does it
  abbrev Grown : List Row → List ℕ → ℕ → ℕ → ℕ → Type 0
  Grown new_rows new_places next run row =
      AreEntered program start (runs ++ growing new_rows new_places next ∷ []) (slice_set entries at (Some (record { run = run; row = row })))
      × (length new_places ≡ length new_rows)
      × (get_or (slice_set entries at (Some (record { run = run; row = row }))) start None ≡ None → next ≡ start)

  pub grows : (new_rows : List Row) (new_places : List ℕ) (next run row : ℕ) → new_rows ≡ rows ++ more → new_places ≡ with_places places at more →
      next ≡ past program at fails → run ≡ length runs → row ≡ length rows → (get_or entries start None ≡ None → at ≡ start) →
      Grown new_rows new_places next run row
  grows new_rows new_places next run row is_rows is_places is_next is_run is_row begins =
      subst (λ x. Grown x new_places next run row) (sym is_rows)
      (subst (λ x. Grown (rows ++ more) x next run row) (sym is_places)
      (subst (λ x. Grown (rows ++ more) (with_places places at more) x run row) (sym is_next)
      (subst (λ x. Grown (rows ++ more) (with_places places at more) (past program at fails) x row) (sym is_run)
      (subst (λ x. Grown (rows ++ more) (with_places places at more) (past program at fails) (length runs) x) (sym is_row)
      (one_entered, same_lengths program rows more places at fails i is asks same, λ none. absurd (begins_there begins none))))))

-- the places of the paths are those of their rows
pub places_of : (f : Text → Row) (at : ℕ) (paths : List Text) → map (λ path. at) paths ≡ map (λ row. at) (map f paths)
places_of f at [] = refl
places_of f at (p ∷ paths) = ap (λ l. at ∷ l) (places_of f at paths)

-- and `start` too, if it has one or is no such test
pub start_entered : (program : List Instruction) (start : ℕ) (runs : List Run) (entries : List (Option Entry)) →
    AreEntered program start runs entries → (get_or entries start None ≡ None → (path : Text) → skipped program path start ≡ start) →
    AreEntered program (start + 1) runs entries
start_entered program start runs entries are is = record {
  whole = are.whole;
  right = are.right;
  others = λ p low none path. by p low none path (same_or_not p start);
}
  where
    by : (p : ℕ) → p < start + 1 → get_or entries p None ≡ None → (path : Text) → (p ≡ start) ⊎ (p ≢ start) → skipped program path p ≡ p
    by p low none path (inl here) =
        subst (λ n. skipped program path n ≡ n) (sym here) (is (ap (λ n. get_or entries n None) (sym here) ∙ none) path)
    by p low none path (inr other) = are.others p (below (cases_lt p start)) none path
      where
        below : (p < start) ⊎ (start ≤ p) → p < start
        below (inl less) = less
        below (inr more) = let e : p ≡ start = omega (arith, low, more) in absurd (other e)

-- WHAT IS TO BE ENTERED

module _ (program : List Instruction) (entries : List (Option Entry)) (at : ℕ) where
  abbrev asked_there : Option Alternatives
  asked_there = option_and_then alternatives_in (slice_get program at)

  -- a place without an entry, at which no test of literal paths stands
  pub rests : unentered program entries at ≡ None → get_or entries at None ≡ None → (path : Text) → skipped program path at ≡ at
  rests e none path = by (slice_get program at) refl
    where
      none_asked : asked_there ≡ None
      none_asked = sym (ap (λ o. unless o asked_there) none) ∙ e

      by : (o : Option Instruction) → slice_get program at ≡ o → skipped program path at ≡ at
      by None past_it = nothing_skipped program path at (past_end program at past_it)
      by (Some i) is =
          let no_test : alternatives_in i ≡ None = sym (ap (option_and_then alternatives_in) is) ∙ none_asked in
          stays program path at i is (ap (option_and_then (failing_by path)) no_test)

  abbrev pub IsUnentered : Alternatives → Type 0
  IsUnentered a = (get_or entries at None ≡ None) × (i : Instruction) × (slice_get program at ≡ Some i) × (alternatives_in i ≡ Some a)

  pub to_enter : (a : Alternatives) → unentered program entries at ≡ Some a → IsUnentered a
  to_enter a e = by (get_or entries at None) refl (slice_get program at) refl
    where
      by : (o : Option Entry) → get_or entries at None ≡ o → (j : Option Instruction) → slice_get program at ≡ j → IsUnentered a
      by (Some entry) has j is = let wrong : None ≡ Some a = sym (ap (λ o. unless o asked_there) has) ∙ e in absurd cc
      by None none None is =
          let wrong : None ≡ Some a = sym (ap (λ o. unless o asked_there) none ∙ ap (option_and_then alternatives_in) is) ∙ e in absurd cc
      by None none (Some i) is = (none, i, is, sym (ap (λ o. unless o asked_there) none ∙ ap (option_and_then alternatives_in) is) ∙ e)

-- LOOKING UP

pub looked_up : (program : List Instruction) (runs : List Run) (entries : List (Option Entry)) → AreEntered program (length program) runs entries →
    (path : Text) (at : ℕ) → Leads program path at (hop_of runs entries path at)
looked_up program runs entries are path at = by (get_or entries at None) refl
  where
    by : (o : Option Entry) → get_or entries at None ≡ o → Leads program path at (hop_of runs entries path at)
    by None none = subst (λ o. Leads program path at (hop_from runs o path at)) (sym none) (side (cases_lt at (length program)))
      where
        side : (at < length program) ⊎ (length program ≤ at) → skipped program path at ≡ at
        side (inl low) = are.others at low none path
        side (inr high) = nothing_skipped program path at high
    by (Some entry) got =
        let e = are.right at entry got in
        subst (λ o. Leads program path at (hop_from runs o path at)) (sym got)
        (subst (λ o. Leads program path at (hop_along o path at entry.row)) (sym e.1) (e.2.leads path))
