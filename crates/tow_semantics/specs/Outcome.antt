-- The outcome of an exchange: the walk with its restarts and the default handler.
use Rattle.std.specs.Prelude.{ℕ, zero, suc, Bool, true, false, List, [], ◌∷◌, Option, Some, None, ◌≡◌}
use Rattle.tow_model.specs.declared.account.Verdict.{Verdict}
use Rattle.tow_model.specs.declared.statement.Statement.{Statement}
use Rattle.tow_model.specs.declared.limits.TheConstants.{MAX_RESTARTS}
use Rattle.tow_semantics.specs.Steps.{Step, Go, Stop, answered}
use Rattle.tow_semantics.specs.Pages.{found_page, page_of}
use Rattle.tow_semantics.specs.Plans.{Mark, Free, Passed, Worked, Stand, Plan, Over, AwaitVerdict, AwaitContent, AwaitPage, moved, without_context, opening_stand, exchange_plan}
use Rattle.tow_semantics.specs.Walk.{Given, Notes, Answer, Next, Stopped, ToDefault, Restarted, Waiting, entered, walk}
use Rattle.tow_semantics.specs.Runs.{Wait, for_verdict, for_content, Walked}

-- a step was taken after a `blocking`
abbrev pub has_worked : Mark → Bool
has_worked Free = false
has_worked Passed = false
has_worked Worked = true

-- how the exchange ends at this stand, or what it waits for there
abbrev pub walked_to : Option Wait → Stand → Notes → Walked
walked_to waits s n = record {
  outcome = record {
    state = s.state;
    entries = n.entries;
    asked = n.asked;
    looked = n.looked;
    worked = has_worked s.mark;
    waits = waits;
  };
  left = n.left;
}

abbrev pub decided : Stand → Notes → Walked
decided s n = walked_to None s n

abbrev pub undecided : Wait → Stand → Notes → Walked
undecided wait s n = walked_to (Some wait) s n

-- the page of the record's path, or 404
abbrev pub default_stand : Step → Stand → Stand
default_stand (Go x) s = moved (answered 404 x) s
default_stand (Stop x) s = moved x s

abbrev pub by_default : Given → Stand → Notes → Walked
by_default g s n = decided (default_stand (page_of g.files [] false g.request s.state) s) (record n { looked = true })

abbrev pub after_walk : Given → (Stand → Notes → Walked) → Answer → Walked
after_walk g again (Next s n) = by_default g s n
after_walk g again (Stopped s n) = decided s n
after_walk g again (ToDefault s n) = by_default g s n
after_walk g again (Restarted s n) = again s n
after_walk g again (Waiting w s n) = undecided w s n

-- the walks if so many restarts are left; one more answers 500
abbrev pub walks : Given → List Statement → ℕ → Stand → Notes → Walked
walks g tree zero s n = after_walk g (λ t k. decided (moved (answered 500 t.state) t) k) (walk g tree s n)
walks g tree (suc left) s n = after_walk g (λ t k. walks g tree left (without_context t) k) (walk g tree s n)

-- nothing noted yet, and these verdicts to come
abbrev pub opening : List Verdict → Notes
opening verdicts = record { left = verdicts; entries = []; asked = false; looked = false }

abbrev pub outcome : List Statement → Given → List Verdict → Walked
outcome tree g verdicts = walks g tree MAX_RESTARTS (opening_stand g.request) (opening verdicts)

-- THE SAME BY THE PLAN

-- a plan that is given each verdict, the content and each page as far as they are known
abbrev pub played : Given → Plan → Notes → Walked
played g (Over s) n = decided s n
played g (AwaitVerdict limit s go) n =
    elim n.left [
      | [] ↦ undecided for_verdict s n
      | v ∷ vs ↦ played g (go v) (entered limit v vs n)
    ]
played g (AwaitContent s go) n =
    elim g.content [
      | None ↦ undecided for_content s (record n { asked = true })
      | Some content ↦ played g (go content) (record n { asked = true })
    ]
played g (AwaitPage location listing s go) n =
    played g (go (found_page g.files location listing g.request s.state)) (record n { looked = true })

-- the outcome is that of the exchange's plan
abbrev pub OutcomeIsPlayed : Type 0
OutcomeIsPlayed =
    (tree : List Statement) (g : Given) (verdicts : List Verdict) →
    outcome tree g verdicts ≡ played g (exchange_plan tree g.request g.moment) (opening verdicts)
