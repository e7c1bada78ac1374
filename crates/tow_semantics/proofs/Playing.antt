-- The outcome of an exchange is that of its plan.
use Rattle.std.proofs.Common.{◌≡◌, ℕ, zero, suc, Bool, true, false, List, [], ◌∷◌, map, Option, Some, None, if◌then◌else◌, refl, sym, ap, ◌∙◌}
use Rattle.tow_model.specs.declared.account.Verdict.{Verdict}
use Rattle.tow_model.specs.declared.content.Content.{Content}
use Rattle.tow_model.specs.declared.limits.TheConstants.{MAX_RESTARTS}
use Rattle.tow_model.specs.declared.statement.Statement.{Statement, fold-roll-Statement, roll-Statement, map-Statement, ind-Statement}
use Rattle.tow_model.specs.declared.statement.Statement.TheOpen.{Statement-F, When, Act, Block}
use Rattle.tow_semantics.specs.Predicates.{holds_of}
use Rattle.tow_semantics.specs.Steps.{Step, Go, Stop, answered, on_verdict, on_content}
use Rattle.tow_semantics.specs.Effects.{Effect, Takes, Asks, ReadsContent, LooksUp, BeginsAgain, GoesToDefault, effect_of}
use Rattle.tow_semantics.specs.Pages.{found_page, page_of, on_found}
use Rattle.tow_semantics.specs.Plans.{Stand, Way, Exits, moved, tested, take_step, act, marked, plan_all, plan_by, plan_of, over, default_way, passes, without_context}
use Rattle.tow_semantics.specs.Walk.{Given, Notes, Answer, Next, Stopped, ToDefault, Restarted, Waiting, and_then, step_answer, enter, read, act_answer, walk_all, walk_by, walk_one, walk}
use Rattle.tow_semantics.specs.Runs.{Walked}
use Rattle.tow_semantics.specs.Outcome.{decided, undecided, default_stand, by_default, after_walk, walks, opening, played, OutcomeIsPlayed}

-- what an answer of the walk leads to, where the plan goes the next way
abbrev onward : Given → Exits → Way → Answer → Walked
onward g e next (Next s n) = played g (next s) n
onward g e next (Stopped s n) = decided s n
onward g e next (ToDefault s n) = played g (e.default s) n
onward g e next (Restarted s n) = played g (e.again s) n
onward g e next (Waiting w s n) = undecided w s n

abbrev Plays : Given → Exits → (Way → Way) → (Stand → Notes → Answer) → Type 0
Plays g e p w = (next : Way) (s : Stand) (n : Notes) → played g (p next s) n ≡ onward g e next (w s n)

step_plays : (g : Given) (e : Exits) (step : Step) (next : Way) (s : Stand) (n : Notes) →
    played g (take_step step next s) n ≡ onward g e next (step_answer step s n)
step_plays g e (Go x) next s n = refl
step_plays g e (Stop x) next s n = refl

asks_plays : (g : Given) (e : Exits) (limit : ℕ) (next : Way) (s t : Stand) (n : Notes) (vs : List Verdict) →
    played g (act e (Asks limit) next s t) (record n { left = vs }) ≡ onward g e next (enter limit vs s t (record n { left = vs }))
asks_plays g e limit next s t n [] = refl
asks_plays g e limit next s t n (v ∷ vs) = step_plays g e (on_verdict limit v s.state) next t _

reads_plays : (g : Given) (e : Exits) (next : Way) (s t : Stand) (n : Notes) (c : Option Content) →
    played (record g { content = c }) (act e ReadsContent next s t) n
    ≡ onward (record g { content = c }) e next (read c s t (record n { asked = true }))
reads_plays g e next s t n None = refl
reads_plays g e next s t n (Some c) = step_plays (record g { content = Some c }) e (on_content c s.state) next t _

act_plays : (g : Given) (e : Exits) (effect : Effect) (next : Way) (s t : Stand) (n : Notes) →
    played g (act e effect next s t) n ≡ onward g e next (act_answer g effect s t n)
act_plays g e (Takes step) next s t n = step_plays g e step next t n
act_plays g e (Asks limit) next s t n = asks_plays g e limit next s t n n.left
act_plays g e ReadsContent next s t n = reads_plays g e next s t n g.content
act_plays g e (LooksUp location listing) next s t n = step_plays g e (page_of g.files location listing g.request s.state) next t _
act_plays g e BeginsAgain next s t n = refl
act_plays g e GoesToDefault next s t n = refl

picks : (g : Given) (e : Exits) (b : Bool) (p r : Way → Way) (w v : Stand → Notes → Answer) → Plays g e p w → Plays g e r v →
    (next : Way) (s : Stand) (n : Notes) → played g ((if b then p next else r next) s) n ≡ onward g e next ((if b then w else v) s n)
picks g e true p r w v first second next s n = first next s n
picks g e false p r w v first second next s n = second next s n

-- where the rest plays, an answer may go on with it before or after it is looked at
goes_on : (g : Given) (e : Exits) (p : Way → Way) (w : Stand → Notes → Answer) → Plays g e p w →
    (next : Way) (a : Answer) → onward g e (p next) a ≡ onward g e next (and_then a w)
goes_on g e p w plays next (Next s n) = plays next s n
goes_on g e p w plays next (Stopped s n) = refl
goes_on g e p w plays next (ToDefault s n) = refl
goes_on g e p w plays next (Restarted s n) = refl
goes_on g e p w plays next (Waiting v s n) = refl

module _ (g : Given) (e : Exits) where
  abbrev plan_here : Statement → Way → Way
  plan_here = plan_of g.request g.moment e

  abbrev Good : Type 0
  Good = (t : Statement) × Plays g e (plan_here t) (walk_one g t)

  all_good : (parts : List Good) → Plays g e (plan_all (map plan_here (map (λ k. k.0) parts))) (walk_all (map (walk_one g) (map (λ k. k.0) parts)))
  all_good [] next s n = refl
  all_good (k ∷ parts) next s n =
      k.1 (plan_all (map plan_here (map (λ j. j.0) parts)) next) s n
      ∙ goes_on g e (plan_all (map plan_here (map (λ j. j.0) parts))) (walk_all (map (walk_one g) (map (λ j. j.0) parts))) (all_good parts) next (walk_one g k.0 s n)

  layer : (y : Statement-F Good) →
      Plays g e (plan_by g.request g.moment e (map-Statement Statement (Way → Way) plan_here (map-Statement Good Statement (λ k. k.0) y)))
      (walk_by g (map-Statement Statement (Stand → Notes → Answer) (walk_one g) (map-Statement Good Statement (λ k. k.0) y)))
  layer (When test a None) next s n =
      let h = holds_of test g.request s.state g.moment in
      picks g e h.holds (plan_here a.0) (λ k. k) (walk_one g a.0) (λ t k. Next t k) a.1 (λ t k i. refl) next (tested h.state s) n
  layer (When test a (Some b)) next s n =
      let h = holds_of test g.request s.state g.moment in
      picks g e h.holds (plan_here a.0) (plan_here b.0) (walk_one g a.0) (walk_one g b.0) a.1 b.1 next (tested h.state s) n
  layer (Act a) next s n = act_plays g e (effect_of a g.request s.state g.moment) next s (marked a s) n
  layer (Block parts) next s n = all_good parts next s n

  same : (p r : Way → Way) (w v : Stand → Notes → Answer) → p ≡ r → w ≡ v → Plays g e r v → Plays g e p w
  same p r w v f k plays next s n =
      ap (λ j. played g (j next s) n) f ∙ plays next s n ∙ ap (λ j. onward g e next (j s n)) (sym k)

  statement_plays : (t : Statement) → Plays g e (plan_here t) (walk_one g t)
  statement_plays = ind-Statement (λ t. Plays g e (plan_here t) (walk_one g t)) (λ x y is.
      same (plan_here (roll-Statement x)) _ (walk_one g (roll-Statement x)) _
      (fold-roll-Statement (Way → Way) (plan_by g.request g.moment e) x ∙ ap (λ l. plan_by g.request g.moment e (map-Statement Statement (Way → Way) plan_here l)) (sym is))
      (fold-roll-Statement (Stand → Notes → Answer) (walk_by g) x ∙ ap (λ l. walk_by g (map-Statement Statement (Stand → Notes → Answer) (walk_one g) l)) (sym is))
      (layer y))

  list_plays : (tree : List Statement) → Plays g e (plan_all (map plan_here tree)) (walk g tree)
  list_plays [] next s n = refl
  list_plays (t ∷ tree) next s n =
      statement_plays t (plan_all (map plan_here tree) next) s n
      ∙ goes_on g e (plan_all (map plan_here tree)) (walk g tree) (list_plays tree) next (walk_one g t s n)

default_step : (g : Given) (step : Step) (s : Stand) (n : Notes) →
    played g (take_step step (λ t. over (answered 404 t.state) t) s) n ≡ decided (default_stand step s) n
default_step g (Go x) s n = refl
default_step g (Stop x) s n = refl

default_plays : (g : Given) (s : Stand) (n : Notes) → played g (default_way s) n ≡ by_default g s n
default_plays g s n = default_step g (on_found (found_page g.files [] false g.request s.state) s.state) s _

ends : (g : Given) (again : Way) (after : Stand → Notes → Walked) → ((s : Stand) (n : Notes) → played g (again s) n ≡ after s n) →
    (a : Answer) → onward g (record { again = again; default = default_way }) default_way a ≡ after_walk g after a
ends g again after plays (Next s n) = default_plays g s n
ends g again after plays (Stopped s n) = refl
ends g again after plays (ToDefault s n) = default_plays g s n
ends g again after plays (Restarted s n) = plays s n
ends g again after plays (Waiting w s n) = refl

pub passes_play : (tree : List Statement) (g : Given) (left : ℕ) (s : Stand) (n : Notes) →
    played g (passes tree g.request g.moment left s) n ≡ walks g tree left s n
passes_play tree g zero s n =
    let again : Way = λ t. over (answered 500 t.state) t in
    list_plays g (record { again = again; default = default_way }) tree default_way s n
    ∙ ends g again (λ t k. decided (moved (answered 500 t.state) t) k) (λ t k. refl) (walk g tree s n)
passes_play tree g (suc left) s n =
    let again : Way = λ t. passes tree g.request g.moment left (without_context t) in
    list_plays g (record { again = again; default = default_way }) tree default_way s n
    ∙ ends g again (λ t k. walks g tree left (without_context t) k) (λ t k. passes_play tree g left (without_context t) k) (walk g tree s n)

pub outcome_is_played : OutcomeIsPlayed
outcome_is_played tree g verdicts = sym (passes_play tree g MAX_RESTARTS _ (opening verdicts))
