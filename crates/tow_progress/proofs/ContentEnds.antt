-- A text that reads the content ends with it.
use Rattle.std.proofs.Common.{◌≡◌, ℕ, zero, suc, Bool, true, false, List, [], ◌∷◌, map, Some, None, if◌then◌else◌, refl, sym, ap, ◌∙◌, subst}
use Rattle.tow_model.specs.declared.request.Request.{Request}
use Rattle.tow_model.specs.declared.account.Verdict.{Verdict}
use Rattle.tow_model.specs.declared.content.Content.{Content}
use Rattle.tow_model.specs.declared.content.Content.TheVariants.{Whole, Bad, TooLong}
use Rattle.tow_model.specs.declared.limits.TheConstants.{MAX_RESTARTS}
use Rattle.tow_model.specs.declared.statement.Statement.{Statement, fold-roll-Statement, map-Statement, ind-Statement}
use Rattle.tow_model.specs.declared.statement.Statement.TheOpen.{Statement-F, When, Act, Block}
use Rattle.tow_semantics.specs.Predicates.{holds_of}
use Rattle.tow_semantics.specs.Steps.{Step, Go, Stop, answered, on_verdict, on_content}
use Rattle.tow_semantics.specs.Effects.{Effect, Takes, Asks, ReadsContent, LooksUp, BeginsAgain, GoesToDefault, effect_of}
use Rattle.tow_semantics.specs.Pages.{Found, on_found}
use Rattle.tow_semantics.specs.Plans.{Stand, Plan, Over, AwaitVerdict, AwaitContent, AwaitPage, Way, Exits, moved, tested, take_step, act, marked, plan_all, plan_by, plan_of, over, default_way, passes, without_context, opening_stand, exchange_plan}

-- it is over, and no listener was added or taken away since this stand
abbrev pub IsOverAfter : Stand → Plan → Type 0
IsOverAfter s plan = (t : Stand) × (plan ≡ Over t) × (t.state.listeners ≡ s.state.listeners)

-- wherever the plan reads the content, it is over after that
abbrev pub ContentEnds : Plan → Type 0
ContentEnds (Over s) = Unit {0}
ContentEnds (AwaitVerdict limit s go) = (v : Verdict) → ContentEnds (go v)
ContentEnds (AwaitContent s go) = (x : Content) → IsOverAfter s (go x)
ContentEnds (AwaitPage location listing s go) = (p : Found) → ContentEnds (go p)

abbrev Good : Way → Type 0
Good w = (s : Stand) → ContentEnds (w s)

abbrev Keeps : (Way → Way) → Type 0
Keeps p = (next : Way) → Good next → Good (p next)

step_ends : (step : Step) (next : Way) (s : Stand) → Good next → ContentEnds (take_step step next s)
step_ends (Go x) next s good = good (moved x s)
step_ends (Stop x) next s good = tt

content_ends : (x : Content) (next : Way) (s t : Stand) → IsOverAfter s (take_step (on_content x s.state) next t)
content_ends (Whole bytes) next s t = (_, refl, refl)
content_ends Bad next s t = (_, refl, refl)
content_ends TooLong next s t = (_, refl, refl)

act_ends : (e : Exits) (effect : Effect) (next : Way) (s t : Stand) → Good e.again → Good e.default → Good next → ContentEnds (act e effect next s t)
act_ends e (Takes step) next s t again default good = step_ends step next t good
act_ends e (Asks limit) next s t again default good = λ v. step_ends (on_verdict limit v s.state) next t good
act_ends e ReadsContent next s t again default good = λ x. content_ends x next s t
act_ends e (LooksUp location listing) next s t again default good = λ p. step_ends (on_found p s.state) next t good
act_ends e BeginsAgain next s t again default good = again t
act_ends e GoesToDefault next s t again default good = default t

picks : (b : Bool) (w v : Way) → Good w → Good v → Good (if b then w else v)
picks true w v first second = first
picks false w v first second = second

module _ (q : Request) (m : ℕ) (e : Exits) (again : Good e.again) (default : Good e.default) where
  abbrev plan_here : Statement → Way → Way
  plan_here = plan_of q m e

  abbrev GoodStatement : Type 0
  GoodStatement = (t : Statement) × Keeps (plan_here t)

  all_end : (parts : List GoodStatement) → Keeps (plan_all (map plan_here (map (λ k. k.0) parts)))
  all_end [] next good = good
  all_end (k ∷ parts) next good = k.1 (plan_all (map plan_here (map (λ j. j.0) parts)) next) (all_end parts next good)

  layer : (y : Statement-F GoodStatement) →
      Keeps (plan_by q m e (map-Statement Statement (Way → Way) plan_here (map-Statement GoodStatement Statement (λ k. k.0) y)))
  layer (When test a None) next good s =
      let h = holds_of test q s.state m in picks h.holds (plan_here a.0 next) next (a.1 next good) good (tested h.state s)
  layer (When test a (Some b)) next good s =
      let h = holds_of test q s.state m in
      picks h.holds (plan_here a.0 next) (plan_here b.0 next) (a.1 next good) (b.1 next good) (tested h.state s)
  layer (Act a) next good s = act_ends e (effect_of a q s.state m) next s (marked a s) again default good
  layer (Block parts) next good s = all_end parts next good s

  statement_ends : (t : Statement) → Keeps (plan_here t)
  statement_ends = ind-Statement (λ t. Keeps (plan_here t)) (λ x y is.
      subst Keeps
      (sym (fold-roll-Statement (Way → Way) (plan_by q m e) x ∙ ap (λ l. plan_by q m e (map-Statement Statement (Way → Way) plan_here l)) (sym is)))
      (layer y))

  list_ends : (tree : List Statement) → Keeps (plan_all (map plan_here tree))
  list_ends [] next good = good
  list_ends (t ∷ tree) next good = statement_ends t (plan_all (map plan_here tree) next) (list_ends tree next good)

default_ends : Good default_way
default_ends s = λ p. step_ends (on_found p s.state) (λ t. over (answered 404 t.state) t) s (λ t. tt)

passes_end : (tree : List Statement) (q : Request) (m left : ℕ) → Good (passes tree q m left)
passes_end tree q m zero =
    let again : Way = λ s. over (answered 500 s.state) s in
    list_ends q m (record { again = again; default = default_way }) (λ s. tt) default_ends tree default_way default_ends
passes_end tree q m (suc left) =
    let again : Way = λ s. passes tree q m left (without_context s) in
    list_ends q m (record { again = again; default = default_way }) (λ s. passes_end tree q m left (without_context s)) default_ends tree default_way default_ends

pub exchange_ends : (tree : List Statement) (q : Request) (m : ℕ) → ContentEnds (exchange_plan tree q m)
exchange_ends tree q m = passes_end tree q m MAX_RESTARTS (opening_stand q)
