-- What an exchange does under a text, as a plan: it is over, or it waits, and goes on by what it is given.
use Rattle.std.specs.Prelude.{ℕ, zero, suc, Bool, false, List, [], ◌∷◌, map, if◌then◌else◌, Option, Some, None}
use Rattle.tow_model.specs.declared.request.Request.{Request}
use Rattle.tow_model.specs.declared.record.Record.{Record}
use Rattle.tow_model.specs.declared.account.Verdict.{Verdict}
use Rattle.tow_model.specs.declared.content.Content.{Content}
use Rattle.tow_model.specs.declared.action.Action.{Action}
use Rattle.tow_model.specs.declared.action.Action.TheVariants.{Blocking}
use Rattle.tow_model.specs.declared.statement.Statement.{Statement, fold-Statement}
use Rattle.tow_model.specs.declared.statement.Statement.TheOpen.{Statement-F, When, Act, Block}
use Rattle.tow_model.specs.declared.limits.TheConstants.{MAX_RESTARTS}
use Rattle.tow_model.specs.Texts.{Text}
use Rattle.tow_semantics.specs.Predicates.{holds_of}
use Rattle.tow_semantics.specs.Steps.{Step, Go, Stop, start, answered, on_verdict, on_content}
use Rattle.tow_semantics.specs.Effects.{Effect, Takes, Asks, ReadsContent, LooksUp, BeginsAgain, GoesToDefault, effect_of}
use Rattle.tow_semantics.specs.Pages.{Found, on_found}

-- Whether only a worker may go on with an exchange: it has passed no `blocking`, its last step was a `blocking`, or it
-- took a step after one.
pub data Mark : Type 0 where
  Free : Mark
  Passed : Mark
  Worked : Mark

-- where an exchange stands between two steps
pub record Stand : Type 0 where
  pub state : Record
  pub mark : Mark

pub data Plan : Type 0 where
  -- the answer is decided
  Over : Stand → Plan
  -- it enters a limit
  AwaitVerdict : ℕ → Stand → (Verdict → Plan) → Plan
  -- it reads the request's content
  AwaitContent : Stand → (Content → Plan) → Plan
  -- it looks for a page after a location, listing or not
  AwaitPage : Text → Bool → Stand → (Found → Plan) → Plan

-- how an exchange goes on from where it stands
abbrev pub Way : Type 0
Way = Stand → Plan

-- the ways that leave the text
pub record Exits : Type 0 where
  pub again : Way
  pub default : Way

abbrev pub moved : Record → Stand → Stand
moved x s = record s { state = x }

abbrev pub take_step : Step → Way → Way
take_step (Go x) next s = next (moved x s)
take_step (Stop x) next s = Over (moved x s)

-- the mark after a step
abbrev pub after_step : Mark → Mark
after_step Free = Free
after_step Passed = Worked
after_step Worked = Worked

-- the mark after a `blocking`
abbrev pub after_blocking : Mark → Mark
after_blocking Free = Passed
after_blocking Passed = Worked
after_blocking Worked = Worked

-- the mark after an action
abbrev pub after_action : Action → Mark → Mark
after_action Blocking mark = after_blocking mark
after_action other mark = after_step mark

-- the stand after an action, but for what that does to the record
abbrev pub marked : Action → Stand → Stand
marked a s = record s { mark = after_action a s.mark }

-- the stand after a predicate, which left this record
abbrev pub tested : Record → Stand → Stand
tested x s = record { state = x; mark = after_step s.mark }

-- An effect at the stand s, which is t once the step is taken. A step that is waited for is not taken yet.
abbrev pub act : Exits → Effect → Way → Stand → Way
act exits (Takes step) next s t = take_step step next t
act exits (Asks limit) next s t = AwaitVerdict limit s (λ v. take_step (on_verdict limit v s.state) next t)
act exits ReadsContent next s t = AwaitContent s (λ c. take_step (on_content c s.state) next t)
act exits (LooksUp location listing) next s t = AwaitPage location listing s (λ p. take_step (on_found p s.state) next t)
act exits BeginsAgain next s t = exits.again t
act exits GoesToDefault next s t = exits.default t

-- the statements one after the other, and then the next way
abbrev pub plan_all : List (Way → Way) → Way → Way
plan_all [] next = next
plan_all (statement ∷ rest) next = statement (plan_all rest next)

abbrev pub plan_other : Option (Way → Way) → Way → Way
plan_other None next = next
plan_other (Some statement) next = statement next

abbrev pub plan_by : Request → ℕ → Exits → Statement-F (Way → Way) → Way → Way
plan_by q m exits (When test then_part other) next s =
    let h = holds_of test q s.state m in (if h.holds then then_part next else plan_other other next) (tested h.state s)
plan_by q m exits (Act a) next s = act exits (effect_of a q s.state m) next s (marked a s)
plan_by q m exits (Block parts) next s = plan_all parts next s

-- one statement, and then the next way
abbrev pub plan_of : Request → ℕ → Exits → Statement → Way → Way
plan_of q m exits = fold-Statement (Way → Way) (plan_by q m exits)

abbrev pub over : Record → Way
over x s = Over (moved x s)

-- the default handler: the page of the record's path, or 404
abbrev pub default_way : Way
default_way s = AwaitPage [] false s (λ p. take_step (on_found p s.state) (λ t. over (answered 404 t.state) t) s)

-- the whole text once, where a restart goes the way `again`
abbrev pub pass : List Statement → Request → ℕ → Way → Way
pass tree q m again = plan_all (map (plan_of q m (record { again = again; default = default_way })) tree) default_way

abbrev pub without_context : Stand → Stand
without_context s = moved (record s.state { context = [] }) s

-- the text from its beginning, where so many restarts are left; one more answers 500
abbrev pub passes : List Statement → Request → ℕ → ℕ → Way
passes tree q m zero = pass tree q m (λ s. over (answered 500 s.state) s)
passes tree q m (suc n) = pass tree q m (λ s. passes tree q m n (without_context s))

-- where the exchange of a request begins
abbrev pub opening_stand : Request → Stand
opening_stand q = record { state = start q; mark = Free }

-- what the exchange of a request does under a text
abbrev pub exchange_plan : List Statement → Request → ℕ → Plan
exchange_plan tree q m = passes tree q m MAX_RESTARTS (opening_stand q)
