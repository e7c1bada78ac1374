-- Building a tree of its parts, one part after the other, with what is built so far.
use Rattle.std.specs.Prelude.{◌≡◌, List, [], ◌∷◌, ◌++◌, Some, None, IfSome, Ok, Err}
use Rattle.tow_model.specs.declared.action.Action.TheVariants as actions
use Rattle.tow_model.specs.declared.predicate.Predicate.{Predicate}
use Rattle.tow_model.specs.declared.predicate.Predicate.TheVariants.{Is, Not, And, Or}
use Rattle.tow_model.specs.declared.statement.Statement.{Statement}
use Rattle.tow_model.specs.declared.statement.Statement.TheVariants.{When, Act, Block}
use Rattle.tow_language.specs.Fit.{TextFault, Counts, no_counts, Fitted, fit_test, fit_action}
use Rattle.tow_fit.specs.declared.fault.ParseFault.{ParseFault}
use Rattle.tow_fit.specs.Faults.{parse_fault}
use Rattle.tow_parse.specs.Parts.{RawPart, a_test, a_not, an_and, an_or, a_handler, a_restart, a_done, an_open, a_close, a_when, a_when_else, an_end}

-- what is built and not yet part of something: predicates and statements, the last one first; the statements of the
-- innermost open list in their order; and those of the lists around it, from the inside out
pub record Built : Type 0 where
  pub predicates : List Predicate
  pub targets : List Statement
  pub list : List Statement
  pub outer : List (List Statement)
  pub counts : Counts

-- what a part comes to: what is built then, the fault of its call, or nothing where it lacks what it joins
pub data Outcome : Type 0 where
  goes : Built → Outcome
  fails : TextFault → Outcome
  stuck : Outcome

-- goes on with what the call stands for
abbrev pub fitted : {A : Type 0} → Fitted A → (A → Counts → Outcome) → Outcome
fitted (Ok x) f = f x.0 x.1
fitted (Err e) f = fails e

-- goes on with what stands on top
abbrev pub with_top : {A : Type 0} → List A → (A → List A → Outcome) → Outcome
with_top [] f = stuck
with_top (x ∷ xs) f = f x xs

abbrev pub push_predicate : Built → Predicate → Counts → Outcome
push_predicate b p n = goes (record b { predicates = p ∷ b.predicates; counts = n })

abbrev pub push_target : Built → Statement → Counts → Outcome
push_target b s n = goes (record b { targets = s ∷ b.targets; counts = n })

-- takes one part
abbrev pub step : RawPart → Built → Outcome
step (a_test c) b = fitted (fit_test c b.counts) (λ t n. push_predicate b (Is t) n)
step a_not b = with_top b.predicates (λ p ps. goes (record b { predicates = Not p ∷ ps }))
step an_and b = with_top b.predicates (λ right more. with_top more (λ left ps. goes (record b { predicates = And left right ∷ ps })))
step an_or b = with_top b.predicates (λ right more. with_top more (λ left ps. goes (record b { predicates = Or left right ∷ ps })))
step (a_handler c) b = fitted (fit_action c b.counts) (λ a n. push_target b (Act a) n)
step a_restart b = push_target b (Act actions.Restart) b.counts
step a_done b = push_target b (Act actions.Done) b.counts
step an_open b = goes (record b { list = []; outer = b.list ∷ b.outer })
step a_close b = with_top b.outer (λ list outer. goes (record b { targets = Block b.list ∷ b.targets; list = list; outer = outer }))
step a_when b =
    with_top b.predicates (λ p ps. with_top b.targets (λ then_part ts. goes (record b { predicates = ps; targets = When p then_part None ∷ ts })))
step a_when_else b =
    with_top b.predicates (λ p ps. with_top b.targets (λ other more. with_top more (λ then_part ts. goes (record b { predicates = ps; targets = When p then_part (Some other) ∷ ts }))))
step an_end b = with_top b.targets (λ s ts. goes (record b { targets = ts; list = b.list ++ s ∷ [] }))

-- goes on from what is built
abbrev pub then_from : Outcome → (Built → Outcome) → Outcome
then_from (goes b) f = f b
then_from (fails e) f = fails e
then_from stuck f = stuck

-- takes all the parts
abbrev pub play : List RawPart → Built → Outcome
play [] b = goes b
play (part ∷ parts) b = then_from (step part b) (play parts)

abbrev pub nothing : Built
nothing = record { predicates = []; targets = []; list = []; outer = []; counts = no_counts }

-- the fault is that of the outcome; want of memory is no fault of it
abbrev pub FailsAt : ParseFault → Outcome → Type 0
FailsAt e outcome = IfSome (parse_fault e) (λ f. outcome ≡ fails f)
