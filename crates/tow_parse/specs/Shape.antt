-- Which goals may stand behind which.
use Rattle.std.specs.Prelude.{◌≡◌, true, false, List, [], ◌∷◌, ⊤}
use Rattle.tow_parse.specs.declared.goal.Goal.{Goal}
use Rattle.tow_parse.specs.declared.goal.Goal.TheVariants.{Statements, Statement, Factor, Joined, Target, Else, Told, Called, Named, Parameters}
use Rattle.tow_parse.specs.declared.goal.Role.{Role}
use Rattle.tow_parse.specs.declared.goal.Role.TheVariants.{Test, Handler, Front}
use Rattle.tow_parse.specs.declared.goal.Joint.{Joint}
use Rattle.tow_parse.specs.declared.goal.Joint.TheVariants as joints

-- what stands before a goal: a factor, a whole predicate, a predicate's target, a statement, or the front of something
pub data Stage : Type 0 where
  factor : Stage
  predicate : Stage
  target : Stage
  statement : Stage
  front : Stage

abbrev pub told_stage : Joint → Stage
told_stage joints.Not = factor
told_stage joints.And = factor
told_stage joints.WhenElse = statement
told_stage joints.End = statement

abbrev pub stage_of : Goal → Stage
stage_of (Statements levels nested) = statement
stage_of (Statement levels arrow) = front
stage_of (Factor levels) = front
stage_of (Joined levels pending grouped) = factor
stage_of (Target levels) = predicate
stage_of (Else levels) = target
stage_of (Told joint) = told_stage joint
stage_of (Called levels call) = front
stage_of (Named role name) = front
stage_of (Parameters heading phase) = front

-- a target may be a whole statement
abbrev pub Suits : Stage → Stage → Type 0
Suits factor factor = ⊤
Suits predicate predicate = ⊤
Suits target target = ⊤
Suits target statement = ⊤
Suits statement statement = ⊤
Suits s t = ⊥

abbrev pub Behind : Stage → List Goal → Type 0
Behind s [] = ⊥
Behind s (g ∷ gs) = Suits s (stage_of g)

abbrev pub role_stage : Role → Stage
role_stage Test = factor
role_stage Handler = target
role_stage (Front levels) = statement

abbrev pub Fits : Goal → List Goal → Type 0
Fits (Statements levels true) gs = Behind target gs
Fits (Statements levels false) gs = gs ≡ []
Fits (Statement levels arrow) gs = Behind statement gs
Fits (Factor levels) gs = Behind factor gs
Fits (Joined levels pending true) gs = Behind factor gs
Fits (Joined levels pending false) gs = Behind predicate gs
Fits (Target levels) gs = Behind target gs
Fits (Else levels) gs = Behind statement gs
Fits (Told joint) gs = Behind (told_stage joint) gs
Fits (Called levels call) gs = Behind statement gs
Fits (Named role name) gs = Behind (role_stage role) gs
Fits (Parameters heading phase) gs = Behind (role_stage heading.role) gs

abbrev pub Shaped : List Goal → Type 0
Shaped [] = ⊤
Shaped (g ∷ gs) = Fits g gs × Shaped gs
