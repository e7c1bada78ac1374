-- The walk over a text with everything known beforehand: the folder, the request's content, the verdicts.
use Rattle.std.specs.Prelude.{ℕ, Bool, true, List, [], ◌∷◌, ◌++◌, map, if◌then◌else◌, Option, Some, None}
use Rattle.tow_model.specs.declared.request.Request.{Request}
use Rattle.tow_model.specs.declared.account.Verdict.{Verdict}
use Rattle.tow_model.specs.declared.content.Content.{Content}
use Rattle.tow_model.specs.declared.statement.Statement.{Statement, fold-Statement}
use Rattle.tow_model.specs.declared.statement.Statement.TheOpen.{Statement-F, When, Act, Block}
use Rattle.tow_semantics.specs.Predicates.{holds_of}
use Rattle.tow_semantics.specs.Steps.{Step, Go, Stop, on_verdict, on_content}
use Rattle.tow_semantics.specs.Effects.{Effect, Takes, Asks, ReadsContent, LooksUp, BeginsAgain, GoesToDefault, effect_of}
use Rattle.tow_semantics.specs.Files.{Files}
use Rattle.tow_semantics.specs.Pages.{page_of}
use Rattle.tow_semantics.specs.Plans.{Stand, moved, marked, tested}
use Rattle.tow_semantics.specs.Runs.{Entry, Wait, for_verdict, for_content}

-- what a walk is given: the request, its moment, the folder, and the content, if it has come
pub record Given : Type 0 where
  pub request : Request
  pub moment : ℕ
  pub files : Files
  pub content : Option Content

-- what is noted on the way: the verdicts still to come, the entries made, whether content was asked for and a page looked for
pub record Notes : Type 0 where
  pub left : List Verdict
  pub entries : List Entry
  pub asked : Bool
  pub looked : Bool

pub data Answer : Type 0 where
  Next : Stand → Notes → Answer
  Stopped : Stand → Notes → Answer
  ToDefault : Stand → Notes → Answer
  Restarted : Stand → Notes → Answer
  Waiting : Wait → Stand → Notes → Answer

-- from the left, until an answer other than Next
abbrev pub and_then : Answer → (Stand → Notes → Answer) → Answer
and_then (Next s n) go = go s n
and_then (Stopped s n) go = Stopped s n
and_then (ToDefault s n) go = ToDefault s n
and_then (Restarted s n) go = Restarted s n
and_then (Waiting w s n) go = Waiting w s n

abbrev pub step_answer : Step → Stand → Notes → Answer
step_answer (Go x) s n = Next (moved x s) n
step_answer (Stop x) s n = Stopped (moved x s) n

-- Of the stands s and t the first is the one before a step, and the second the one after it. A walk that waits has not
-- taken the step.

-- the notes with the verdict of a limit
abbrev pub entered : ℕ → Verdict → List Verdict → Notes → Notes
entered limit v left n = record n { left = left; entries = n.entries ++ record { limit = limit; verdict = v } ∷ [] }

-- takes the first verdict still to come
abbrev pub enter : ℕ → List Verdict → Stand → Stand → Notes → Answer
enter limit [] s t n = Waiting for_verdict s n
enter limit (v ∷ vs) s t n = step_answer (on_verdict limit v s.state) t (entered limit v vs n)

abbrev pub read : Option Content → Stand → Stand → Notes → Answer
read None s t n = Waiting for_content s n
read (Some content) s t n = step_answer (on_content content s.state) t n

abbrev pub act_answer : Given → Effect → Stand → Stand → Notes → Answer
act_answer g (Takes step) s t n = step_answer step t n
act_answer g (Asks limit) s t n = enter limit n.left s t n
act_answer g ReadsContent s t n = read g.content s t (record n { asked = true })
act_answer g (LooksUp location listing) s t n =
    step_answer (page_of g.files location listing g.request s.state) t (record n { looked = true })
act_answer g BeginsAgain s t n = Restarted t n
act_answer g GoesToDefault s t n = ToDefault t n

abbrev pub walk_all : List (Stand → Notes → Answer) → Stand → Notes → Answer
walk_all [] s n = Next s n
walk_all (statement ∷ rest) s n = and_then (statement s n) (walk_all rest)

abbrev pub walk_other : Option (Stand → Notes → Answer) → Stand → Notes → Answer
walk_other None s n = Next s n
walk_other (Some statement) s n = statement s n

abbrev pub walk_by : Given → Statement-F (Stand → Notes → Answer) → Stand → Notes → Answer
walk_by g (When test then_part other) s n =
    let h = holds_of test g.request s.state g.moment in
    (if h.holds then then_part else walk_other other) (tested h.state s) n
walk_by g (Act a) s n = act_answer g (effect_of a g.request s.state g.moment) s (marked a s) n
walk_by g (Block parts) s n = walk_all parts s n

abbrev pub walk_one : Given → Statement → Stand → Notes → Answer
walk_one g = fold-Statement (Stand → Notes → Answer) (walk_by g)

-- the statements of a text from the left
abbrev pub walk : Given → List Statement → Stand → Notes → Answer
walk g statements = walk_all (map (walk_one g) statements)
