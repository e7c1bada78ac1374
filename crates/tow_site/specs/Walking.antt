-- What the code's walk says of a request at a moment. Each fact holds whatever the walk is not given: the folder, the
-- content, the verdicts, and whether only a worker may go on, before and after.
use Rattle.std.specs.Prelude.{◌≡◌, ℕ, false, List, [], Option}
use Rattle.tow_model.specs.declared.action.Action.{Action}
use Rattle.tow_model.specs.declared.content.Content.{Content}
use Rattle.tow_model.specs.declared.record.Record.{Record}
use Rattle.tow_model.specs.declared.request.Request.{Request}
use Rattle.tow_model.specs.declared.statement.Statement.{Statement}
use Rattle.tow_semantics.specs.Effects.{effect_of}
use Rattle.tow_semantics.specs.Outcome.{decided, by_default, default_stand, walks}
use Rattle.tow_semantics.specs.Pages.{page_of}
use Rattle.tow_semantics.specs.Plans.{Mark, Stand, marked}
use Rattle.tow_semantics.specs.Runs as runs
use Rattle.tow_semantics.specs.Files.{Files}
use Rattle.tow_semantics.specs.Sites.{given}
use Rattle.tow_semantics.specs.Walk.{Given, Notes, Answer, act_answer, walk_one, walk}
use Rattle.tow_semantics.specs.Walk as model
use Rattle.tow_site.specs.declared.outcomes.Answerer.{Answerer}
use Rattle.tow_site.specs.declared.outcomes.Answerer.TheVariants.{Text, DefaultHandler}
use Rattle.tow_site.specs.declared.walk.Walked.{Walked}
use Rattle.tow_site.specs.declared.walk.Walked.TheVariants.{Next, Stopped, ToDefault, Restarted}

abbrev pub at : Record → Mark → Stand
at x mark = record { state = x; mark = mark }

abbrev pub answer_of : Walked → Stand → Notes → Answer
answer_of Next s n = model.Next s n
answer_of Stopped s n = model.Stopped s n
answer_of ToDefault s n = model.ToDefault s n
answer_of Restarted s n = model.Restarted s n

-- the action takes the record x to y
pub record Acts (q : Request) (m : ℕ) (a : Action) (x : Record) (end : Walked) (y : Record) : Type 0 where
  pub is : (files : Files) (content : Option Content) (b : Mark) (n : Notes) →
      (c : Mark) × (act_answer (given files q m content) (effect_of a q x m) (at x b) (marked a (at x b)) n ≡ answer_of end (at y c) n)

-- the statement does
pub record Walks (q : Request) (m : ℕ) (t : Statement) (x : Record) (end : Walked) (y : Record) : Type 0 where
  pub is : (files : Files) (content : Option Content) (b : Mark) (n : Notes) →
      (c : Mark) × (walk_one (given files q m content) t (at x b) n ≡ answer_of end (at y c) n)

-- the statements do
pub record WalksAll (q : Request) (m : ℕ) (ts : List Statement) (x : Record) (end : Walked) (y : Record) : Type 0 where
  pub is : (files : Files) (content : Option Content) (b : Mark) (n : Notes) →
      (c : Mark) × (walk (given files q m content) ts (at x b) n ≡ answer_of end (at y c) n)

abbrev pub outcome_by : Answerer → Given → Stand → Notes → runs.Walked
outcome_by Text g s n = decided s n
outcome_by DefaultHandler g s n = by_default g s n

-- the walks over the text, with so many restarts left, take the record x to y
pub record Leads (q : Request) (m : ℕ) (tree : List Statement) (left : ℕ) (x : Record) (who : Answerer) (y : Record) : Type 0 where
  pub is : (files : Files) (content : Option Content) (b : Mark) (n : Notes) →
      (c : Mark) × (walks (given files q m content) tree left (at x b) n ≡ outcome_by who (given files q m content) (at y c) n)

-- over the empty folder the default handler takes the record x to y
pub record Defaults (q : Request) (x y : Record) : Type 0 where
  pub is : (b : Mark) → default_stand (page_of [] [] false q x) (at x b) ≡ at y b
