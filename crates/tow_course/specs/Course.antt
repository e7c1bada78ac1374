-- What an exchange under way got so far, and that what is left to play comes to the outcome of its text.
use Rattle.std.specs.Prelude.{◌≡◌, ℕ, Bool, true, false, List, [], ◌∷◌, ◌++◌, map, count_by, Option, Some, None}
use Rattle.tow_model.specs.declared.request.Request.{Request}
use Rattle.tow_model.specs.declared.content.Content.{Content}
use Rattle.tow_model.specs.declared.account.Verdict.{Verdict}
use Rattle.tow_model.specs.declared.statement.Statement.{Statement}
use Rattle.tow_model.specs.Texts.{Text}
use Rattle.tow_semantics.specs.Files.{Files}
use Rattle.tow_semantics.specs.Pages.{found_page}
use Rattle.tow_semantics.specs.Runs.{Entry, Walked, for_content, for_verdict}
use Rattle.tow_semantics.specs.Sites.{given}
use Rattle.tow_semantics.specs.Walk.{Given, Notes}
use Rattle.tow_semantics.specs.Outcome.{decided, outcome, played, undecided}
use Rattle.tow_exchange.specs.Exchanges.{ExchangeData, content_given, opened, page_given, verdict_given}
use Rattle.tow_exchange.specs.declared.phase.Phase.TheVariants.{AwaitsVerdict, AwaitsContent, AwaitsPage, Stopped}
use Rattle.tow_program.specs.Programs.{program_of}
use Rattle.tow_advance.specs.Moves.{AddsLogs, IsUnchosen}
use Rattle.tow_advance.specs.Under.{plan_in}
use Rattle.tow_progress.specs.Ended.{admits, leaves}

-- what an exchange got so far
pub record Course : Type 0 where
  -- the verdicts of limits
  pub entries : List Entry
  -- its content, once it was given
  pub content : Option Content
  -- it asked for its content, and looked for a page
  pub asked : Bool
  pub looked : Bool

abbrev pub fresh : Course
fresh = record { entries = []; content = None; asked = false; looked = false }

abbrev pub verdicts_in : Course → List Verdict
verdicts_in n = map (λ entry. entry.verdict) n.entries

-- as a walk notes it, with these verdicts still to come
abbrev pub notes_of : Course → List Verdict → Notes
notes_of n more = record { left = more; entries = n.entries; asked = n.asked; looked = n.looked }

-- the content is the one that was given, if one was
abbrev pub Agrees : Option Content → Option Content → Type 0
Agrees None content = Unit {0}
Agrees (Some was) content = content ≡ Some was

-- what its request, its moment, the folder and this content give
abbrev pub given_to : Files → ExchangeData → Option Content → Given
given_to files e content = given files e.request e.moment content

-- its outcome with this content, and these verdicts behind those that it got
abbrev pub outcome_with : List Statement → Files → ExchangeData → Course → Option Content → List Verdict → Walked
outcome_with tree files e n content more = outcome tree (given_to files e content) (verdicts_in n ++ more)

-- The exchange e, which got n, is on the way to the outcome of the text.
pub record IsOnCourse (tree : List Statement) (files : Files) (e : ExchangeData) (n : Course) : Type 0 where
  -- whatever still comes, what is left to play comes to the outcome
  pub plays : (content : Option Content) → Agrees n.content content → (more : List Verdict)
      → outcome_with tree files e n content more
      ≡ played (given_to files e content) (plan_in (program_of tree) e) (notes_of n more)
  -- no answer is chosen before it is decided
  pub unchosen : IsUnchosen e
  -- it has a listener for each admission, and no other that leaves a limit
  pub inside : (limit : ℕ) → count_by (admits limit) n.entries ≡ count_by (leaves limit) e.stand.state.listeners

-- ---- how it goes on

-- as a call of `advance` leaves an exchange
pub record Advances (tree : List Statement) (old new : ExchangeData) : Type 0 where
  pub plan : plan_in (program_of tree) new ≡ plan_in (program_of tree) old
  pub adds : AddsLogs old.stand.state.listeners new.stand.state.listeners
  pub unchosen : IsUnchosen old → IsUnchosen new
  pub request : new.request ≡ old.request
  pub moment : new.moment ≡ old.moment

abbrev pub heard_in : ℕ → Verdict → Course → Course
heard_in limit verdict n = record n { entries = n.entries ++ record { limit = limit; verdict = verdict } ∷ [] }

abbrev pub read_in : Content → Course → Course
read_in content n = record n { content = Some content; asked = true }

abbrev pub looked_in : Course → Course
looked_in n = record n { looked = true }

-- ---- laws

abbrev pub CourseOpens : Type 0
CourseOpens =
    (tree : List Statement) (files : Files) (k j : ℕ) (q : Request) (m : ℕ) → IsOnCourse tree files (opened k j q m) fresh

abbrev pub CourseAdvances : Type 0
CourseAdvances =
    (tree : List Statement) (files : Files) (old new : ExchangeData) (n : Course)
    → Advances tree old new → IsOnCourse tree files old n → IsOnCourse tree files new n

abbrev pub CourseHears : Type 0
CourseHears =
    (tree : List Statement) (files : Files) (e : ExchangeData) (n : Course) (limit : ℕ) (verdict : Verdict)
    → e.phase ≡ AwaitsVerdict limit → IsOnCourse tree files e n
    → IsOnCourse tree files (verdict_given limit verdict e) (heard_in limit verdict n)

abbrev pub CourseReads : Type 0
CourseReads =
    (tree : List Statement) (files : Files) (e : ExchangeData) (n : Course) (content : Content)
    → e.phase ≡ AwaitsContent → n.content ≡ None → IsOnCourse tree files e n
    → IsOnCourse tree files (content_given content e) (read_in content n)

abbrev pub CourseLooks : Type 0
CourseLooks =
    (tree : List Statement) (files : Files) (e : ExchangeData) (n : Course) (location : Text) (listing : Bool)
    → e.phase ≡ AwaitsPage location listing → IsOnCourse tree files e n
    → IsOnCourse tree files (page_given (found_page files location listing e.request e.stand.state) e) (looked_in n)

-- ---- what its outcome is

abbrev pub CourseStops : Type 0
CourseStops =
    (tree : List Statement) (files : Files) (e : ExchangeData) (n : Course) → e.phase ≡ Stopped → IsOnCourse tree files e n
    → (content : Option Content) → Agrees n.content content → (more : List Verdict)
    → outcome_with tree files e n content more ≡ decided e.stand (notes_of n more)

abbrev pub CourseWaitsForContent : Type 0
CourseWaitsForContent =
    (tree : List Statement) (files : Files) (e : ExchangeData) (n : Course)
    → e.phase ≡ AwaitsContent → n.content ≡ None → IsOnCourse tree files e n → (more : List Verdict)
    → outcome_with tree files e n None more ≡ undecided for_content e.stand (record (notes_of n more) { asked = true })

abbrev pub CourseWaitsForVerdict : Type 0
CourseWaitsForVerdict =
    (tree : List Statement) (files : Files) (e : ExchangeData) (n : Course) (limit : ℕ)
    → e.phase ≡ AwaitsVerdict limit → IsOnCourse tree files e n
    → (content : Option Content) → Agrees n.content content
    → outcome_with tree files e n content [] ≡ undecided for_verdict e.stand (notes_of n [])
