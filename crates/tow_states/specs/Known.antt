-- What is known of an open connection, and of the exchange of its open request.
--
-- In the files of this crate s is what a connection is served by, o what none of its steps changes, c how far it has come, t its
-- calls and its lines, e the exchange of its open request, n what that got so far, and took what was taken of its content.
use Rattle.std.specs.Prelude.{◌≡◌, ℕ, ◌≤◌, List, [], ◌++◌, map, Option, Some, None}
use Rattle.tow_model.specs.declared.request.Request.{Request}
use Rattle.tow_model.specs.declared.request.Framing.{Framing}
use Rattle.tow_model.specs.declared.content.Content.{Content}
use Rattle.tow_model.specs.declared.content.Content.TheVariants.{Whole, Bad, TooLong}
use Rattle.tow_model.specs.declared.limits.TheConstants.{MAX_REQUESTS}
use Rattle.tow_model.specs.declared.statement.Statement.{Statement}
use Rattle.tow_message.specs.Contents.{IsContent, IsBad}
use Rattle.tow_message.specs.Stream.{HasRequest}
use Rattle.tow_semantics.specs.Files.{Files}
use Rattle.tow_semantics.specs.Listeners.{entering}
use Rattle.tow_semantics.specs.Runs.{Run}
use Rattle.tow_semantics.specs.Sites.{run_of}
use Rattle.tow_exchange.specs.Exchanges.{ExchangeData}
use Rattle.tow_progress.specs.Progress.{Progress, Origin, origin_of, unfinished}
use Rattle.tow_progress.specs.OnWire.{IsOnWire}
use Rattle.tow_progress.specs.Steps.{open_exchange}
use Rattle.tow_progress.specs.Accounts.{Tally, KeepsAccount}
use Rattle.tow_wire.specs.Wire.{Met}
use Rattle.tow_course.specs.Course.{Course, IsOnCourse, outcome_with, verdicts_in}
use Rattle.tow_states.specs.Leaving.{IsInside}

-- ---- the connection

-- what a connection is served by: a text, a folder and a table of moments
pub record Setting : Type 0 where
  pub tree : List Statement
  pub files : Files
  pub moments : ℕ → ℕ → ℕ

abbrev pub run_in : Setting → Run
run_in s = run_of s.tree s.files s.moments

-- The connection has come so far: it is on its wire and keeps its account.
pub record Stands (s : Setting) (o : Origin) (c : Progress) (t : Tally) : Type 0 where
  pub origin : origin_of c ≡ o
  pub wire : IsOnWire (run_in s) c
  pub account : KeepsAccount s.tree (run_in s) c t
  -- its requests are no more than a connection may have
  pub few : c.request ≤ MAX_REQUESTS

-- ---- the open request

-- its moment
abbrev pub moment_of : Setting → Progress → ℕ
moment_of s c = s.moments c.number c.request

-- what its exchange comes to with this content, under the verdicts so far
abbrev pub exchange_of : Setting → Progress → Request → Option Content → Met
exchange_of s c q content = open_exchange (run_in s) c q content

-- What was taken is content that gives this, or can be no content; nothing is said while its end has not come.
abbrev pub Shows : Framing → List ℕ → Option Content → Type 0
Shows framing took None = Unit {0}
Shows framing took (Some (Whole bytes)) = IsContent framing took (Whole bytes)
Shows framing took (Some TooLong) = IsContent framing took TooLong
Shows framing took (Some Bad) = IsBad framing took

-- The exchange e of the open request is under way, or has stopped: it got n, and none of its listeners has run.
pub record HasExchange (s : Setting) (c : Progress) (t : Tally) (e : ExchangeData) (n : Course) (took : List ℕ) : Type 0 where
  pub connection : e.connection ≡ c.number
  pub number : e.number ≡ c.request
  pub moment : e.moment ≡ moment_of s c
  -- the input has its request first, and then its content
  pub request : HasRequest c.peer (unfinished c) e.request (took ++ (c.piped_in ++ c.left))
  -- the content that it was given is that of the input
  pub content : Shows e.request.framing took n.content
  pub course : IsOnCourse s.tree s.files e n
  -- its verdicts are those that the connection heard
  pub verdicts : c.own ≡ verdicts_in n
  -- the calls are its entries, and it owes no line yet
  pub calls : t.made ≡ map (entering c.request) n.entries
  pub lines : t.owed ≡ []
  -- it is inside the limits that its listeners leave
  pub inside : IsInside c.request e t.calls

-- ---- law

-- whatever its content is, the exchange of the wire ends as its course does
abbrev pub CourseIsMet : Type 0
CourseIsMet =
    (s : Setting) (c : Progress) (t : Tally) (e : ExchangeData) (n : Course) (took : List ℕ) → HasExchange s c t e n took
    → (content : Option Content)
    → (exchange_of s c e.request content).outcome ≡ (outcome_with s.tree s.files e n content []).outcome
