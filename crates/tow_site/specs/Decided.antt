-- What a text comes to for a request, if it waits for nothing.
use Rattle.std.specs.Prelude.{◌≡◌, ℕ, Bool, false, List, [], Option, None}
use Rattle.tow_model.specs.declared.account.Verdict.{Verdict}
use Rattle.tow_model.specs.declared.content.Content.{Content}
use Rattle.tow_model.specs.declared.record.Record.{Record}
use Rattle.tow_model.specs.declared.request.Request.{Request}
use Rattle.tow_model.specs.declared.statement.Statement.{Statement}
use Rattle.tow_semantics.specs.Outcome.{outcome}
use Rattle.tow_semantics.specs.Runs.{Ending, Walked}
use Rattle.tow_semantics.specs.Sites.{given}

-- decided with this record, with no limit entered and no content asked for
abbrev pub settled : Record → Ending
settled x = record { state = x; entries = []; asked = false; looked = false; worked = false; waits = None }

-- The walk is decided so, and leaves these verdicts. Whether it looked for a page, or a worker took a step, is left open.
pub record Settles (x : Record) (left : List Verdict) (walked : Walked) : Type 0 where
  pub looked : Bool
  pub worked : Bool
  pub is : walked ≡ record { outcome = record (settled x) { looked = looked; worked = worked }; left = left }

-- Over the empty folder the text comes to this record for the request at this moment, whatever the content and the
-- verdicts, all of which are left.
abbrev pub Decides : List Statement → Request → ℕ → Record → Type 0
Decides tree q moment x =
    (content : Option Content) (verdicts : List Verdict) →
    Settles x verdicts (outcome tree (given [] q moment content) verdicts)
