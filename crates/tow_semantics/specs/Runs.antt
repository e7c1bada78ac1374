-- What a request's exchange ends with, and what the answers of a connection rest on.
use Rattle.std.specs.Prelude.{◌≡◌, ◌≢◌, ℕ, Bool, true, ◌||◌, List, ◌++◌, Option, Some, is_none}
use Rattle.tow_model.specs.declared.request.Request.{Request}
use Rattle.tow_model.specs.declared.record.Record.{Record}
use Rattle.tow_model.specs.declared.content.Content.{Content}
use Rattle.tow_model.specs.declared.account.Verdict.{Verdict}

-- a limit was asked, and this was its verdict
pub record Entry : Type 0 where
  pub limit : ℕ
  pub verdict : Verdict

-- what a walk waits for: the verdict of a limit, or the content's end
pub data Wait : Type 0 where
  for_verdict : Wait
  for_content : Wait

-- How an exchange ends, or how far it comes if it waits.
pub record Ending : Type 0 where
  -- the record at its end, or where it waits
  pub state : Record
  -- the verdicts of limits, in the order of the walk
  pub entries : List Entry
  -- it asked for the request's content
  pub asked : Bool
  -- it looked for a page
  pub looked : Bool
  -- it took a step after a `blocking`
  pub worked : Bool
  -- what it waits for, if anything
  pub waits : Option Wait

-- its answer is decided
abbrev pub is_decided : Ending → Bool
is_decided o = is_none o.waits

-- some step of it was a worker's
abbrev pub blocks : Ending → Bool
blocks o = o.looked || o.worked

-- how an exchange ends, and the verdicts that it leaves
pub record Walked : Type 0 where
  pub outcome : Ending
  pub left : List Verdict

-- The run of a connection. Here the site and the folder stand as what the connection takes of them.
pub record Run : Type 0 where
  -- what the request ends with at this moment, with this content (none while its end has not come) and these verdicts
  pub outcome : Request → ℕ → Option Content → List Verdict → Walked
  -- the bytes of the file at a path
  pub file : List ℕ → List ℕ
  -- the moment of request j of connection k
  pub moment : ℕ → ℕ → ℕ

-- Further verdicts change an outcome only if it waits for one, and what was asked for stays asked for.
pub record GoesOn (old new : Walked) (more : List Verdict) : Type 0 where
  pub settled : old.outcome.waits ≢ Some for_verdict → new ≡ record old { left = old.left ++ more }
  pub asked : old.outcome.asked ≡ true → new.outcome.asked ≡ true

-- what the outcome of a walk has to meet
abbrev pub OutcomesGrow : Run → Type 0
OutcomesGrow run =
    (q : Request) (moment : ℕ) (content : Option Content) (v more : List Verdict)
    → GoesOn (run.outcome q moment content v) (run.outcome q moment content (v ++ more)) more
