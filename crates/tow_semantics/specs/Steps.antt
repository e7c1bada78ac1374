-- How an exchange goes on from an event: it goes on with a record, or stops with one.
use Rattle.std.specs.Prelude.{ℕ, [], ◌∷◌, ◌++◌}
use Rattle.tow_model.specs.declared.request.Request.{Request}
use Rattle.tow_model.specs.declared.record.Record.{Record}
use Rattle.tow_model.specs.declared.record.Listener.{Listener}
use Rattle.tow_model.specs.declared.record.Listener.TheVariants.{Leave}
use Rattle.tow_model.specs.declared.record.Choice.TheVariants as choice
use Rattle.tow_model.specs.declared.account.Verdict.{Verdict}
use Rattle.tow_model.specs.declared.account.Verdict.TheVariants.{Admitted, Refused}
use Rattle.tow_model.specs.declared.content.Content.{Content}
use Rattle.tow_model.specs.declared.content.Content.TheVariants.{Whole, Bad, TooLong}

pub data Step : Type 0 where
  Go : Record → Step
  Stop : Record → Step

-- the record of a request, before its text begins
abbrev pub start : Request → Record
start q = record { path = q.path; query = q.query; status = 200; fields = []; context = []; listeners = []; choice = choice.Undecided }

-- the record with an answer of that status and no content
abbrev pub answered : ℕ → Record → Record
answered status x = record x { status = status; choice = choice.Empty }

abbrev pub listening : Listener → Record → Record
listening listener x = record x { listeners = x.listeners ++ listener ∷ [] }

-- the limit's verdict: an exchange that is inside leaves it when it completes
abbrev pub on_verdict : ℕ → Verdict → Record → Step
on_verdict limit Admitted x = Go (listening (Leave limit) x)
on_verdict limit Refused x = Stop (answered 503 x)

-- the content that `echo` asked for
abbrev pub on_content : Content → Record → Step
on_content (Whole bytes) x = Stop (record x { choice = choice.Whole bytes })
on_content Bad x = Stop (answered 400 x)
on_content TooLong x = Stop (answered 413 x)
