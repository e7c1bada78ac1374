-- What a run owes so that an answer may be put before the content or all verdicts have come.
use Rattle.std.specs.Prelude.{◌≡◌, ◌≢◌, ℕ, false, List, Option, Some, None}
use Rattle.tow_model.specs.declared.request.Request.{Request}
use Rattle.tow_model.specs.declared.content.Content.{Content}
use Rattle.tow_model.specs.declared.statement.Statement.{Statement}
use Rattle.tow_model.specs.declared.account.Verdict.{Verdict}
use Rattle.tow_semantics.specs.Runs.{Walked, for_content, Run, OutcomesGrow}
use Rattle.tow_semantics.specs.Files.{Files}
use Rattle.tow_semantics.specs.Sites.{run_of}

-- old is how an exchange ends while its content has not come, and new how it ends with a content
pub record ComesOn (old new : Walked) : Type 0 where
  -- one that does not wait for the content did not ask for it, and ends the same whatever it is
  pub unasked : old.outcome.waits ≢ Some for_content → old.outcome.asked ≡ false
  pub settled : old.outcome.waits ≢ Some for_content → new ≡ old
  -- whatever it is, the content ends an exchange that waits for it: nothing more is asked and no listener is added
  pub asked : new.outcome.asked ≡ old.outcome.asked
  pub entries : new.outcome.entries ≡ old.outcome.entries
  pub listeners : new.outcome.state.listeners ≡ old.outcome.state.listeners

abbrev pub ContentsComeOn : Run → Type 0
ContentsComeOn run =
    (q : Request) (moment : ℕ) (content : Option Content) (v : List Verdict)
    → ComesOn (run.outcome q moment None v) (run.outcome q moment content v)

-- Further verdicts, and the content, change only an exchange that waits for them.
pub record Grows (run : Run) : Type 0 where
  pub verdicts : OutcomesGrow run
  pub contents : ContentsComeOn run

-- it is so for every text, folder and table of moments
abbrev pub TextsGrow : Type 0
TextsGrow = (tree : List Statement) (files : Files) (moments : ℕ → ℕ → ℕ) → Grows (run_of tree files moments)
