-- An exchange walks, hears a verdict, comes to wait for its content, has stopped, or is cut.
use Rattle.std.specs.Prelude.{◌≡◌, ◌≢◌, ℕ, Bool, List, [], ◌∷◌, ◌++◌, Some, None}
use Rattle.tow_model.specs.declared.account.End.{End}
use Rattle.tow_model.specs.declared.account.End.TheVariants.{Done, NoMemory}
use Rattle.tow_model.specs.declared.account.Verdict.{Verdict}
use Rattle.tow_exchange.specs.Exchanges.{ExchangeData, verdict_given}
use Rattle.tow_exchange.specs.declared.phase.Phase.TheVariants.{AwaitsContent, AwaitsVerdict, Stopped}
use Rattle.tow_program.specs.declared.instruction.Instruction.{Instruction}
use Rattle.tow_answer.specs.declared.content_use.ContentUse.TheVariants.{Unasked}
use Rattle.tow_source.specs.Readings.{unread}
use Rattle.tow_content.specs.declared.gathering.Gathering.{Gathering}
use Rattle.tow_content.specs.Gatherings.{Gathers}
use Rattle.tow_closing.specs.Closings.{ClosingData}
use Rattle.tow_walks.specs.Walks.{IsCutShort, Keeps, Walks}
use Rattle.tow_progress.specs.Progress.{Progress, Origin}
use Rattle.tow_progress.specs.Steps.{heard}
use Rattle.tow_progress.specs.Accounts.{Tally, called, entered}
use Rattle.tow_states.specs.Known.{Setting}
use Rattle.tow_states.specs.Gathering.{is_to_be_told}
use Rattle.tow_states.specs.Closing.{IsWorkOf}
use Rattle.tow_stages.specs.Stages.{Base, closing, gathering, walking}
use Rattle.tow_stages.specs.Holding.{Holds}
use Rattle.tow_stages.specs.Answering.{AnswerBegins}

-- the verdict of a limit was noted
abbrev pub with_verdict : ℕ → Verdict → Progress → Base → Base
with_verdict limit verdict c b = record b { calls = b.calls ++ entered limit c verdict ∷ [] }

-- What follows a walk that began at an exchange.
pub record WalkingLeadsOn (failed : Bool) (s : Setting) (o : Origin) (b : Base) (e : ExchangeData) (c : Progress) (t : Tally) : Type 0 where
  -- it walked, and halted
  pub walks : (program : List Instruction) (new : ExchangeData) → Keeps program e new → Walks s.tree (Some s.files) e new
      → Holds failed s o b (walking new) c t
  -- the memory was short: its listeners are to run
  pub is_short : (program : List Instruction) (new : ExchangeData) → Keeps program e new
      → IsCutShort s.tree (Some s.files) e new → (d : ClosingData) → IsWorkOf s.tree new d
      → Holds failed s o b (closing d None (Some NoMemory)) c t
  -- the limit that it waits for gave its verdict, for which there is a place
  pub hears : (limit : ℕ) (verdict : Verdict) → e.phase ≡ AwaitsVerdict limit
      → Holds failed s o (with_verdict limit verdict c b) (walking (verdict_given limit verdict e)) (heard verdict c)
      (called (entered limit c verdict) t)
  -- it waits for its content
  pub asks : e.phase ≡ AwaitsContent → (g : Gathering) → Gathers g (unread e.request.framing)
      → Holds failed s o b (gathering e g (is_to_be_told e.request)) c t
  -- it has stopped, and its answer is made
  pub stops : e.phase ≡ Stopped → AnswerBegins failed s o b e Unasked c t
  -- it is cut before it has stopped
  pub is_cut : e.phase ≢ Stopped → (end : End) → end ≢ Done → (d : ClosingData) → IsWorkOf s.tree e d
      → Holds failed s o b (closing d None (Some end)) c t

-- ---- law

abbrev pub WalkingsLeadOn : Type 0
WalkingsLeadOn =
    (failed : Bool) (s : Setting) (o : Origin) (b : Base) (e : ExchangeData) (c : Progress) (t : Tally)
    → Holds failed s o b (walking e) c t → WalkingLeadsOn failed s o b e c t
