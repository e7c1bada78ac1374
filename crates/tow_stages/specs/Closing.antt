-- The listeners of an exchange run, and what follows them.
use Rattle.std.specs.Prelude.{Bool, ◌≡◌, ℕ, true, false, [], ◌∷◌, ◌++◌, Option, Some, None}
use Rattle.tow_model.specs.declared.account.End.{End}
use Rattle.tow_model.specs.declared.account.End.TheVariants.{NoMemory}
use Rattle.tow_model.specs.Texts.{Text}
use Rattle.tow_closing.specs.Closings.{ClosingData, Does}
use Rattle.tow_closing.specs.declared.work.Work.TheVariants as work
use Rattle.tow_progress.specs.Progress.{Progress, Origin}
use Rattle.tow_progress.specs.Steps.{completed}
use Rattle.tow_progress.specs.Accounts.{Tally, called, released, settled, stored}
use Rattle.tow_states.specs.Known.{Setting}
use Rattle.tow_states.specs.Closing.{line_at}
use Rattle.tow_stages.specs.Stages.{Base, closing, ended, reading}
use Rattle.tow_stages.specs.Holding.{Holds}

-- the leaving of a limit was noted
abbrev pub with_leaving : ℕ → Progress → Base → Base
with_leaving limit c b = record b { calls = b.calls ++ released limit c ∷ [] }

abbrev pub silenced : Base → Base
silenced b = record b { silent = true }

-- A line was lost: the tally says which.
pub record LossLeadsOn (failed : Bool) (s : Setting) (o : Origin) (b : Base) (d : ClosingData) (end : Option End) (c : Progress)
    (old : Tally) : Type 0 where
  pub tally : Tally
  pub holds : Holds failed s o b (closing d None end) c tally
  -- the log is as it was
  pub lines : tally.lines ≡ old.lines

-- What follows while listeners run.
pub record ClosingLeadsOn (failed : Bool) (s : Setting) (o : Origin) (b : Base) (d : ClosingData) (owed : Option ℕ) (end : Option End)
    (c : Progress) (t : Tally) : Type 0 where
  -- the next one leaves a limit, which is to be left then
  pub leaves : owed ≡ None → (limit : ℕ) (new : ClosingData) → Does (work.Leave limit) d new → new.lost ≡ d.lost
      → Holds failed s o b (closing new (Some limit) end) c t
  -- the limit was left, for which there is a place
  pub releases : (limit : ℕ) → owed ≡ Some limit
      → Holds failed s o (with_leaving limit c b) (closing d None end) c (called (released limit c) t)
  -- the next one's line was stored; none was lost before
  pub stores : owed ≡ None → (number : ℕ) (text : Text) (new : ClosingData) → Does (work.Tell number (Some text)) d new
      → new.lost ≡ d.lost → b.silent ≡ false
      → Holds failed s o b (closing new None end) c (stored (line_at c number text) t)
  -- the log failed at the line
  pub fails : owed ≡ None → (number : ℕ) (text : Option Text) (new : ClosingData) → Does (work.Tell number text) d new
      → new.lost ≡ d.lost → failed ≡ true → LossLeadsOn failed s o (silenced b) new end c t
  -- no more lines are put
  pub skips : owed ≡ None → (number : ℕ) (text : Option Text) (new : ClosingData) → Does (work.Tell number text) d new
      → new.lost ≡ d.lost → b.silent ≡ true → LossLeadsOn failed s o b new end c t
  -- there was no memory for the line: the connection ends of it
  pub is_short : owed ≡ None → (number : ℕ) (text : Option Text) (new : ClosingData) → Does (work.Tell number text) d new
      → new.lost ≡ d.lost → LossLeadsOn failed s o (silenced b) new (Some NoMemory) c t
  -- none is left: the next request is read
  pub goes_on : d.completed.left ≡ [] → owed ≡ None → end ≡ None → Holds failed s o b reading (completed c) (settled t)
  -- or the connection has ended
  pub ends : d.completed.left ≡ [] → owed ≡ None → (how : End) → end ≡ Some how → Holds failed s o b (ended how) c t

-- ---- law

abbrev pub ClosingsLeadOn : Type 0
ClosingsLeadOn =
    (failed : Bool) (s : Setting) (o : Origin) (b : Base) (d : ClosingData) (owed : Option ℕ) (end : Option End) (c : Progress)
    (t : Tally) → Holds failed s o b (closing d owed end) c t → ClosingLeadsOn failed s o b d owed end c t
