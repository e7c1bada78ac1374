-- What a walk leads to: the exchange is where its connection knows it, or is to be cut.
use Rattle.std.specs.Prelude.{List, None, Some}
use Rattle.tow_exchange.specs.Exchanges.{ExchangeData}
use Rattle.tow_program.specs.declared.instruction.Instruction.{Instruction}
use Rattle.tow_closing.specs.Closings.{ClosingData}
use Rattle.tow_progress.specs.Progress.{Progress, Origin}
use Rattle.tow_progress.specs.Accounts.{Tally}
use Rattle.tow_course.specs.Course.{Course}
use Rattle.tow_walks.specs.Staying.{looked_after}
use Rattle.tow_walks.specs.Walks.{IsCutShort, Keeps, Walks}
use Rattle.tow_states.specs.Known.{Setting}
use Rattle.tow_states.specs.Walking.{IsWalking}
use Rattle.tow_states.specs.Closing.{IsClosing, IsWorkOf, cut_off}

-- Where a walk leads to.
pub record WalkLeadsOn (s : Setting) (o : Origin) (c : Progress) (t : Tally) (old new : ExchangeData) (n : Course) : Type 0 where
  -- it halted, and the exchange is on its walk still
  pub halts : (w : Walks s.tree (Some s.files) old new) → IsWalking s o c t new (looked_after w.looks n)
  -- the memory was short: its listeners are to run
  pub is_cut : (short : IsCutShort s.tree (Some s.files) old new) (d : ClosingData) → IsWorkOf s.tree new d
      → IsClosing s o c t new n d None (cut_off None)

-- ---- law

abbrev pub WalksLeadOn : Type 0
WalksLeadOn =
    (s : Setting) (o : Origin) (c : Progress) (t : Tally) (program : List Instruction) (old new : ExchangeData) (n : Course)
    → IsWalking s o c t old n → Keeps program old new → WalkLeadsOn s o c t old new n
