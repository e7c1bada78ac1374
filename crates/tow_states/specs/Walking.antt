-- An exchange walks through its text, or waits for a verdict, a page, a worker.
use Rattle.std.specs.Prelude.{◌≡◌, ℕ, Bool, false, List, [], None}
use Rattle.tow_model.specs.declared.account.Verdict.{Verdict}
use Rattle.tow_model.specs.declared.statement.Statement.{Statement}
use Rattle.tow_model.specs.Texts.{Text}
use Rattle.tow_semantics.specs.Pages.{found_page}
use Rattle.tow_exchange.specs.Exchanges.{ExchangeData, page_given, verdict_given}
use Rattle.tow_exchange.specs.declared.phase.Phase.TheVariants.{AwaitsVerdict, AwaitsPage}
use Rattle.tow_progress.specs.Progress.{Progress, Origin}
use Rattle.tow_progress.specs.Steps.{heard}
use Rattle.tow_progress.specs.Accounts.{Tally, called, entered}
use Rattle.tow_course.specs.Course.{Course, Advances, heard_in, looked_in}
use Rattle.tow_states.specs.Known.{Setting, Stands, HasExchange}

-- The exchange has not asked for its content, of which nothing was taken, and nothing was put for it.
pub record IsWalking (s : Setting) (o : Origin) (c : Progress) (t : Tally) (e : ExchangeData) (n : Course) : Type 0 where
  pub stands : Stands s o c t
  pub exchange : HasExchange s c t e n []
  pub none : n.content ≡ None
  pub unasked : n.asked ≡ false
  pub put : c.put ≡ []

-- as a call of `advance` leaves an exchange
pub record GoesOn (tree : List Statement) (old new : ExchangeData) : Type 0 where
  pub advances : Advances tree old new
  pub connection : new.connection ≡ old.connection
  pub number : new.number ≡ old.number

-- Each step of the walk keeps it.
pub record WalkStepsKeep (s : Setting) (o : Origin) (c : Progress) (t : Tally) (e : ExchangeData) (n : Course) : Type 0 where
  -- `advance` took it on
  pub advances : (new : ExchangeData) → GoesOn s.tree e new → IsWalking s o c t new n
  -- the limit that it waits for gave its verdict
  pub hears : (limit : ℕ) (verdict : Verdict) → e.phase ≡ AwaitsVerdict limit
      → IsWalking s o (heard verdict c) (called (entered limit c verdict) t) (verdict_given limit verdict e)
      (heard_in limit verdict n)
  -- the page that it waits for was looked for in the folder
  pub looks : (location : Text) (listing : Bool) → e.phase ≡ AwaitsPage location listing
      → IsWalking s o c t (page_given (found_page s.files location listing e.request e.stand.state) e) (looked_in n)

-- ---- law

abbrev pub WalkIsKept : Type 0
WalkIsKept =
    (s : Setting) (o : Origin) (c : Progress) (t : Tally) (e : ExchangeData) (n : Course) → IsWalking s o c t e n
    → WalkStepsKeep s o c t e n
