-- A walk stays on the course of its exchange.
use Rattle.std.specs.Prelude.{ℕ, zero, suc, List, Some}
use Rattle.tow_model.specs.declared.statement.Statement.{Statement}
use Rattle.tow_semantics.specs.Files.{Files}
use Rattle.tow_exchange.specs.Exchanges.{ExchangeData}
use Rattle.tow_course.specs.Course.{Course, IsOnCourse, looked_in}
use Rattle.tow_course.specs.Breaks.{IsBroken}
use Rattle.tow_walks.specs.Walks.{IsCutShort, Walks}

-- what an exchange got so far, after so many looks
abbrev pub looked_after : ℕ → Course → Course
looked_after zero n = n
looked_after (suc looks) n = looked_in n

-- From an exchange on course, a walk leads to one on course; it got no verdict and no content.
abbrev pub WalksStayOnCourse : Type 0
WalksStayOnCourse =
    (tree : List Statement) (files : Files) (old new : ExchangeData) (n : Course) (w : Walks tree (Some files) old new)
    → IsOnCourse tree files old n → IsOnCourse tree files new (looked_after w.looks n)

-- A walk that is cut short leaves an exchange that may end so.
abbrev pub CutShortIsBroken : Type 0
CutShortIsBroken =
    (tree : List Statement) (files : Files) (old new : ExchangeData) (n : Course) (c : IsCutShort tree (Some files) old new)
    → IsOnCourse tree files old n → IsBroken tree files old (looked_after c.walks.looks n) new.stand.state
