-- What a step has to show that begins at a stage where an exchange, or a refusal, is under way.
use Rattle.std.proofs.Common.{◌≡◌, ◌≢◌, inr, ◌↔◌, ◌<◌, ℕ, Bool, true, false, IsTrue, List, Option, Some, None, subst}
use Rattle.tow_model.specs.declared.account.Role.{Role}
use Rattle.tow_model.specs.declared.account.End.{End}
use Rattle.tow_model.specs.declared.statement.Statement.{Statement}
use Rattle.tow_semantics.specs.Files.{Files}
use Rattle.tow_stages.specs.Stages.{Base, Stage, answering, closing, ended, gathering, reading, refusing, walking}
use Rattle.tow_turns.specs.Cuts.{IsLive}
use Rattle.tow_turns.specs.Nexts.{IsNext, IsOver, IsOwnEnd, KeepsLink, StepFits, end_in, weight}
use Rattle.tow_turns.specs.Roles.{IsLoop}
use Rattle.tow_turns.specs.Safe.{IsSafe}
use Rattle.tow_turns.specs.declared.stage.Then.{Then}
use Rattle.tow_turns.specs.declared.stage.Then.TheVariants.{On, Read, Write}

pub live_is_not_over : (stage : Stage) → IsLive stage → IsOver stage → ⊥
live_is_not_over reading live over = over
live_is_not_over (refusing left) live over = over
live_is_not_over (walking e) live over = over
live_is_not_over (gathering e g to_tell) live over = over
live_is_not_over (answering d pieces closes drain) live over = over
live_is_not_over (closing d owed end) live over = live
live_is_not_over (ended end) live over = live

pub is_no_loop : (role : Role) (answer : Bool) → (IsTrue answer ↔ IsLoop role) → answer ≡ false → IsLoop role → ⊥
is_no_loop role answer tells is loop = let yes : answer ≡ true = tells.1 loop in cc

on_is_not_read : On ≡ Read → ⊥
on_is_not_read is = cc

pub write_goes_not_on : Write ≢ On
write_goes_not_on is = cc

pub write_reads_not : Write ≡ Read → ⊥
write_reads_not is = cc

-- the end that a stage keeps is one that a step may come to by itself
abbrev pub MayCome : (n n' : ℕ) → Option End → Type 0
MayCome n n' None = Unit {0}
MayCome n n' (Some end) = IsOwnEnd n n' end

abbrev IfEnds : (n n' : ℕ) → Option End → Type 0
IfEnds n n' None = ⊥
IfEnds n n' (Some end) = IsOwnEnd n n' end

if_ends : (n n' : ℕ) (kept : Option End) (end : End) → MayCome n n' kept → kept ≡ Some end → IfEnds n n' kept
if_ends n n' None end may is = absurd cc
if_ends n n' (Some other) end may is = may

pub comes_itself : (n n' : ℕ) (kept : Option End) → MayCome n n' kept → (end : End) → kept ≡ Some end → IsOwnEnd n n' end
comes_itself n n' kept may end is = subst (λ (o : Option End). IfEnds n n' o) is (if_ends n n' kept end may is)

no_end : (stage : Stage) (end : End) → end_in stage ≡ None → end_in stage ≡ Some end → ⊥
no_end stage end none is = cc

module _ (role : Role) (tree : List Statement) (told : Option Files) (n n' : ℕ) (old new : Base) (before after : Stage)
    (live : IsLive before) (keeps : KeepsLink old new) (safe : IsSafe tree told new after) where
  -- the next step follows
  pub goes_on : weight new after < weight old before → MayCome n n' (end_in after)
      → StepFits role tree told n n' old new before after On
  goes_on nearer may = record {
    safe = safe;
    next = tt;
    nearer = λ is. nearer;
    keeps = keeps;
    waits = λ is. absurd (on_is_not_read is);
    links = λ is. live;
    stays_over = λ over. absurd (live_is_not_over before live over);
    ends_so = λ end is. inr (comes_itself n n' (end_in after) may end is);
  }

  -- something else is to be done first
  pub waits_for : (follows : Then) → follows ≢ On → IsNext role new after follows
      → (follows ≡ Read → new.port.output ≡ old.port.output) → end_in after ≡ None
      → StepFits role tree told n n' old new before after follows
  waits_for follows other next waits none = record {
    safe = safe;
    next = next;
    nearer = λ is. absurd (other is);
    keeps = keeps;
    waits = waits;
    links = λ is. live;
    stays_over = λ over. absurd (live_is_not_over before live over);
    ends_so = λ end is. absurd (no_end after end none is);
  }
