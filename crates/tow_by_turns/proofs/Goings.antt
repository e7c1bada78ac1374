-- Steps up to what is needed.
use Rattle.std.proofs.Common.{◌≡◌, ◌⊎◌, inl, inr, ◌≤◌, ℕ, Bool, false, List, Option, Some, None, refl, ap, subst, ◌∙◌}
use Rattle.circular_buffer.specs.Buffer.{Buffer}
use Rattle.tow_model.specs.declared.account.Role.{Role}
use Rattle.tow_model.specs.declared.account.Role.TheVariants.{Loop, Main, Worker}
use Rattle.tow_model.specs.declared.account.End.{End}
use Rattle.tow_model.specs.declared.statement.Statement.{Statement}
use Rattle.tow_semantics.specs.Files.{Files}
use Rattle.tow_stages.specs.Stages.{Base, Stage}
use Rattle.tow_turns.specs.Cuts.{IsLive}
use Rattle.tow_turns.specs.Nexts.{IsNext, IsOver, IsOwnEnd, KeepsLink, StepFits, end_in}
use Rattle.tow_turns.specs.Roles.{IsLoop}
use Rattle.tow_turns.specs.Safe.{IsSafe}
use Rattle.tow_turns.specs.declared.stage.Then.{Then}
use Rattle.tow_turns.specs.declared.stage.Then.TheVariants as thens
use Rattle.tow_turns.specs.declared.turn.Turn.{Turn}
use Rattle.tow_turns.specs.declared.turn.Turn.TheVariants.{AskLimit, Ended, Idle, Release, Spent, ToLoop, ToPool}
use Rattle.tow_by_turns.specs.Needs.{Goes, IsFirst, IsNeed, IsWrittenFor, need_after}
use Rattle.tow_by_turns.specs.declared.need.Need.{Need}
use Rattle.tow_by_turns.specs.declared.need.Need.TheVariants.{Stop}
use Rattle.tow_by_turns.proofs.Further.{ends_further}

-- So far steps have led.
pub record Along (tree : List Statement) (told : Option Files) (n n' : ℕ) (old new : Base) (before after : Stage) : Type 0 where
  pub safe : IsSafe tree told new after
  pub keeps : KeepsLink old new
  pub stays_over : IsOver before → IsOver after
  pub ends_so : (end : End) → end_in after ≡ Some end → (end_in before ≡ Some end) ⊎ IsOwnEnd n n' end

pub along_none : (tree : List Statement) (told : Option Files) (n : ℕ) (b : Base) (stage : Stage) → IsSafe tree told b stage
    → Along tree told n n b b stage stage
along_none tree told n b stage safe = record {
  safe = safe;
  keeps = record { link = refl; ended_so = refl; number = refl };
  stays_over = λ over_so. over_so;
  ends_so = λ end is. inl is;
}

pub along_on : (role : Role) (tree : List Statement) (told : Option Files) (n m n' : ℕ) (a b c : Base) (x y z : Stage) (follows : Then)
    → n ≤ m → m ≤ n' → Along tree told n m a b x y → StepFits role tree told m n' b c y z follows → Along tree told n n' a c x z
along_on role tree told n m n' a b c x y z follows one two along fits = record {
  safe = fits.safe;
  keeps = record {
    link = fits.keeps.link ∙ along.keeps.link;
    ended_so = fits.keeps.ended_so ∙ along.keeps.ended_so;
    number = fits.keeps.number ∙ along.keeps.number;
  };
  stays_over = λ over_so. fits.stays_over (along.stays_over over_so);
  ends_so = ends_further n m n' x y z one two along.ends_so fits.ends_so;
}

-- a step under the same text and files, by the same number
pub refit : (role : Role) (tree tree' : List Statement) (told told' : Option Files) (faults faults' : ℕ → ℕ) (k k' : ℕ) (b c : Base)
    (y z : Stage) (follows : Then) → tree ≡ tree' → told ≡ told' → k ≡ k'
    → StepFits role tree told (faults k) (faults' k) b c y z follows → StepFits role tree' told' (faults k') (faults' k') b c y z follows
refit role tree tree' told told' faults faults' k k' b c y z follows same_tree same_told same_k fits =
    subst (λ (n : ℕ). StepFits role tree' told' (faults n) (faults' n) b c y z follows) same_k
    (subst (λ (d : Option Files). StepFits role tree' d (faults k) (faults' k) b c y z follows) same_told
    (subst (λ (t : List Statement). StepFits role t told (faults k) (faults' k) b c y z follows) same_tree fits))

-- ---- what is needed after a step

turn_needs : (role : Role) (spent : Bool) (b : Base) (stage : Stage) (turn : Turn) → IsNext role b stage (thens.Stop turn)
    → IsNeed role spent b stage (Stop turn)
turn_needs role spent b stage Idle is = absurd is
turn_needs role spent b stage (AskLimit limit) is = is
turn_needs role spent b stage (Release limit) is = is
turn_needs role spent b stage ToPool is = is
turn_needs role spent b stage ToLoop is = is
turn_needs role spent b stage Spent is = absurd is
turn_needs role spent b stage (Ended end) is = is

-- a step that an I/O loop takes, which has written all
step_needs : (role : Role) (spent : Bool) (tree : List Statement) (told : Option Files) (n n' : ℕ) (b c : Base) (y z : Stage) (follows : Then)
    (need : Need) → IsWrittenFor role b y → (IsLoop role → IsLive y → spent ≡ false)
    → StepFits role tree told n n' b c y z follows → need_after role follows ≡ Some need → IsNeed role spent c z need
step_needs role spent tree told n n' b c y z thens.On need written some fits is = cc
step_needs role spent tree told n n' b c y z (thens.Stop turn) need written some fits is =
    subst (λ (x : Option Need). NeedIf x) is (turn_needs role spent c z turn fits.next)
  where
    NeedIf : Option Need → Type 0
    NeedIf None = ⊥
    NeedIf (Some x) = IsNeed role spent c z x
step_needs (Loop i) spent tree told n n' b c y z thens.Read need written some fits is =
    subst (λ (x : Option Need). NeedIf x) is (
      tt,
      some tt (fits.links (inl refl)),
      fits.next.1,
      ap (λ (x : Buffer ℕ). x.items) (fits.waits refl) ∙ written tt (fits.links (inl refl)),
    )
  where
    NeedIf : Option Need → Type 0
    NeedIf None = ⊥
    NeedIf (Some x) = IsNeed (Loop i) spent c z x
step_needs (Loop i) spent tree told n n' b c y z thens.Write need written some fits is =
    subst (λ (x : Option Need). NeedIf x) is (tt, some tt (fits.links (inr refl)), fits.next.2, fits.next.1)
  where
    NeedIf : Option Need → Type 0
    NeedIf None = ⊥
    NeedIf (Some x) = IsNeed (Loop i) spent c z x
step_needs (Worker i) spent tree told n n' b c y z thens.Read need written some fits is =
    subst (λ (x : Option Need). NeedIf x) is (λ loop. loop, fits.next.0 (λ loop. loop))
  where
    NeedIf : Option Need → Type 0
    NeedIf None = ⊥
    NeedIf (Some x) = IsNeed (Worker i) spent c z x
step_needs (Worker i) spent tree told n n' b c y z thens.Write need written some fits is =
    subst (λ (x : Option Need). NeedIf x) is (λ loop. loop, fits.next.0 (λ loop. loop))
  where
    NeedIf : Option Need → Type 0
    NeedIf None = ⊥
    NeedIf (Some x) = IsNeed (Worker i) spent c z x
step_needs Main spent tree told n n' b c y z thens.Read need written some fits is =
    subst (λ (x : Option Need). NeedIf x) is (λ loop. loop, fits.next.0 (λ loop. loop))
  where
    NeedIf : Option Need → Type 0
    NeedIf None = ⊥
    NeedIf (Some x) = IsNeed Main spent c z x
step_needs Main spent tree told n n' b c y z thens.Write need written some fits is =
    subst (λ (x : Option Need). NeedIf x) is (λ loop. loop, fits.next.0 (λ loop. loop))
  where
    NeedIf : Option Need → Type 0
    NeedIf None = ⊥
    NeedIf (Some x) = IsNeed Main spent c z x

-- nothing is needed only if the next step follows
pub goes_on_after : (role : Role) (follows : Then) → need_after role follows ≡ None → follows ≡ thens.On
goes_on_after role thens.On is = refl
goes_on_after role (thens.Stop turn) is = cc
goes_on_after (Loop i) thens.Read is = cc
goes_on_after (Worker i) thens.Read is = cc
goes_on_after Main thens.Read is = cc
goes_on_after (Loop i) thens.Write is = cc
goes_on_after (Worker i) thens.Write is = cc
goes_on_after Main thens.Write is = cc

-- ---- all of it

pub goes_first : (role : Role) (spent : Bool) (tree : List Statement) (told : Option Files) (n n' : ℕ) (a b : Base) (x y : Stage) (need : Need)
    → Along tree told n n' a b x y → IsNeed role spent b y need → Goes role spent tree told n n' a b x y need
goes_first role spent tree told n n' a b x y need along needs =
    record { safe = along.safe; needs = needs; keeps = along.keeps; stays_over = along.stays_over; ends_so = along.ends_so }

pub goes_after : (role : Role) (spent : Bool) (tree : List Statement) (told : Option Files) (n m n' : ℕ) (a b c : Base) (x y z : Stage)
    (follows : Then) (need : Need) → n ≤ m → m ≤ n' → Along tree told n m a b x y → IsFirst role spent b y None
    → StepFits role tree told m n' b c y z follows → need_after role follows ≡ Some need → Goes role spent tree told n n' a c x z need
goes_after role spent tree told n m n' a b c x y z follows need one two along (written, some) fits is =
    goes_first role spent tree told n n' a c x z need (along_on role tree told n m n' a b c x y z follows one two along fits)
    (step_needs role spent tree told m n' b c y z follows need written some fits is)
