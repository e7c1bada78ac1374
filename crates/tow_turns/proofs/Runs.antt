-- The listeners of an exchange run one after another.
use Rattle.std.proofs.Common.{◌≡◌, ◌≢◌, ◌⊎◌, inl, inr, ◌<◌, ℕ, List, ◌∷◌, length, Option, Some, None, refl, sym, ap, subst, ◌∙◌, arith}
use Rattle.circular_buffer.specs.Buffer.{Buffer}
use Rattle.tow_model.specs.declared.account.Role.{Role}
use Rattle.tow_model.specs.declared.account.End.{End}
use Rattle.tow_model.specs.declared.account.End.TheVariants.{NoMemory}
use Rattle.tow_model.specs.declared.record.Listener.{Listener}
use Rattle.tow_model.specs.declared.record.Listener.TheVariants.{Log}
use Rattle.tow_model.specs.declared.statement.Statement.{Statement}
use Rattle.tow_semantics.specs.Files.{Files}
use Rattle.tow_closing.specs.Closings.{ClosingData, Does}
use Rattle.tow_closing.specs.declared.work.Work.TheVariants as work
use Rattle.tow_model.specs.Texts.{Text}
use Rattle.tow_progress.specs.Accounts.{Tally}
use Rattle.tow_states.specs.Calling.{HasPlacesFor}
use Rattle.tow_states.specs.Leaving.{left_in}
use Rattle.tow_stages.specs.Stages.{Base, closing, ended, reading}
use Rattle.tow_stages.specs.Stages as model
use Rattle.tow_turns.specs.Data.{stage_of}
use Rattle.tow_turns.specs.Listeners.{EndStays, HasRun, IsTold, KeepsBase, Runs}
use Rattle.tow_turns.specs.Nexts.{IsOver, IsOwnEnd, KeepsLink, StepFits}
use Rattle.tow_turns.specs.Roles.{IsLoop}
use Rattle.tow_turns.specs.Safe.{IsSafe, IsWritten, calls_of}
use Rattle.tow_turns.specs.declared.stage.Completing.{Completing}
use Rattle.tow_turns.specs.declared.stage.Stage.{Stage}
use Rattle.tow_turns.specs.declared.stage.Stage.TheVariants as stage
use Rattle.tow_turns.specs.declared.stage.Then.{Then}
use Rattle.tow_turns.specs.declared.stage.Then.TheVariants.{On, Read, Stop, Write}
use Rattle.tow_turns.specs.declared.turn.Turn.TheVariants as turns
use Rattle.tow_turns.proofs.Fits.{comes_itself}

-- ---- one listener

pub leaves_next : (limit : ℕ) (d new : ClosingData) → Does (work.Leave limit) d new → left_in (Some limit) new ≡ d.completed.left
leaves_next limit d new does = sym (ap (λ x. x.left) does.0)

pub tells_next : (number : ℕ) (text : Option Text) (d new : ClosingData) (end : Option End) (after : Stage)
    → Does (work.Tell number text) d new → IsTold new end after → Runs d.completed.left end after On
tells_next number text d new end (stage.Closing c) does (is, none, so) =
    (none, (number, ap (λ x. x.left) does.0 ∙ ap (λ (x : ClosingData). Log number ∷ x.completed.left) (sym is)), so)
tells_next number text d new end stage.Reading does told = absurd told
tells_next number text d new end (stage.Refusing r) does told = absurd told
tells_next number text d new end (stage.Walking e) does told = absurd told
tells_next number text d new end (stage.Gathering a) does told = absurd told
tells_next number text d new end (stage.Answering a) does told = absurd told
tells_next number text d new end (stage.Ended how) does told = absurd told

-- ---- so far

-- Some listeners have run, and this is left.
pub record RanOn (b b' : Base) (old new : Completing) : Type 0 where
  pub base : KeepsBase b b'
  pub places : (t : Tally) → HasPlacesFor b.room t (left_in old.owed old.closing) → HasPlacesFor b.room t (left_in new.owed new.closing)
  pub end_so : EndStays old.end new.end

pub none_ran : (b : Base) (c : Completing) → RanOn b b c c
none_ran b c = record { base = refl; places = λ t places. places; end_so = inl refl }

keeps_both : (a b c : Base) → KeepsBase a b → KeepsBase b c → KeepsBase a c
keeps_both a b c first second = second ∙ ap (λ (x : Base). record x { silent = c.silent }) first

ends_both : (x y z : Option End) → EndStays x y → EndStays y z → EndStays x z
ends_both x y z (inl one) (inl two) = inl (two ∙ one)
ends_both x y z (inr one) (inl two) = inr (two ∙ one)
ends_both x y z first (inr two) = inr two

run_places : (room : ℕ) (t : Tally) (left : List Listener) (end : Option End) (new : Completing) → HasRun left end new On
    → HasPlacesFor room t left → HasPlacesFor room t (left_in new.owed new.closing)
run_places room t left end new (none, (number, is), so) places =
    let rest : HasPlacesFor room t (Log number ∷ new.closing.completed.left) =
    subst (λ (l : List Listener). HasPlacesFor room t l) is places in
    subst (λ (o : Option ℕ). HasPlacesFor room t (left_in o new.closing)) (sym none) rest

pub ran_on : (a b c : Base) (old mid new : Completing) → RanOn a b old mid
    → HasRun (left_in mid.owed mid.closing) mid.end new On → KeepsBase b c → RanOn a c old new
ran_on a b c old mid new ran run keeps = record {
  base = keeps_both a b c ran.base keeps;
  places = λ t places. run_places a.room t (left_in mid.owed mid.closing) mid.end new run (ran.places t places);
  end_so = ends_both old.end mid.end new.end ran.end_so run.2;
}

pub fewer_left : (old new : Completing) → HasRun (left_in old.owed old.closing) old.end new On
    → length (left_in new.owed new.closing) < length (left_in old.owed old.closing)
fewer_left old new (none, (number, is), so) =
    let before : length (left_in old.owed old.closing) ≡ length (Log number ∷ new.closing.completed.left) =
    ap (λ (l : List Listener). length l) is in
    let after : length (left_in new.owed new.closing) ≡ length new.closing.completed.left =
    ap (λ (o : Option ℕ). length (left_in o new.closing)) none in
    omega (arith, before, after)

-- ---- the last step of it

written_still : (x y : Option End) (b : Base) → EndStays x y → IsWritten x b → IsWritten y b
written_still x y b (inl same) written = subst (λ (e : Option End). IsWritten e b) (sym same) written
written_still x y b (inr is) written = subst (λ (e : Option End). IsWritten e b) (sym is) tt

written_in : (end : Option End) (b c : Base) → c.port.output ≡ b.port.output → IsWritten end b → IsWritten end c
written_in None b c same written = ap (λ (x : Buffer ℕ). x.items) same ∙ written
written_in (Some end) b c same written = tt

over_still : (d d' : ClosingData) (owed owed' : Option ℕ) (x y : Option End) → EndStays x y → IsOver (closing d owed x)
    → IsOver (closing d' owed' y)
over_still d d' owed owed' None y so over = absurd over
over_still d d' owed owed' (Some end) y (inl same) over = subst (λ (e : Option End). IsOver (closing d' owed' e)) (sym same) tt
over_still d d' owed owed' (Some end) y (inr is) over = subst (λ (e : Option End). IsOver (closing d' owed' e)) (sym is) tt

ends_as : (n n' : ℕ) (x y : Option End) (end : End) → EndStays x y → y ≡ Some end → (x ≡ Some end) ⊎ IsOwnEnd n n' end
ends_as n n' x y end (inl same) is = inl (sym same ∙ is)
ends_as n n' x y end (inr short) is = inr (comes_itself n n' (Some NoMemory) tt end (sym short ∙ is))

none_before : (x y : Option End) → EndStays x y → y ≡ None → x ≡ None
none_before x y (inl same) is = sym same ∙ is
none_before x y (inr short) is = absurd (let wrong : Some NoMemory ≡ None = sym short ∙ is in cc)

none_is_not_over : (d : ClosingData) (owed : Option ℕ) (end : Option End) → end ≡ None → IsOver (closing d owed end) → ⊥
none_is_not_over d owed end is over = subst (λ (e : Option End). IsOver (closing d owed e)) is over

stop_is_not_on : (limit : ℕ) → Stop (turns.Release limit) ≡ On → ⊥
stop_is_not_on limit is = cc

stops_link : (limit : ℕ) → (Stop (turns.Release limit) ≡ Read) ⊎ (Stop (turns.Release limit) ≡ Write) → ⊥
stops_link limit (inl is) = cc
stops_link limit (inr is) = cc

on_links : (On ≡ Read) ⊎ (On ≡ Write) → ⊥
on_links (inl is) = cc
on_links (inr is) = cc

on_reads : On ≡ Read → ⊥
on_reads is = cc

module _ (role : Role) (tree : List Statement) (told : Option Files) (n n' : ℕ) (a b c : Base) (old mid : Completing)
    (ran : RanOn a b old mid) (keeps : KeepsBase b c) (loop : IsLoop role)
    (safe : IsSafe tree told a (closing old.closing old.owed old.end)) where
  abbrev before : model.Stage
  before = closing old.closing old.owed old.end

  kept : KeepsBase a c
  kept = keeps_both a b c ran.base keeps

  link_kept : KeepsLink a c
  link_kept = record {
    link = ap (λ (x : Base). x.port.link) kept;
    ended_so = ap (λ (x : Base). x.port.ended) kept;
    number = ap (λ (x : Base). x.number) kept;
  }

  -- a limit is to be left
  releases : (new : Completing) (limit : ℕ) → HasRun (left_in mid.owed mid.closing) mid.end new (Stop (turns.Release limit))
      → StepFits role tree told n n' a c before (closing new.closing new.owed new.end) (Stop (turns.Release limit))
  releases new limit (owed, same, stays) =
      let so : EndStays old.end new.end = ends_both old.end mid.end new.end ran.end_so (inl stays) in
      let places : HasPlacesFor a.room (calls_of a) (left_in new.owed new.closing) =
      subst (λ (l : List Listener). HasPlacesFor a.room (calls_of a) l) (sym same) (ran.places (calls_of a) safe.0) in
      record {
        safe = (
          subst (λ (x : Base). HasPlacesFor x.room (calls_of x) (left_in new.owed new.closing)) (sym kept) places,
          written_in new.end a c (ap (λ (x : Base). x.port.output) kept) (written_still old.end new.end a so safe.1),
        );
        next = (loop, owed);
        nearer = λ is. absurd (stop_is_not_on limit is);
        keeps = link_kept;
        waits = λ is. ap (λ (x : Base). x.port.output) kept;
        links = λ is. absurd (stops_link limit is);
        stays_over = over_still old.closing new.closing old.owed new.owed old.end new.end so;
        ends_so = λ end is. ends_as n n' old.end new.end end so is;
      }

  -- the next head is to be read
  reads_next : mid.end ≡ None → StepFits role tree told n n' a c before reading On
  reads_next is =
      let none : old.end ≡ None = none_before old.end mid.end ran.end_so is in
      let same : length c.port.input.items ≡ length a.port.input.items = ap (λ (x : Base). length x.port.input.items) kept in
      record {
        safe = subst (λ (x : Base). IsSafe tree told x reading) (sym kept) (subst (λ (e : Option End). IsWritten e a) none safe.1);
        next = tt;
        nearer = λ is. omega (arith, same);
        keeps = link_kept;
        waits = λ is. absurd (on_reads is);
        links = λ is. absurd (on_links is);
        stays_over = λ over. absurd (none_is_not_over old.closing old.owed old.end none over);
        ends_so = λ end wrong. absurd cc;
      }

  -- the connection has ended
  has_ended_so : (how : End) → mid.end ≡ Some how → StepFits role tree told n n' a c before (ended how) On
  has_ended_so how is =
      let same : length c.port.input.items ≡ length a.port.input.items = ap (λ (x : Base). length x.port.input.items) kept in
      record {
        safe = tt;
        next = tt;
        nearer = λ is. omega (arith, same);
        keeps = link_kept;
        waits = λ is. absurd (on_reads is);
        links = λ is. absurd (on_links is);
        stays_over = λ over. tt;
        ends_so = λ end end_is. ends_as n n' old.end mid.end end ran.end_so (is ∙ end_is);
      }

  listeners_stop : (new : Completing) (follows : Then) → follows ≢ On → HasRun (left_in mid.owed mid.closing) mid.end new follows
      → StepFits role tree told n n' a c before (closing new.closing new.owed new.end) follows
  listeners_stop new On other run = absurd (other refl)
  listeners_stop new Read other run = absurd run
  listeners_stop new Write other run = absurd run
  listeners_stop new (Stop turns.Idle) other run = absurd run
  listeners_stop new (Stop (turns.AskLimit limit)) other run = absurd run
  listeners_stop new (Stop (turns.Release limit)) other run = releases new limit run
  listeners_stop new (Stop turns.ToPool) other run = absurd run
  listeners_stop new (Stop turns.ToLoop) other run = absurd run
  listeners_stop new (Stop turns.Spent) other run = absurd run
  listeners_stop new (Stop (turns.Ended end)) other run = absurd run

  -- after the step in which no listener ran before another
  pub runs_fit : (after : Stage) (follows : Then) → ((new : Completing) → after ≡ stage.Closing new → follows ≢ On)
      → Runs (left_in mid.owed mid.closing) mid.end after follows
      → StepFits role tree told n n' a c before (stage_of after) follows
  runs_fit (stage.Closing new) follows other run = listeners_stop new follows (other new refl) run
  runs_fit stage.Reading follows other (none, on) =
      subst (λ (f : Then). StepFits role tree told n n' a c before reading f) (sym on) (reads_next none)
  runs_fit (stage.Ended how) follows other (is, on) =
      subst (λ (f : Then). StepFits role tree told n n' a c before (ended how) f) (sym on) (has_ended_so how is)
  runs_fit (stage.Refusing r) follows other run = absurd run
  runs_fit (stage.Walking e) follows other run = absurd run
  runs_fit (stage.Gathering x) follows other run = absurd run
  runs_fit (stage.Answering x) follows other run = absurd run
