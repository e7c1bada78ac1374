-- A content that nobody asked for is dropped.
use Rattle.std.proofs.Common.{◌≡◌, ◌⊎◌, ◌<◌, ℕ, Bool, true, false, if◌then◌else◌, List, [], length, Option, Some, None, refl, sym, ap, subst, arith}
use Rattle.circular_buffer.specs.Buffer.{Buffer}
use Rattle.tow_model.specs.declared.account.Role.{Role}
use Rattle.tow_model.specs.declared.account.End.{End}
use Rattle.tow_model.specs.declared.account.End.TheVariants.{Done}
use Rattle.tow_model.specs.declared.limits.TheConstants.{PIPE_LEN}
use Rattle.tow_model.specs.declared.statement.Statement.{Statement}
use Rattle.tow_semantics.specs.Files.{Files}
use Rattle.tow_source.specs.Readings.{DrainsPipe, Onward, Reading}
use Rattle.tow_source.specs.declared.body.Drained.{Drained}
use Rattle.tow_source.specs.declared.body.Drained.TheVariants as drains
use Rattle.tow_source.specs.declared.drain.Drain.{Drain}
use Rattle.tow_content.specs.declared.source.ContentSource.{ContentSource}
use Rattle.tow_content.specs.Sources.{ReadsContent}
use Rattle.tow_closing.specs.Closings.{ClosingData}
use Rattle.tow_sending.specs.Pieces.{Piece}
use Rattle.tow_states.specs.Known.{Setting}
use Rattle.tow_stages.specs.Stages.{Base, Stage, answering, closing}
use Rattle.tow_stages.proofs.Answers.{answerings_lead_on}
use Rattle.tow_turns.specs.Contents.{IsNearer, ReadsSome}
use Rattle.tow_turns.specs.Nexts.{IsForLoop, ReadsLink, StepFits}
use Rattle.tow_turns.specs.Roles.{IsLoop}
use Rattle.tow_turns.specs.Safe.{IsSafe, IsWritten}
use Rattle.tow_turns.specs.Steps.{Leads}
use Rattle.tow_turns.specs.declared.stage.Then.TheVariants.{On, Read, Stop, Write}
use Rattle.tow_turns.specs.declared.turn.Turn.TheVariants.{ToLoop}
use Rattle.tow_turns.proofs.Cuts.{comes_to}
use Rattle.tow_turns.proofs.Fits.{MayCome, goes_on, waits_for, write_goes_not_on, write_reads_not}

-- ---- what a call took

pub drop_capacity : (old new : ContentSource) (answer : Drained) (pipe pipe' : Buffer ℕ) → ReadsSome old
    → Onward (ReadsContent old) (ReadsContent new) (DrainsPipe answer pipe pipe') → pipe'.capacity ≡ pipe.capacity
drop_capacity old new answer pipe pipe' (r, reads) on = (on r reads).2.takes.room

not_yet : (answer : Drained) (pipe pipe' : Buffer ℕ) (r r' : Reading) → DrainsPipe answer pipe pipe' r r' → answer ≡ drains.NotYet
    → pipe'.items ≡ []
not_yet drains.NotYet pipe pipe' r r' step is = step.tells.0
not_yet drains.Whole pipe pipe' r r' step is = cc
not_yet drains.Bad pipe pipe' r r' step is = cc
not_yet drains.TooLong pipe pipe' r r' step is = cc

pub drop_all : (old new : ContentSource) (answer : Drained) (pipe pipe' : Buffer ℕ) → ReadsSome old
    → Onward (ReadsContent old) (ReadsContent new) (DrainsPipe answer pipe pipe') → answer ≡ drains.NotYet → pipe'.items ≡ []
drop_all old new answer pipe pipe' (r, reads) on is = not_yet answer pipe pipe' r (on r reads).0 (on r reads).2 is

-- ---- what it leads to

-- with another pipe of input
abbrev pub taken_by : Buffer ℕ → Base → Base
taken_by pipe b = record b { port = record b.port { input = pipe } }

-- A call of the drain, after which its content goes on, or has come whole, or ends early.
pub record DropGoesOn (s : Setting) (b : Base) (d : ClosingData) (closes : Bool) (old new : Drain ContentSource) (answer : Drained)
    (pipe : Buffer ℕ) : Type 0 where
  pub waits : answer ≡ drains.NotYet
      → Leads s b (taken_by pipe b) (answering d [] closes (Some old)) (answering d [] closes (Some new))
  pub ends : answer ≡ drains.NotYet → b.port.ended ≡ true → b.port.output.items ≡ []
      → Leads s b (taken_by pipe b) (answering d [] closes (Some old)) (closing d None (Some Done))
  pub is_whole : answer ≡ drains.Whole
      → Leads s b (taken_by pipe b) (answering d [] closes (Some old)) (closing d None None)
  pub is_refused : (answer ≡ drains.Bad) ⊎ (answer ≡ drains.TooLong) → b.port.output.items ≡ []
      → Leads s b (taken_by pipe b) (answering d [] closes (Some old)) (closing d None (Some Done))

pub drop_goes_on : (s : Setting) (b : Base) (d : ClosingData) (closes : Bool) (old new : Drain ContentSource) (answer : Drained)
    (pipe : Buffer ℕ) → Onward (ReadsContent old.source) (ReadsContent new.source) (DrainsPipe answer b.port.input pipe)
    → DropGoesOn s b d closes old new answer pipe
drop_goes_on s b d closes old new answer pipe on = record {
  waits = λ is failed o c t h. comes_to failed s o (taken_by pipe b) (answering d [] closes (Some new)) _ t
      (((answerings_lead_on failed s o b d [] closes (Some old) c t h).drops refl old new refl answer pipe on).goes_on is);
  ends = λ is over out failed o c t h. comes_to failed s o (taken_by pipe b) (closing d None (Some Done)) _ t
      (((answerings_lead_on failed s o b d [] closes (Some old) c t h).drops refl old new refl answer pipe on).is_short is over out);
  is_whole = λ is failed o c t h. comes_to failed s o (taken_by pipe b) (closing d None None) _ t
      (((answerings_lead_on failed s o b d [] closes (Some old) c t h).drops refl old new refl answer pipe on).is_whole is);
  is_refused = λ is out failed o c t h. comes_to failed s o (taken_by pipe b) (closing d None (Some Done)) _ t
      (((answerings_lead_on failed s o b d [] closes (Some old) c t h).drops refl old new refl answer pipe on).is_refused is out);
}

-- all was put and written, and nothing is dropped
pub completes_on : (s : Setting) (b : Base) (d : ClosingData) (closes : Bool) → b.port.output.items ≡ []
    → Leads s b b (answering d [] closes None) (closing d None (if closes then Some Done else None))
completes_on s b d true out failed o c t h =
    comes_to failed s o b (closing d None (Some Done)) c t
    ((answerings_lead_on failed s o b d [] true None c t h).ends refl refl refl out)
completes_on s b d false out failed o c t h =
    comes_to failed s o b (closing d None None) c t ((answerings_lead_on failed s o b d [] false None c t h).completes refl refl refl)

-- ---- whatever the link tells

-- once all is written, what follows needs no more
all_written : (end : Option End) (b : Base) → b.port.output.items ≡ [] → IsWritten end b
all_written None b out = out
all_written (Some end) b out = tt

module _ (role : Role) (tree : List Statement) (told : Option Files) (n n' : ℕ) (b : Base) (d : ClosingData) (pieces : List Piece)
    (closes : Bool) (drain : Option (Drain ContentSource)) (none : pieces ≡ [])
    (safe : IsSafe tree told b (answering d pieces closes drain)) where
  abbrev before : Stage
  before = answering d pieces closes drain

  all_put : IsForLoop b before
  all_put = subst (λ (p : List Piece). IsForLoop b (answering d p closes drain)) (sym none) tt

  -- it is an I/O loop's
  pub leaves_to_loop : (IsLoop role → ⊥) → StepFits role tree told n n' b b before before (Stop ToLoop)
  leaves_to_loop other =
      waits_for role tree told n n' b b before before tt (record { link = refl; ended_so = refl; number = refl }) safe (Stop ToLoop)
      (λ is. cc) (other, all_put) (λ is. absurd (cc)) refl

  -- the link has not taken all yet
  pub leaves_to_write : 0 < length b.port.output.items → StepFits role tree told n n' b b before before Write
  leaves_to_write some =
      waits_for role tree told n n' b b before before tt (record { link = refl; ended_so = refl; number = refl }) safe Write
      write_goes_not_on ((λ other. all_put), some, tt) (λ is. absurd (write_reads_not is)) refl

  module _ (pipe : Buffer ℕ) (out : b.port.output.items ≡ []) where
    -- the exchange completes
    pub completes_fit : IsNearer b.port.input pipe → (end : Option End) → MayCome n n' end → (after : Stage) → after ≡ closing d None end
        → StepFits role tree told n n' b (taken_by pipe b) before after On
    completes_fit near end may after is =
        subst (λ (x : Stage). StepFits role tree told n n' b (taken_by pipe b) before x On) (sym is)
        (goes_on role tree told n n' b (taken_by pipe b) before (closing d None end) tt
        (record { link = refl; ended_so = refl; number = refl }) (safe.places, all_written end (taken_by pipe b) out) (omega (arith, near)) may)

    -- more of the content is to be read
    pub drops_more : (new : Drain ContentSource) → ReadsSome new.source → pipe.items ≡ [] → pipe.capacity ≡ PIPE_LEN
        → b.port.ended ≡ false
        → StepFits role tree told n n' b (taken_by pipe b) before (answering d pieces closes (Some new)) Read
    drops_more new reads empty capacity open_still =
        let room : length pipe.items ≡ 0 = ap (λ (l : List ℕ). length l) empty in
        waits_for role tree told n n' b (taken_by pipe b) before (answering d pieces closes (Some new)) tt
        (record { link = refl; ended_so = refl; number = refl })
        (record { parts = safe.parts; fit = safe.fit; drops = reads; places = safe.places }) Read (λ is. cc) (
          (λ other. subst (λ (p : List Piece). IsForLoop (taken_by pipe b) (answering d p closes (Some new))) (sym none) tt),
          subst (λ (p : List Piece). ReadsLink (taken_by pipe b) (answering d p closes (Some new))) (sym none)
              (omega (arith, room, capacity), open_still),
        )
        (λ is. refl) refl

-- the connection ends if its answer closes
pub closing_may_come : (n n' : ℕ) (closes : Bool) → MayCome n n' (if closes then Some Done else None)
closing_may_come n n' true = tt
closing_may_come n n' false = tt
