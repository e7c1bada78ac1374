-- The link is read or written, or the turn stops.
use Rattle.std.proofs.Common.{◌≡◌, inl, inr, ◌<◌, ◌+◌, ◌-◌, ◌*◌, ℕ, Bool, true, false, List, if◌then◌else◌, Option, Some, None, refl, sym, subst, ◌∙◌, arith}
use Rattle.circular_buffer.specs.Buffer.{Buffer}
use Rattle.tow_model.specs.declared.account.Role.{Role}
use Rattle.tow_model.specs.declared.account.End.{End}
use Rattle.tow_model.specs.declared.statement.Statement.{Statement}
use Rattle.tow_semantics.specs.Files.{Files}
use Rattle.tow_peer.specs.Links.{LinkData, NeverFall}
use Rattle.tow_progress.specs.Progress.{Progress}
use Rattle.tow_progress.specs.Steps.{read_in, written_out}
use Rattle.tow_states.specs.Known.{Setting}
use Rattle.tow_leads.specs.Ports.{IsPortOf, IsRead, IsWritten, PortData}
use Rattle.tow_leads.proofs.PortSteps.{ports_lead_on}
use Rattle.tow_port.specs.Ports.{Sends}
use Rattle.tow_port.specs.declared.port.Port.{Port}
use Rattle.tow_peer.specs.declared.answers.LinkWrite.{LinkWrite}
use Rattle.tow_stages.specs.Stages.{Base, Stage}
use Rattle.tow_stages.specs.Moving.{IsTaking, IsWriting, over}
use Rattle.tow_stages.proofs.Moves.{reads_lead_on, writes_lead_on}
use Rattle.tow_turns.specs.Cuts.{IsLive}
use Rattle.tow_turns.specs.Data.{port_of}
use Rattle.tow_turns.specs.Nexts.{IsForWorker, end_in}
use Rattle.tow_turns.specs.Safe.{IsSafe}
use Rattle.tow_turns.specs.Steps.{Leads}
use Rattle.tow_turns.specs.declared.turn.Turn.{Turn}
use Rattle.tow_turns.specs.declared.turn.Turn.TheVariants.{AskLimit, Ended, Idle, Release, Spent, ToLoop, ToPool}
use Rattle.tow_turns.proofs.Cuts.{comes_to}
use Rattle.tow_by_turns.specs.Needs.{IsNeed}
use Rattle.tow_by_turns.specs.Turns.{IsAnswer, IsTurnEnd, RoundFits, live_rank, turn_left}
use Rattle.tow_by_turns.specs.declared.linking.TheConstants.{TURN_LEN}
use Rattle.tow_by_turns.specs.declared.need.Need.TheVariants.{Stop}
use Rattle.tow_by_turns.proofs.Stages.{end_is_none, live_is_one}

-- ---- what it leads to

pub read_leads : (s : Setting) (b : Base) (stage : Stage) (p : PortData) → IsTaking stage → ((c : Progress) → IsPortOf b.port c → IsRead p c)
    → Leads s b (over p b) stage stage
read_leads s b stage p takes fills failed o c t h =
    let r : IsRead p c = fills c h.is_at.port in
    comes_to failed s o (over p b) stage (read_in r.bytes r.left c) t (reads_lead_on failed s o b stage c t h takes p r)

pub write_leads : (s : Setting) (b : Base) (stage : Stage) (p : PortData) → IsWriting stage
    → ((c : Progress) → IsPortOf b.port c → IsWritten p c) → Leads s b (over p b) stage stage
write_leads s b stage p writes sends failed o c t h =
    let w : IsWritten p c = sends c h.is_at.port in
    comes_to failed s o (over p b) stage (written_out w.bytes w.piped c) t (writes_lead_on failed s o b stage c t h writes p w)

-- a port that was written, as the definitions see it
pub port_written : {L : Type 0} (shows : L → LinkData) (old new : Port L) (answer : LinkWrite)
    → Sends answer (shows old.link) (shows new.link) old.output new.output → new.input ≡ old.input → new.ended ≡ old.ended
    → (c : Progress) → IsPortOf (port_of shows old) c → IsWritten (port_of shows new) c
port_written shows old new answer sends input over_so c is =
    subst (λ (i : Buffer ℕ). IsWritten (record (port_of shows new) { input = i }) c) (sym input)
    (subst (λ (e : Bool). IsWritten (record (port_of shows new) { input = old.input; ended = e }) c) (sym over_so)
    ((ports_lead_on (port_of shows old) c is).sends answer (shows new.link) new.output sends))

-- ---- what holds of a link

pub never_falls : (link : LinkData) → NeverFall link link
never_falls link = record { faults = omega arith; read_stalls = omega arith; write_stalls = omega arith }

-- ---- it stops

need_answers : (role : Role) (spent : Bool) (b : Base) (stage : Stage) (turn : Turn) → IsNeed role spent b stage (Stop turn)
    → IsAnswer role b.port.link b stage turn
need_answers role spent b stage Idle is = absurd is
need_answers role spent b stage (AskLimit limit) is = is
need_answers role spent b stage (Release limit) is = is
need_answers role spent b stage ToPool is = is
need_answers role spent b stage ToLoop is = is
need_answers role spent b stage Spent (loop, so, live) = (loop, live)
need_answers role spent b stage (Ended end) is = is

-- it is to go to the pool for a worker's step
pub pooled : (role : Role) (spent : Bool) (b : Base) (stage : Stage) (turn : Turn) → turn ≡ ToPool → IsNeed role spent b stage (Stop turn)
    → IsForWorker stage
pooled role spent b stage turn is needs = (subst (λ (x : Turn). IsNeed role spent b stage (Stop x)) is needs).1

pub stops_so : (role : Role) (spent : Bool) (tree : List Statement) (told : Option Files) (b : Base) (stage : Stage) (turn : Turn) (moved : ℕ)
    → IsSafe tree told b stage → IsNeed role spent b stage (Stop turn)
    → RoundFits role tree told 0 0 b b stage stage moved moved (Some turn)
stops_so role spent tree told b stage turn moved safe needs = record {
  safe = safe;
  answers = need_answers role spent b stage turn needs;
  nearer = λ none. cc;
  number = refl;
  later = never_falls b.port.link;
  ends_so = λ end is. inl is;
}

-- ---- it is cut

same_end : (end how : End) → Some end ≡ Some how → end ≡ how
same_end end how is = cc

-- over a port that has ended as before
pub cut_fits : (role : Role) (tree : List Statement) (told : Option Files) (b : Base) (p : PortData) (stage after : Stage) (end : End) (moved : ℕ)
    → IsLive stage → IsSafe tree told (over p b) after → end_in after ≡ Some end → p.ended ≡ b.port.ended → NeverFall b.port.link p.link
    → IsTurnEnd b.port.link p.link 0 0 end → RoundFits role tree told 0 0 b (over p b) stage after moved moved None
cut_fits role tree told b p stage after end moved live safe ends same later own = record {
  safe = safe;
  answers = tt;
  nearer = λ none.
      subst (λ (x : Bool). 4 * (TURN_LEN - moved) + (if x then 0 else 2) + live_rank after < turn_left TURN_LEN moved b stage) (sym same)
      (subst (λ (n : ℕ). 4 * (TURN_LEN - moved) + (if b.port.ended then 0 else 2) + n < turn_left TURN_LEN moved b stage)
      (sym (end_is_none after end ends))
      (subst (λ (n : ℕ). 4 * (TURN_LEN - moved) + (if b.port.ended then 0 else 2) + 0 < 4 * (TURN_LEN - moved) + (if b.port.ended then 0 else 2) + n)
      (sym (live_is_one stage live)) (omega arith)));
  number = refl;
  later = later;
  ends_so = λ how is. inr (subst (λ (x : End). IsTurnEnd b.port.link p.link 0 0 x) (same_end end how (sym ends ∙ is)) own);
}

-- ---- bytes were moved

-- by a call of the link that leaves it safe
pub moves_fits : (role : Role) (tree : List Statement) (told : Option Files) (b : Base) (p : PortData) (stage : Stage) (moved moved' : ℕ)
    → IsSafe tree told (over p b) stage → p.ended ≡ b.port.ended → NeverFall b.port.link p.link → moved < TURN_LEN → moved < moved'
    → RoundFits role tree told 0 0 b (over p b) stage stage moved moved' None
moves_fits role tree told b p stage moved moved' safe same later below more = record {
  safe = safe;
  answers = tt;
  nearer = λ none.
      subst (λ (x : Bool). 4 * (TURN_LEN - moved') + (if x then 0 else 2) + live_rank stage < turn_left TURN_LEN moved b stage) (sym same)
      (omega (arith, below, more));
  number = refl;
  later = later;
  ends_so = λ end is. inl is;
}

-- the link has ended, which it had not
pub ended_fits : (role : Role) (tree : List Statement) (told : Option Files) (b : Base) (p : PortData) (stage : Stage) (moved : ℕ)
    → IsSafe tree told (over p b) stage → b.port.ended ≡ false → p.ended ≡ true → NeverFall b.port.link p.link
    → RoundFits role tree told 0 0 b (over p b) stage stage moved moved None
ended_fits role tree told b p stage moved safe before after later = record {
  safe = safe;
  answers = tt;
  nearer = λ none.
      subst (λ (x : Bool). 4 * (TURN_LEN - moved) + (if x then 0 else 2) + live_rank stage < turn_left TURN_LEN moved b stage) (sym after)
      (subst (λ (x : Bool). 4 * (TURN_LEN - moved) + 0 + live_rank stage < 4 * (TURN_LEN - moved) + (if x then 0 else 2) + live_rank stage) (sym before)
      (omega arith));
  number = refl;
  later = later;
  ends_so = λ end is. inl is;
}

-- ---- it stalls

pub stalls_fits : (role : Role) (tree : List Statement) (told : Option Files) (b : Base) (p : PortData) (stage : Stage) (moved : ℕ)
    → IsSafe tree told (over p b) stage → IsAnswer role b.port.link (over p b) stage Idle → NeverFall b.port.link p.link
    → RoundFits role tree told 0 0 b (over p b) stage stage moved moved (Some Idle)
stalls_fits role tree told b p stage moved safe answers later = record {
  safe = safe;
  answers = answers;
  nearer = λ none. cc;
  number = refl;
  later = later;
  ends_so = λ end is. inl is;
}
