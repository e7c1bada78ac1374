-- An exchange comes to wait for its content, and its client is told to send it.
use Rattle.std.proofs.Common.{◌≡◌, ◌<◌, ◌+◌, ◌*◌, ℕ, Bool, true, false, List, length, Option, None, refl, sym, ap, subst, ◌∙◌, arith, lit<}
use Rattle.tow_model.specs.declared.account.Role.{Role}
use Rattle.tow_model.specs.declared.statement.Statement.{Statement}
use Rattle.tow_model.specs.declared.limits.TheConstants.{PIPE_LEN}
use Rattle.tow_semantics.specs.Files.{Files}
use Rattle.circular_buffer.specs.Buffer.{Buffer}
use Rattle.tow_peer.specs.Links.{LinkData}
use Rattle.tow_port.specs.declared.port.Port.{Port}
use Rattle.tow_wire.specs.Answers.{continue_text}
use Rattle.tow_exchange.specs.Exchanges.{ExchangeData}
use Rattle.tow_exchange.specs.declared.phase.Phase.TheVariants.{AwaitsContent}
use Rattle.tow_source.specs.Readings.{unread}
use Rattle.tow_content.specs.declared.gathering.Gathering.{Gathering}
use Rattle.tow_content.specs.Gatherings.{Gathers}
use Rattle.tow_progress.specs.Steps.{with_piece}
use Rattle.tow_states.specs.Known.{Setting}
use Rattle.tow_states.specs.Gathering.{is_to_be_told}
use Rattle.tow_leads.specs.Ports.{PortData, as_put}
use Rattle.tow_stages.specs.Stages.{Base, Stage, gathering, walking}
use Rattle.tow_stages.specs.Holding.{Holds}
use Rattle.tow_stages.specs.Moving.{over}
use Rattle.tow_stages.proofs.Walks.{walkings_lead_on}
use Rattle.tow_stages.proofs.Gathers.{gatherings_lead_on}
use Rattle.tow_turns.specs.Data.{port_of}
use Rattle.tow_port.specs.Ports.{room_of}
use Rattle.tow_turns.specs.Nexts.{StepFits, end_in, rank}
use Rattle.tow_turns.specs.Safe.{IsOpen, IsSafe}
use Rattle.tow_turns.specs.Steps.{Leads}
use Rattle.tow_turns.specs.declared.stage.Then.TheVariants as thens
use Rattle.tow_turns.proofs.Cuts.{comes_to, rests}

-- an exchange stays open over another port
pub open_still : (tree : List Statement) (told : Option Files) (b : Base) (p : PortData) (e : ExchangeData) → IsOpen tree told b e
    → IsOpen tree told (over p b) e
open_still tree told b p e is = record {
  connection = is.connection;
  dated = is.dated;
  sendable = is.sendable;
  asks = is.asks;
  places = is.places;
}

pub asked : (s : Setting) (b : Base) (e : ExchangeData) (g : Gathering) (to_tell : Bool) → e.phase ≡ AwaitsContent
    → Gathers g (unread e.request.framing) → to_tell ≡ is_to_be_told e.request → Leads s b b (walking e) (gathering e g to_tell)
asked s b e g to_tell waits gathers tells failed o c t h =
    comes_to failed s o b (gathering e g to_tell) c t
    (subst (λ (x : Bool). Holds failed s o b (gathering e g x) c t) (sym tells)
    ((walkings_lead_on failed s o b e c t h).asks waits g gathers))

-- a port with another pipe of output
pub port_with : {L : Type 0} (shows : L → LinkData) (old new : Port L) (output : Buffer ℕ) → new.link ≡ old.link
    → new.input ≡ old.input → new.ended ≡ old.ended → new.output ≡ output
    → port_of shows new ≡ record (port_of shows old) { output = output }
port_with shows old new output link input ended out =
    ap (λ l. record { link = shows l; input = new.input; ended = new.ended; output = new.output }) link
    ∙ ap (λ (i : Buffer ℕ). record { link = shows old.link; input = i; ended = new.ended; output = new.output }) input
    ∙ ap (λ (e : Bool). record { link = shows old.link; input = old.input; ended = e; output = new.output }) ended
    ∙ ap (λ (x : Buffer ℕ). record { link = shows old.link; input = old.input; ended = old.ended; output = x }) out

pub invited : (s : Setting) (b : Base) (e : ExchangeData) (g : Gathering) (to_tell : Bool) (p : PortData) → to_tell ≡ true
    → p ≡ as_put continue_text b.port → Leads s b (over p b) (gathering e g to_tell) (gathering e g false)
invited s b e g to_tell p told is failed o c t h = record {
  progress = with_piece continue_text c;
  tally = t;
  holds = subst (λ (x : PortData). Holds failed s o (over x b) (gathering e g false) (with_piece continue_text c) t) (sym is)
      ((gatherings_lead_on failed s o b e g to_tell c t h).tells told);
  same_lines = refl;
}

pub waits_on : (s : Setting) (b : Base) (stage : Stage) (p : PortData) → p ≡ b.port → Leads s b (over p b) stage stage
waits_on s b stage p is = subst (λ (x : PortData). Leads s b (over x b) stage stage) (sym is) (rests s b stage)

pub asking_is_near : (e : ExchangeData) (g : Gathering) (to_tell : Bool) → rank (gathering e g to_tell) < 7
asking_is_near e g true = lit< tt
asking_is_near e g false = lit< tt

pub asking_goes_on : (e : ExchangeData) (g : Gathering) (to_tell : Bool) → end_in (gathering e g to_tell) ≡ None
asking_goes_on e g to_tell = refl

-- ---- that the step fits

-- the client was told
pub invited_fits : (role : Role) (tree : List Statement) (told : Option Files) (n n' : ℕ) (b : Base) (e : ExchangeData) (g : Gathering)
    (to_tell : Bool) (p : PortData) → to_tell ≡ true → p ≡ as_put continue_text b.port → IsSafe tree told b (gathering e g to_tell)
    → StepFits role tree told n n' b (over p b) (gathering e g to_tell) (gathering e g false) thens.On
invited_fits role tree told n n' b e g false p told_so is safe = cc
invited_fits role tree told n n' b e g true p told_so is safe = record {
  safe = record {
    open_so = open_still tree told b p e safe.open_so;
    waits = safe.waits;
    reading_so = safe.reading_so;
    gathers = safe.gathers;
  };
  next = tt;
  nearer = λ on. subst (λ (x : PortData). 8 * length x.input.items + 5 < 8 * length b.port.input.items + 6) (sym is) (omega arith);
  keeps = record { link = ap (λ (x : PortData). x.link) is; ended_so = ap (λ (x : PortData). x.ended) is; number = refl };
  waits = λ read. cc;
  links = λ which. tt;
  stays_over = λ over_so. over_so;
  ends_so = λ end none. cc;
}

-- a pipe without room for the line holds something
pub holds_some : (pipe : Buffer ℕ) → pipe.capacity ≡ PIPE_LEN → room_of pipe < length continue_text → 0 < length pipe.items
holds_some pipe large full =
    let short : length continue_text < PIPE_LEN = lit< tt in
    omega (arith, large, full, short)

-- there was no room for it
pub waits_fits : (role : Role) (tree : List Statement) (told : Option Files) (n n' : ℕ) (b : Base) (e : ExchangeData) (g : Gathering)
    (to_tell : Bool) (p : PortData) → to_tell ≡ true → p ≡ b.port → room_of b.port.output < length continue_text
    → 0 < length b.port.output.items → IsSafe tree told b (gathering e g to_tell)
    → StepFits role tree told n n' b (over p b) (gathering e g to_tell) (gathering e g to_tell) thens.Write
waits_fits role tree told n n' b e g false p told_so is full some safe = cc
waits_fits role tree told n n' b e g true p told_so is full some safe =
    subst (λ (x : PortData). StepFits role tree told n n' b (over x b) (gathering e g true) (gathering e g true) thens.Write) (sym is)
    (record {
      safe = safe;
      next = (λ worker. full, some, tt);
      nearer = λ on. cc;
      keeps = record { link = refl; ended_so = refl; number = refl };
      waits = λ read. cc;
      links = λ which. tt;
      stays_over = λ over_so. over_so;
      ends_so = λ end none. cc;
    })
