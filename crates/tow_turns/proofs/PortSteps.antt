-- A port that was read, as the definitions see it.
use Rattle.std.proofs.Common.{◌≡◌, ℕ, sym, subst}
use Rattle.circular_buffer.specs.Buffer.{Buffer}
use Rattle.tow_peer.specs.Links.{LinkData}
use Rattle.tow_peer.specs.declared.answers.LinkRead.{LinkRead}
use Rattle.tow_port.specs.Ports.{Fills}
use Rattle.tow_port.specs.declared.port.Port.{Port}
use Rattle.tow_progress.specs.Progress.{Progress}
use Rattle.tow_progress.specs.Steps.{read_in}
use Rattle.tow_states.specs.Known.{Setting}
use Rattle.tow_leads.specs.Ports.{IsPortOf, IsRead, PortData}
use Rattle.tow_leads.proofs.PortSteps.{ports_lead_on}
use Rattle.tow_stages.specs.Moving.{IsTaking, over}
use Rattle.tow_stages.specs.Stages.{Base, Stage}
use Rattle.tow_stages.proofs.Moves.{reads_lead_on}
use Rattle.tow_turns.specs.Data.{port_of}
use Rattle.tow_turns.specs.Steps.{Leads}
use Rattle.tow_turns.proofs.Cuts.{comes_to}

pub port_read : {L : Type 0} (shows : L → LinkData) (old new : Port L) (answer : LinkRead)
    → Fills answer (shows old.link) (shows new.link) old.input new.input old.ended new.ended → new.output ≡ old.output
    → (c : Progress) → IsPortOf (port_of shows old) c → IsRead (port_of shows new) c
port_read shows old new answer fills same c is =
    subst (λ (out : Buffer ℕ). IsRead (record (port_of shows new) { output = out }) c) (sym same)
    ((ports_lead_on (port_of shows old) c is).fills answer (shows new.link) new.input new.ended fills)

-- the link was read for a head, or for a content
pub reads_on : (s : Setting) (b : Base) (stage : Stage) (p : PortData) → IsTaking stage
    → ((c : Progress) → IsPortOf b.port c → IsRead p c) → Leads s b (over p b) stage stage
reads_on s b stage p taking fills failed o c t h =
    let r : IsRead p c = fills c h.is_at.port in
    comes_to failed s o (over p b) stage (read_in r.bytes r.left c) t (reads_lead_on failed s o b stage c t h taking p r)
