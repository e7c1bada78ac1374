-- The stage of a connection, and what it has beside that, as the definitions see them.
use Rattle.std.specs.Prelude.{drop}
use Rattle.std.specs.Vec.{vec_capacity}
use Rattle.tow_peer.specs.Links.{LinkData}
use Rattle.tow_port.specs.declared.port.Port.{Port}
use Rattle.tow_leads.specs.Ports.{PortData}
use Rattle.tow_stages.specs.Stages as model
use Rattle.tow_turns.specs.declared.base.Base.{Base}
use Rattle.tow_turns.specs.declared.stage.Stage.{Stage}
use Rattle.tow_turns.specs.declared.stage.Stage.TheVariants as stage

abbrev pub port_of : {L : Type 0} → (L → LinkData) → Port L → PortData
port_of shows p = record { link = shows p.link; input = p.input; ended = p.ended; output = p.output }

abbrev pub base_of : {L : Type 0} → (L → LinkData) → Base L → model.Base
base_of shows b = record {
  number = b.number;
  begun = b.begun;
  port = port_of shows b.port;
  calls = b.calls.items;
  room = vec_capacity b.calls;
  silent = b.silent;
}

abbrev pub stage_of : Stage → model.Stage
stage_of stage.Reading = model.reading
stage_of (stage.Refusing r) = model.refusing (drop r.put r.text)
stage_of (stage.Walking e) = model.walking e
stage_of (stage.Gathering a) = model.gathering a.exchange a.gathering a.to_invite
stage_of (stage.Answering a) = model.answering a.closing a.sending a.closes a.drain
stage_of (stage.Closing a) = model.closing a.closing a.owed a.end
stage_of (stage.Ended end) = model.ended end
