-- A connection, as contracts see it.
use Rattle.tow_peer.specs.Links.{LinkData}
use Rattle.tow_stages.specs.Stages.{Base, Stage}
use Rattle.tow_turns.specs.Data.{base_of, stage_of}
use Rattle.tow_by_turns.specs.declared.conn.Conn.{Conn}

abbrev pub base_in : {L : Type 0} → (L → LinkData) → Conn L → Base
base_in shows c = base_of shows c.base

abbrev pub stage_in : {L : Type 0} → Conn L → Stage
stage_in c = stage_of c.stage
