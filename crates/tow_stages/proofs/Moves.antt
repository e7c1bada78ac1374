-- The link is read, and written: the stage stays.
use Rattle.std.proofs.Common.{◌≡◌, Bool, true, false, refl, sym, ◌∙◌}
use Rattle.tow_exchange.specs.Exchanges.{ExchangeData}
use Rattle.tow_content.specs.declared.gathering.Gathering.{Gathering}
use Rattle.tow_progress.specs.Progress.{Progress, Origin}
use Rattle.tow_progress.specs.Steps.{read_in, written_out}
use Rattle.tow_progress.specs.Accounts.{Tally}
use Rattle.tow_course.specs.Course.{Course}
use Rattle.tow_states.specs.Known.{Setting}
use Rattle.tow_states.proofs.Moves.{states_move}
use Rattle.tow_leads.specs.Ports.{IsPortOf, IsRead, IsWritten, PortData}
use Rattle.tow_stages.specs.Stages.{Base, Stage, answering, closing, ended, gathering, reading, refusing, walking}
use Rattle.tow_stages.specs.Holding.{Holds, IsAt, TellsOrTakes}
use Rattle.tow_stages.specs.Moving.{IsTaking, IsWriting, ReadsLeadOn, WritesLeadOn, over}

-- the connection is at the new place
at_port : (b : Base) (c d : Progress) (t : Tally) → IsAt b c t → d.number ≡ c.number → (p : PortData) → IsPortOf p d → IsAt (over p b) d t
at_port b c d t is number p port = record { number = is.number ∙ sym number; port = port; calls = is.calls; all = is.all }

module _ (failed : Bool) (s : Setting) (o : Origin) (b : Base) (c : Progress) (t : Tally) where
  -- ---- written
  module _ (p : PortData) (w : IsWritten p c) where
    abbrev after_write : Progress
    after_write = written_out w.bytes w.piped c

    asks_written : (to_tell : Bool) (e : ExchangeData) (g : Gathering) (n : Course) → TellsOrTakes to_tell s o e g c t n
        → TellsOrTakes to_tell s o e g after_write t n
    asks_written true e g n is = record {
      is = ((states_move s o c t).walking e n is.is).writes w.bytes w.piped w.split;
      phase = is.phase;
      to_tell = is.to_tell;
      gathers = is.gathers;
    }
    asks_written false e g n is = record {
      reading = is.reading;
      is = ((states_move s o c t).gathering e n is.reading.taken is.is).writes w.bytes w.piped w.split;
      framing = is.framing;
      gathers = is.gathers;
    }

    write_on : (stage : Stage) → Holds failed s o b stage c t → IsWriting stage → Holds failed s o (over p b) stage after_write t
    write_on reading h writing =
        let (is, quiet) = h.holds in
        record {
          is_at = at_port b c after_write t h.is_at refl p w.port;
          holds = (record { is = ((states_move s o c t).reading is.is).writes w.bytes w.piped w.split; begun = is.begun }, quiet);
        }
    write_on (refusing left) h writing =
        let (is, quiet) = h.holds in
        record {
          is_at = at_port b c after_write t h.is_at refl p w.port;
          holds = (
            record {
              status = is.status;
              is = (states_move s o c t).refusing is.status left is.is w.bytes w.piped w.split;
              begun = is.begun;
            },
            quiet,
          );
        }
    write_on (walking e) h writing =
        let (is, quiet) = h.holds in
        record {
          is_at = at_port b c after_write t h.is_at refl p w.port;
          holds = (
            record {
              course = is.course;
              is = ((states_move s o c t).walking e is.course is.is).writes w.bytes w.piped w.split;
              served = record {
                sendable = is.served.sendable;
                begun = is.served.begun;
                asks = is.served.asks;
                places = is.served.places;
              };
            },
            quiet,
          );
        }
    write_on (gathering e g to_tell) h writing =
        let (is, quiet) = h.holds in
        record {
          is_at = at_port b c after_write t h.is_at refl p w.port;
          holds = (
            record {
              course = is.course;
              is = asks_written to_tell e g is.course is.is;
              served = record {
                sendable = is.served.sendable;
                begun = is.served.begun;
                asks = is.served.asks;
                places = is.served.places;
              };
            },
            quiet,
          );
        }
    write_on (answering d pieces closes drain) h writing =
        let (is, quiet) = h.holds in
        record {
          is_at = at_port b c after_write t h.is_at refl p w.port;
          holds = (
            record {
              exchange = is.exchange;
              course = is.course;
              took = is.took;
              is = ((states_move s o c t).sending is.exchange is.course is.took _ is.is).writes w.bytes w.piped w.split;
              work = is.work;
              there = is.there;
              closes_so = is.closes_so;
              drops = is.drops;
              begun = is.begun;
              places = is.places;
            },
            quiet,
          );
        }
    write_on (closing d owed end) h writing = absurd writing
    write_on (ended end) h writing = absurd writing

  -- ---- read
  module _ (p : PortData) (r : IsRead p c) where
    abbrev after_read : Progress
    after_read = read_in r.bytes r.left c

    asks_read : (to_tell : Bool) (e : ExchangeData) (g : Gathering) (n : Course) → TellsOrTakes to_tell s o e g c t n
        → TellsOrTakes to_tell s o e g after_read t n
    asks_read true e g n is = record {
      is = ((states_move s o c t).walking e n is.is).reads r.bytes r.left r.split;
      phase = is.phase;
      to_tell = is.to_tell;
      gathers = is.gathers;
    }
    asks_read false e g n is = record {
      reading = is.reading;
      is = ((states_move s o c t).gathering e n is.reading.taken is.is).reads r.bytes r.left r.split;
      framing = is.framing;
      gathers = is.gathers;
    }

    read_on : (stage : Stage) → Holds failed s o b stage c t → IsTaking stage → Holds failed s o (over p b) stage after_read t
    read_on reading h taking =
        let (is, quiet) = h.holds in
        record {
          is_at = at_port b c after_read t h.is_at refl p r.port;
          holds = (record { is = ((states_move s o c t).reading is.is).reads r.bytes r.left r.split; begun = is.begun }, quiet);
        }
    read_on (gathering e g to_tell) h taking =
        let (is, quiet) = h.holds in
        record {
          is_at = at_port b c after_read t h.is_at refl p r.port;
          holds = (
            record {
              course = is.course;
              is = asks_read to_tell e g is.course is.is;
              served = record {
                sendable = is.served.sendable;
                begun = is.served.begun;
                asks = is.served.asks;
                places = is.served.places;
              };
            },
            quiet,
          );
        }
    read_on (answering d pieces closes drain) h taking =
        let (is, quiet) = h.holds in
        record {
          is_at = at_port b c after_read t h.is_at refl p r.port;
          holds = (
            record {
              exchange = is.exchange;
              course = is.course;
              took = is.took;
              is = ((states_move s o c t).sending is.exchange is.course is.took _ is.is).reads r.bytes r.left r.split;
              work = is.work;
              there = is.there;
              closes_so = is.closes_so;
              drops = is.drops;
              begun = is.begun;
              places = is.places;
            },
            quiet,
          );
        }
    read_on (refusing left) h taking = absurd taking
    read_on (walking e) h taking = absurd taking
    read_on (closing d owed end) h taking = absurd taking
    read_on (ended end) h taking = absurd taking

pub writes_lead_on : WritesLeadOn
writes_lead_on failed s o b stage c t h writing p w = write_on failed s o b c t p w stage h writing

pub reads_lead_on : ReadsLeadOn
reads_lead_on failed s o b stage c t h taking p r = read_on failed s o b c t p r stage h taking
