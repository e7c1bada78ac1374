-- An exchange walks, hears a verdict, comes to wait for its content, has stopped, or is cut.
use Rattle.std.proofs.Common.{◌≡◌, ◌≢◌, ℕ, zero, suc, pred, Bool, true, false, List, [], ◌∷◌, ◌++◌, Option, Some, None, refl, sym, ap, subst}
use Rattle.tow_model.specs.declared.statement.Statement.{Statement}
use Rattle.tow_model.specs.declared.account.Call.{Call}
use Rattle.tow_model.specs.declared.account.Verdict.{Verdict}
use Rattle.tow_model.specs.declared.account.End.{End}
use Rattle.tow_model.specs.declared.account.End.TheVariants.{Done, NoMemory}
use Rattle.tow_semantics.specs.Files.{Files}
use Rattle.tow_exchange.specs.Exchanges.{ExchangeData, verdict_given}
use Rattle.tow_exchange.specs.declared.phase.Phase.TheVariants.{AwaitsContent, AwaitsVerdict, Stopped}
use Rattle.tow_program.specs.declared.instruction.Instruction.{Instruction}
use Rattle.tow_answer.specs.declared.content_use.ContentUse.TheVariants.{Unasked}
use Rattle.tow_source.specs.Readings.{unread}
use Rattle.tow_content.specs.declared.gathering.Gathering.{Gathering}
use Rattle.tow_content.specs.Gatherings.{Gathers}
use Rattle.tow_closing.specs.Closings.{ClosingData}
use Rattle.tow_walks.specs.Staying.{looked_after}
use Rattle.tow_walks.specs.Walks.{IsCutShort, Keeps, Walks, WalksBy}
use Rattle.tow_walks.proofs.Sendable.{verdicts_stay_sendable, walks_stay_sendable}
use Rattle.tow_progress.specs.Progress.{Progress, Origin}
use Rattle.tow_progress.specs.Steps.{heard}
use Rattle.tow_progress.specs.Accounts.{Tally, called, entered}
use Rattle.tow_course.specs.Course.{heard_in}
use Rattle.tow_states.specs.Known.{Setting}
use Rattle.tow_states.specs.Gathering.{is_to_be_told}
use Rattle.tow_states.specs.Closing.{IsWorkOf, cut_off}
use Rattle.tow_states.specs.Calling.{HasPlaces}
use Rattle.tow_states.proofs.Answers.{answer_is_decided}
use Rattle.tow_states.proofs.Breaks.{states_break}
use Rattle.tow_states.proofs.Calls.{calls_have_places}
use Rattle.tow_states.proofs.Gathers.{walk_comes_to_content}
use Rattle.tow_states.proofs.Walks.{walk_is_kept}
use Rattle.tow_leads.proofs.WalkSteps.{walks_lead_on}
use Rattle.tow_stages.specs.Stages.{Base, closing, gathering, walking}
use Rattle.tow_stages.specs.Holding.{Holds, IsSilentBy, TellsOrTakes, WalksOn}
use Rattle.tow_stages.specs.Walking.{WalkingsLeadOn, with_verdict}
use Rattle.tow_stages.proofs.Answers.{answer_begins, follows_cut, not_done, places_left, places_of}
use Rattle.tow_stages.proofs.Heads.{silent_still}

-- a walk leaves places for the calls that are still to come
pub places_walk : (looks : ℕ) (tree : List Statement) (told : Option Files) (room : ℕ) (t : Tally) (old new : ExchangeData) (asks : ℕ)
    → WalksBy looks tree told old new → HasPlaces tree room t old asks → HasPlaces tree room t new asks
places_walk zero tree told room t old new asks advances places = (calls_have_places tree room t).advances old new asks advances places
places_walk (suc looks) tree told room t old new asks (seen, given, steps, look, advances) places =
    let before = places_walk looks tree told room t old seen asks steps places in
    let looked = (calls_have_places tree room t).looks seen look.location look.listing look.found asks look.waits before in
    (calls_have_places tree room t).advances given new asks advances
    (subst (λ (e : ExchangeData). HasPlaces tree room t e asks) (sym look.given) looked)

module _ (failed : Bool) (s : Setting) (o : Origin) (b : Base) (e : ExchangeData) (c : Progress) (t : Tally)
    (h : Holds failed s o b (walking e) c t) where
  abbrev on : WalksOn s o b e c t
  on = h.holds.0

  abbrev quiet : IsSilentBy failed b
  quiet = h.holds.1

  walks : (program : List Instruction) (new : ExchangeData) → Keeps program e new → Walks s.tree (Some s.files) e new
      → Holds failed s o b (walking new) c t
  walks program new keeps w = record {
    is_at = h.is_at;
    holds = (
      record {
        course = looked_after w.looks on.course;
        is = (walks_lead_on s o c t program e new on.course on.is keeps).halts w;
        served = record {
          sendable = walks_stay_sendable s.tree (Some s.files) e new w on.served.sendable;
          begun = on.served.begun;
          asks = on.served.asks;
          places = places_walk w.looks s.tree (Some s.files) b.room t e new on.served.asks w.steps on.served.places;
        };
      },
      quiet,
    );
  }

  is_short : (program : List Instruction) (new : ExchangeData) → Keeps program e new → IsCutShort s.tree (Some s.files) e new
      → (d : ClosingData) → IsWorkOf s.tree new d → Holds failed s o b (closing d None (Some NoMemory)) c t
  is_short program new keeps short d work = record {
    is_at = h.is_at;
    holds = (
      record {
        exchange = new;
        course = on.course;
        onward = cut_off None;
        is = (walks_lead_on s o c t program e new on.course on.is keeps).is_cut short d work;
        follows = (None, refl);
        written = λ done. not_done NoMemory (λ wrong. cc) _ done;
        begun = on.served.begun;
        places = places_of s b.room t new d work
            ((calls_have_places s.tree b.room t).completes e on.served.asks new.stand.state.listeners on.served.places keeps.adds);
      },
      silent_still failed b (Some NoMemory) quiet,
    );
  }

  hears : (limit : ℕ) (verdict : Verdict) → e.phase ≡ AwaitsVerdict limit
      → Holds failed s o (with_verdict limit verdict c b) (walking (verdict_given limit verdict e)) (heard verdict c)
      (called (entered limit c verdict) t)
  hears limit verdict waits =
      let port = h.is_at.port in
      record {
        is_at = record {
          number = h.is_at.number;
          port = record {
            peer = port.peer;
            told = port.told;
            tells = port.tells;
            left = port.left;
            piped_in = port.piped_in;
            over = port.over;
            piped_out = port.piped_out;
            written = port.written;
          };
          calls = ap (λ (l : List Call). l ++ entered limit c verdict ∷ []) h.is_at.calls;
          all = h.is_at.all;
        };
        holds = (
          record {
            course = heard_in limit verdict on.course;
            is = (walk_is_kept s o c t e on.course on.is).hears limit verdict waits;
            served = record {
              sendable = verdicts_stay_sendable (Some s.files) e limit verdict waits on.served.sendable;
              begun = on.served.begun;
              asks = pred on.served.asks;
              places = (calls_have_places s.tree b.room t).hears e limit on.served.asks verdict (entered limit c verdict) waits on.served.places;
            };
          },
          quiet,
        );
      }

  waits_for : e.phase ≡ AwaitsContent → (g : Gathering) → Gathers g (unread e.request.framing) → (told : Bool)
      → is_to_be_told e.request ≡ told → TellsOrTakes told s o e g c t on.course
  waits_for waits g gathers true told = record { is = on.is; phase = waits; to_tell = told; gathers = gathers }
  waits_for waits g gathers false told = record {
    reading = unread e.request.framing;
    is = (walk_comes_to_content s o c t e on.course on.is waits).at_once told;
    framing = refl;
    gathers = gathers;
  }

  asks : e.phase ≡ AwaitsContent → (g : Gathering) → Gathers g (unread e.request.framing)
      → Holds failed s o b (gathering e g (is_to_be_told e.request)) c t
  asks waits g gathers = record {
    is_at = h.is_at;
    holds = (record { course = on.course; is = waits_for waits g gathers (is_to_be_told e.request) refl; served = on.served }, quiet);
  }

  is_cut : e.phase ≢ Stopped → (end : End) → end ≢ Done → (d : ClosingData) → IsWorkOf s.tree e d
      → Holds failed s o b (closing d None (Some end)) c t
  is_cut live end other d work = record {
    is_at = h.is_at;
    holds = (
      record {
        exchange = e;
        course = on.course;
        onward = cut_off None;
        is = (states_break s o c t).walking e on.course on.is live d work;
        follows = follows_cut end None other;
        written = λ done. not_done end other _ done;
        begun = on.served.begun;
        places = places_of s b.room t e d work (places_left s b e c t on.served);
      },
      silent_still failed b (Some end) quiet,
    );
  }

pub walkings_lead_on : WalkingsLeadOn
walkings_lead_on failed s o b e c t h =
    let is = h.holds.0 in
    record {
      walks = walks failed s o b e c t h;
      is_short = is_short failed s o b e c t h;
      hears = hears failed s o b e c t h;
      asks = asks failed s o b e c t h;
      stops = λ stopped. answer_begins failed s o b e is.course [] Unasked c t h.is_at h.holds.1 is.served
          (answer_is_decided.walked s o c t e is.course is.is stopped) (is.is.unasked, is.is.none, refl);
      is_cut = is_cut failed s o b e c t h;
    }
