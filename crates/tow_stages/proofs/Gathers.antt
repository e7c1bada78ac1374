-- A client is told to send its content, and the content is gathered.
use Rattle.std.proofs.Common.{◌≡◌, ◌≢◌, inr, ℕ, Bool, true, false, List, [], Some, None, refl, sym, subst, ◌∙◌}
use Rattle.circular_buffer.specs.Buffer.{Buffer}
use Rattle.tow_model.specs.declared.account.End.{End}
use Rattle.tow_model.specs.declared.account.End.TheVariants.{Done}
use Rattle.tow_model.specs.declared.content.Content.{Content as Contents}
use Rattle.tow_model.specs.declared.content.Content.TheVariants as contents
use Rattle.tow_wire.specs.Answers.{continue_text}
use Rattle.tow_exchange.specs.Exchanges.{ExchangeData, content_given}
use Rattle.tow_source.specs.Readings.{Reading, unread}
use Rattle.tow_content.specs.Gatherings.{GathersPipe, StandsFor}
use Rattle.tow_content.specs.declared.gathering.Gathering.{Gathering}
use Rattle.tow_content.specs.declared.gathering.Gathered.{Gathered}
use Rattle.tow_content.specs.declared.gathering.Gathered.TheVariants as gathered
use Rattle.tow_closing.specs.Closings.{ClosingData}
use Rattle.tow_walks.proofs.Sendable.{contents_stay_sendable}
use Rattle.tow_progress.specs.Progress.{Progress, Origin}
use Rattle.tow_progress.specs.Steps.{taken, with_piece}
use Rattle.tow_progress.specs.Accounts.{Tally}
use Rattle.tow_course.specs.Course.{Course, read_in}
use Rattle.tow_states.specs.Known.{Setting}
use Rattle.tow_states.specs.Closing.{IsWorkOf, cut_off, to_last}
use Rattle.tow_states.proofs.Answers.{answer_is_decided}
use Rattle.tow_states.proofs.Breaks.{states_break}
use Rattle.tow_states.proofs.Calls.{calls_have_places}
use Rattle.tow_states.proofs.Completions.{content_is_short, not_stopped}
use Rattle.tow_states.proofs.Gathers.{walk_comes_to_content}
use Rattle.tow_leads.specs.Ports.{as_put}
use Rattle.tow_leads.specs.Taken.{GatheredIs}
use Rattle.tow_leads.specs.Taken.{GatherLeadsOn as TakeLeadsOn}
use Rattle.tow_leads.proofs.PortSteps.{ports_lead_on}
use Rattle.tow_leads.proofs.Takings.{gatherings_lead_on as takings_lead_on}
use Rattle.tow_stages.specs.Stages.{Base, closing, gathering}
use Rattle.tow_stages.specs.Holding.{Holds, IsAt, IsServed, IsSilentBy, Takes, Tells}
use Rattle.tow_stages.specs.Moving.{over}
use Rattle.tow_stages.specs.Gathering.{GatherLeadsOn, GatheringsLeadOn, fed_by, use_of}
use Rattle.tow_stages.proofs.Answers.{UsedSo, answer_begins, follows_cut, not_done, places_left, places_of}
use Rattle.tow_stages.proofs.Heads.{silent_still}

used_by : (content : Contents) (n : Course) (took : List ℕ) → UsedSo (use_of content) (read_in content n) took
used_by (contents.Whole bytes) n took = (refl, (bytes, refl))
used_by contents.Bad n took = (refl, refl)
used_by contents.TooLong n took = (refl, refl)

module _ (failed : Bool) (s : Setting) (o : Origin) (b : Base) (e : ExchangeData) (g : Gathering) (c : Progress) (t : Tally)
    (n : Course) (at : IsAt b c t) (quiet : IsSilentBy failed b) (served : IsServed s b e c t) where
  -- `100 Continue` was put
  tells : Tells s o e g c t n → Holds failed s o (over (as_put continue_text b.port) b) (gathering e g false) (with_piece continue_text c) t
  tells is = record {
    is_at = record {
      number = at.number;
      port = (ports_lead_on b.port c at.port).puts continue_text;
      calls = at.calls;
      all = at.all;
    };
    holds = (
      record {
        course = n;
        is = record {
          reading = unread e.request.framing;
          is = (walk_comes_to_content s o c t e n is.is is.phase).invited is.to_tell;
          framing = refl;
          gathers = is.gathers;
        };
        served = record { sendable = served.sendable; begun = served.begun; asks = served.asks; places = served.places };
      },
      quiet,
    );
  }

  cut_before : Tells s o e g c t n → (end : End) → end ≢ Done → (d : ClosingData) → IsWorkOf s.tree e d
      → Holds failed s o b (closing d None (Some end)) c t
  cut_before is end other d work = record {
    is_at = at;
    holds = (
      record {
        exchange = e;
        course = n;
        onward = cut_off None;
        is = (states_break s o c t).walking e n is.is (not_stopped e is.phase) d work;
        follows = follows_cut end None other;
        written = λ done. not_done end other _ done;
        begun = served.begun;
        places = places_of s b.room t e d work (places_left s b e c t served);
      },
      silent_still failed b (Some end) quiet,
    );
  }

  cut_within : Takes s o e g c t n → (end : End) → end ≢ Done → (d : ClosingData) → IsWorkOf s.tree e d
      → Holds failed s o b (closing d None (Some end)) c t
  cut_within is end other d work = record {
    is_at = at;
    holds = (
      record {
        exchange = e;
        course = n;
        onward = cut_off None;
        is = (states_break s o c t).gathering e n is.reading.taken is.is d work;
        follows = follows_cut end None other;
        written = λ done. not_done end other _ done;
        begun = served.begun;
        places = places_of s b.room t e d work (places_left s b e c t served);
      },
      silent_still failed b (Some end) quiet,
    );
  }

  -- content was taken from the pipe
  module _ (is : Takes s o e g c t n) (answer : Gathered) (new : Gathering) (pipe : Buffer ℕ) (r : Reading) (stands : StandsFor answer new r)
      (call : GathersPipe answer b.port.input pipe is.reading r) where
    abbrev after : Progress
    after = taken call.took pipe.items c

    leads : TakeLeadsOn s o c t e n answer pipe r call.took
    leads = takings_lead_on s o c t e n is.reading r is.is is.framing answer b.port.input pipe at.port.piped_in call

    at_after : IsAt (fed_by pipe b) after t
    at_after = record {
      number = at.number;
      port = (ports_lead_on b.port c at.port).takes call.took pipe call.takes.from_pipe;
      calls = at.calls;
      all = at.all;
    }

    -- what the answer says, if it is this one
    told : (a : Gathered) → answer ≡ a → GatheredIs a e.request.framing r.taken pipe.items
    told a same = subst (λ (x : Gathered). GatheredIs x e.request.framing r.taken pipe.items) same leads.tells

    goes_on : answer ≡ gathered.NotYet → Holds failed s o (fed_by pipe b) (gathering e new false) after t
    goes_on same = record {
      is_at = at_after;
      holds = (
        record {
          course = n;
          is = record {
            reading = r;
            is = leads.is;
            framing = leads.framing;
            gathers = subst (λ (x : Gathered). StandsFor x new r) same stands;
          };
          served = record { sendable = served.sendable; begun = served.begun; asks = served.asks; places = served.places };
        },
        quiet,
      );
    }

    is_short : answer ≡ gathered.NotYet → b.port.ended ≡ true → b.port.output.items ≡ [] → (d : ClosingData) → IsWorkOf s.tree e d
        → Holds failed s o (fed_by pipe b) (closing d None (Some Done)) after t
    is_short same over out d work =
        let on = told gathered.NotYet same in
        record {
          is_at = at_after;
          holds = (
            record {
              exchange = e;
              course = n;
              onward = to_last None;
              is = content_is_short s o after t e n r.taken leads.is (record { piped = on.0; left = at.port.over over }) on.1 d work;
              follows = inr (None, refl);
              written = λ done. sym at.port.piped_out ∙ out;
              begun = served.begun;
              places = places_of s b.room t e d work (places_left s b e c t served);
            },
            silent_still failed b (Some Done) quiet,
          );
        }

    is_cut : (end : End) → end ≢ Done → (d : ClosingData) → IsWorkOf s.tree e d
        → Holds failed s o (fed_by pipe b) (closing d None (Some end)) after t
    is_cut end other d work = record {
      is_at = at_after;
      holds = (
        record {
          exchange = e;
          course = n;
          onward = cut_off None;
          is = (states_break s o after t).gathering e n r.taken leads.is d work;
          follows = follows_cut end None other;
          written = λ done. not_done end other _ done;
          begun = served.begun;
          places = places_of s b.room t e d work (places_left s b e c t served);
        },
        silent_still failed b (Some end) quiet,
      );
    }

    lead_on : GatherLeadsOn failed s o b e answer new pipe c t
    lead_on = record {
      took = call.took;
      goes_on = goes_on;
      is_short = is_short;
      came = λ content same.
          answer_begins failed s o (fed_by pipe b) (content_given content e) (read_in content n) r.taken (use_of content) after t at_after quiet
          (record {
            sendable = contents_stay_sendable (Some s.files) e content served.sendable;
            begun = served.begun;
            asks = served.asks;
            places = (calls_have_places s.tree b.room t).reads e content served.asks is.is.phase served.places;
          })
          (answer_is_decided.gathered s o after t e n r.taken leads.is content (told (gathered.Content content) same))
          (used_by content n r.taken);
      is_cut = is_cut;
    }

pub gatherings_lead_on : GatheringsLeadOn
gatherings_lead_on failed s o b e g true c t h =
    let (is, quiet) = h.holds in
    record {
      tells = λ same. tells failed s o b e g c t is.course h.is_at quiet is.served is.is;
      takes = λ wrong. absurd (cc);
      is_cut = cut_before failed s o b e g c t is.course h.is_at quiet is.served is.is;
    }
gatherings_lead_on failed s o b e g false c t h =
    let (is, quiet) = h.holds in
    record {
      tells = λ wrong. absurd (cc);
      takes = λ same answer new pipe onward.
          let (r, stands, call) = onward is.is.reading is.is.gathers in
          lead_on failed s o b e g c t is.course h.is_at quiet is.served is.is answer new pipe r stands call;
      is_cut = cut_within failed s o b e g c t is.course h.is_at quiet is.served is.is;
    }
