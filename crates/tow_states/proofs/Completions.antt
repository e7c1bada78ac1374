-- How an exchange completes of whose answer all was put, or whose content the input ends before.
use Rattle.std.proofs.Common.{◌≡◌, ◌≢◌, inl, inr, ℕ, true, false, List, [], ◌++◌, Option, Some, None, refl, sym, ap, ap₂, ◌∙◌, subst, append-nil}
use Rattle.tow_model.specs.declared.content.Content.{Content}
use Rattle.tow_model.specs.declared.content.Content.TheVariants.{Whole}
use Rattle.tow_message.specs.Contents.{IsShort}
use Rattle.tow_message.specs.Stream.{IsWhole}
use Rattle.tow_semantics.specs.Runs.{Ending, for_verdict}
use Rattle.tow_wire.specs.Wire.{answer_to, invitation_to, text_of}
use Rattle.tow_exchange.specs.Exchanges.{ExchangeData}
use Rattle.tow_exchange.specs.declared.phase.Phase.TheVariants.{AwaitsContent, Stopped}
use Rattle.tow_closing.specs.Closings.{ClosingData}
use Rattle.tow_progress.specs.Progress.{Progress, Origin}
use Rattle.tow_progress.specs.Accounts.{Tally}
use Rattle.tow_progress.proofs.Opens.{with_outcome}
use Rattle.tow_course.specs.Course.{Course, Agrees}
use Rattle.tow_course.proofs.Breaking.{course_breaks}
use Rattle.tow_states.specs.Known.{Setting, run_in, exchange_of, HasExchange, Shows}
use Rattle.tow_states.specs.Sending.{IsSending}
use Rattle.tow_states.specs.Closing.{IsClosing, IsWorkOf, MayEnd, Runs, to_end, to_last, to_next}
use Rattle.tow_states.specs.Completing.{IsDry, answer_closes, ContentIsShort, ExchangeCompletes}
use Rattle.tow_states.proofs.Knowing.{known_of, opens_with}
use Rattle.tow_states.proofs.Gathers.{waiting_of, waits_so}
use Rattle.tow_states.proofs.Answers.{is_decided_so, leaves_none}
use Rattle.tow_states.proofs.Works.{closes_so, is_all, open_may_end, settles, stopped_may_end, work_begins}

-- all of the input was taken
dry_behind : (c : Progress) (took : List ℕ) → IsDry c → took ++ (c.piped_in ++ c.left) ≡ took
dry_behind c took dry =
    ap₂ (λ (piped left : List ℕ). took ++ (piped ++ left)) dry.piped dry.left ∙ append-nil took

module _ (s : Setting) (o : Origin) (c : Progress) (t : Tally) (e : ExchangeData) (n : Course) (took : List ℕ)
    (is : IsSending s o c t e n took []) (d : ClosingData) (work : IsWorkOf s.tree e d) where
  abbrev has : HasExchange s c t e n took
  has = is.exchange

  abbrev behind : List ℕ
  behind = took ++ (c.piped_in ++ c.left)

  -- all of its text was put, with each content that agrees
  all_put : (content : Option Content) → Agrees n.content content
      → c.put ≡ text_of (run_in s) c.number (exchange_of s c e.request content)
  all_put content agrees =
      sym (append-nil c.put) ∙ is.put ∙ sym (settles s c t e n took has is.phase content agrees).text

  runs : Runs s c t e n d None
  runs = work_begins s c t e n d has.moment has.calls has.lines has.inside work

  may_end : (content : Option Content) → Agrees n.content content → Shows e.request.framing took content
      → MayEnd s c e.request e.stand.state n content
  may_end content agrees shows =
      stopped_may_end s c t e n took has is.phase content agrees (opens_with s c t e n took has content shows)
      ([], sym (all_put content agrees) ∙ sym (append-nil c.put))

  goes_on_step : answer_closes c e n ≡ false → (bytes : List ℕ) → Shows e.request.framing took (Some (Whole bytes))
      → Agrees n.content (Some (Whole bytes)) → IsClosing s o c t e n d None (to_next bytes)
  goes_on_step keeps bytes shows agrees =
      let content : Option Content = Some (Whole bytes) in
      record {
        stands = is.stands;
        may_end = may_end content agrees shows;
        runs = runs;
        leads = (
          record {
            behind = behind;
            request = has.request;
            content = record { text = took; is_content = shows; joined = refl };
            decided = is_decided_so s c t e n took has is.phase content agrees;
            used_up = leaves_none s c t e n took has is.phase content agrees;
            goes_on = closes_so s c t e n took has is.phase content agrees false keeps;
            all_put = all_put content agrees;
          },
          is_all s c t e n took has is.phase content agrees,
        );
      }

  -- the content was not given
  agrees_unknown : n.content ≡ None → (content : Option Content) → Agrees n.content content
  agrees_unknown none content = subst (λ (was : Option Content). Agrees was content) (sym none) tt

  closes_early_step : answer_closes c e n ≡ true → n.content ≡ None → IsClosing s o c t e n d None to_end
  closes_early_step closes none =
      let agrees = agrees_unknown none None in
      record {
        stands = is.stands;
        may_end = may_end None agrees tt;
        runs = runs;
        leads = (
          record {
            opens = opens_with s c t e n took has None tt;
            decided = is_decided_so s c t e n took has is.phase None agrees;
            closes = closes_so s c t e n took has is.phase None agrees true closes;
            all_put = all_put None agrees;
          },
          is_all s c t e n took has is.phase None agrees,
        );
      }

  closes_late_step : answer_closes c e n ≡ true → (content : Content) → n.content ≡ Some content
      → IsClosing s o c t e n d None (to_last (Some content))
  closes_late_step closes content given =
      let agrees : Agrees n.content (Some content) = subst (λ (was : Option Content). Agrees was (Some content)) (sym given) refl in
      let shows : Shows e.request.framing took (Some content) = subst (Shows e.request.framing took) given has.content in
      record {
        stands = is.stands;
        may_end = may_end (Some content) agrees shows;
        runs = runs;
        leads = (
          record {
            behind = behind;
            request = has.request;
            given = known_of e.request.framing took (c.piped_in ++ c.left) (Some content) shows;
            ends = inl (closes_so s c t e n took has is.phase (Some content) agrees true closes);
            all_put = all_put (Some content) agrees;
          },
          is_all s c t e n took has is.phase (Some content) agrees,
        );
      }

  drops_refused_step : n.content ≡ None → (content : Content) → Shows e.request.framing took (Some content)
      → ¬ (IsWhole (Some content)) → IsClosing s o c t e n d None (to_last (Some content))
  drops_refused_step none content shows not_whole =
      let agrees = agrees_unknown none (Some content) in
      record {
        stands = is.stands;
        may_end = may_end (Some content) agrees shows;
        runs = runs;
        leads = (
          record {
            behind = behind;
            request = has.request;
            given = known_of e.request.framing took (c.piped_in ++ c.left) (Some content) shows;
            ends = inr not_whole;
            all_put = all_put (Some content) agrees;
          },
          is_all s c t e n took has is.phase (Some content) agrees,
        );
      }

  drops_short_step : n.content ≡ None → IsDry c → IsShort e.request.framing took → IsClosing s o c t e n d None (to_last None)
  drops_short_step none dry short =
      let agrees = agrees_unknown none None in
      record {
        stands = is.stands;
        may_end = may_end None agrees tt;
        runs = runs;
        leads = (
          record {
            behind = behind;
            request = has.request;
            given = subst (IsShort e.request.framing) (sym (dry_behind c took dry)) short;
            ends = inr (λ whole. whole);
            all_put = all_put None agrees;
          },
          is_all s c t e n took has is.phase None agrees,
        );
      }

pub exchange_completes : ExchangeCompletes
exchange_completes s o c t e n took is d work = record {
  goes_on = goes_on_step s o c t e n took is d work;
  closes_early = closes_early_step s o c t e n took is d work;
  closes_late = closes_late_step s o c t e n took is d work;
  drops_refused = drops_refused_step s o c t e n took is d work;
  drops_short = drops_short_step s o c t e n took is d work;
}

-- ---- a content that does not come

-- an exchange that waits for its content has not stopped
pub not_stopped : (e : ExchangeData) → e.phase ≡ AwaitsContent → e.phase ≢ Stopped
not_stopped e waits stopped = (let wrong : AwaitsContent ≡ Stopped = sym waits ∙ stopped in absurd cc)

pub content_is_short : ContentIsShort
content_is_short s o c t e n took is dry short d work =
    let has = is.exchange in
    let met = exchange_of s c e.request None in
    let waits = waits_so s c t e n took has is.phase is.none in
    let text : text_of (run_in s) c.number met ≡ invitation_to met =
    ap (λ (x : Ending). invitation_to met ++ answer_to (run_in s) c.number (with_outcome c.request e.request None x)) waits
    ∙ append-nil (invitation_to met) in
    let heard : met.outcome.waits ≡ (waiting_of e n).waits = ap (λ (x : Ending). x.waits) waits in
    record {
      stands = is.stands;
      may_end = open_may_end s c t e n took has is.none e.stand.state
          ((course_breaks s.tree s.files e n has.course).here (not_stopped e is.phase))
          ([], sym is.put ∙ sym (append-nil c.put));
      runs = work_begins s c t e n d has.moment has.calls has.lines has.inside work;
      leads = (
        record {
          behind = took ++ (c.piped_in ++ c.left);
          request = has.request;
          given = subst (IsShort e.request.framing) (sym (dry_behind c took dry)) short;
          ends = inr (λ whole. whole);
          all_put = is.put ∙ sym text;
        },
        record {
          state = ap (λ (x : Ending). x.state) waits;
          entries = ap (λ (x : Ending). x.entries) waits;
          heard = λ verdict. (let wrong : (waiting_of e n).waits ≡ Some for_verdict = sym heard ∙ verdict in absurd cc);
        },
      );
    }
