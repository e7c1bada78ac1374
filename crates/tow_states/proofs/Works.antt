-- How the closing work of an exchange begins, and when the connection may end.
use Rattle.std.proofs.Common.{◌≡◌, inl, inr, ℕ, ◌+◌, ◌≤◌, Bool, not, List, [], ◌++◌, filter_map, length, map, reverse, count_by, Option, Some, None, IsTrue, refl, sym, ap, ap₂, ◌∙◌, subst, append-nil, length-append, arith}
use Rattle.tow_model.specs.declared.attribute.Piece.{Piece}
use Rattle.tow_model.specs.declared.request.Request.{Request}
use Rattle.tow_model.specs.declared.record.Record.{Record}
use Rattle.tow_model.specs.declared.record.Listener.{Listener}
use Rattle.tow_model.specs.declared.account.Call.{Call}
use Rattle.tow_model.specs.declared.account.Line.{Line}
use Rattle.tow_model.specs.declared.content.Content.{Content}
use Rattle.tow_model.specs.Lists.{IsPrefix}
use Rattle.tow_semantics.specs.Listeners.{entering, formats_of, leaving, line_by}
use Rattle.tow_semantics.specs.Runs.{Ending, for_verdict, is_decided}
use Rattle.tow_wire.specs.Wire.{Met, answer_to, goes_on, invitation_to, text_of}
use Rattle.tow_exchange.specs.Exchanges.{ExchangeData}
use Rattle.tow_exchange.specs.declared.phase.Phase.TheVariants.{Stopped}
use Rattle.tow_program.proofs.Acting.{formats_are_tree}
use Rattle.tow_closing.specs.Closings.{ClosingData, line_told}
use Rattle.tow_progress.specs.Progress.{Progress}
use Rattle.tow_progress.specs.Steps.{IsOpen, Settles}
use Rattle.tow_progress.specs.Ended.{IsDecidedAs, admits, leaves}
use Rattle.tow_progress.specs.Accounts.{Tally}
use Rattle.tow_progress.proofs.Opens.{answers_settle, front_of_front, not_waiting, with_outcome}
use Rattle.tow_course.specs.Course.{Course, Agrees, outcome_with}
use Rattle.tow_course.specs.Breaks.{IsBroken}
use Rattle.tow_states.specs.Leaving.{IsInside}
use Rattle.tow_states.specs.Known.{Setting, run_in, moment_of, exchange_of, HasExchange}
use Rattle.tow_states.specs.Closing.{IsAll, IsWorkOf, MayEnd, Runs}
use Rattle.tow_states.specs.Completing.{answer_closes}
use Rattle.tow_states.proofs.Leavings.{request_stays_inside}
use Rattle.tow_states.proofs.Knowing.{course_is_met, grows, opens_with}
use Rattle.tow_states.proofs.Answers.{agrees_with_itself, ends_so, is_decided_so}

-- ---- the closing work

-- all listeners are to run, with the lines that they tell
pub work_begins : (s : Setting) (c : Progress) (t : Tally) (e : ExchangeData) (n : Course) (d : ClosingData)
    → e.moment ≡ moment_of s c → t.made ≡ map (entering c.request) n.entries → t.owed ≡ []
    → IsInside c.request e t.calls → IsWorkOf s.tree e d → Runs s c t e n d None
work_begins s c t e n d moment made owed inside work =
    record {
      calls = ap₂ (λ (m : List Call) (l : List Listener). m ++ filter_map (leaving c.request) l) made work.left;
      told = ap₂
          (λ (m : List Line) (l : List Listener). m ++ filter_map (line_by s.tree c.number c.request e.request e.stand.state (moment_of s c)) l)
          owed work.left;
      inside = (request_stays_inside c.request t.calls).completes e d work.left inside;
      texts = λ kept.
          work.texts kept
          ∙ ap₂ (λ (f : List (List Piece)) (m : ℕ). filter_map (line_told f e.request e.stand.state m) (reverse e.stand.state.listeners))
          (formats_are_tree s.tree) moment
          ∙ ap (filter_map (line_told (formats_of s.tree) e.request e.stand.state (moment_of s c))) (sym work.left);
      none = work.none;
    }

-- ---- an exchange that has stopped may end

-- with a content that comes later, its answer is the same
settles_by : (s : Setting) (c : Progress) (q : Request) (was content : Option Content)
    → IsTrue (is_decided (exchange_of s c q was).outcome) → Agrees was content
    → Settles (run_in s) c.number (exchange_of s c q was) (exchange_of s c q content)
settles_by s c q None content decided agrees = answers_settle (run_in s) (grows s) c.number c.request q content c.own decided
settles_by s c q (Some x) content decided agrees =
    subst (λ (g : Option Content). Settles (run_in s) c.number (exchange_of s c q (Some x)) (exchange_of s c q g)) (sym agrees)
    (record { decided = decided; outcome = refl; text = refl; on = refl })

module _ (s : Setting) (c : Progress) (t : Tally) (e : ExchangeData) (n : Course) (took : List ℕ) (has : HasExchange s c t e n took)
    (stopped : e.phase ≡ Stopped) where
  goes_so : (b : Bool) → answer_closes c e n ≡ b → goes_on (exchange_of s c e.request n.content) ≡ not b
  goes_so b closes =
      ap (λ (o : Ending). goes_on (with_outcome c.request e.request n.content o))
      (ends_so s c t e n took has stopped n.content (agrees_with_itself n.content))
      ∙ ap not closes

  module _ (content : Option Content) (agrees : Agrees n.content content) where
    abbrev met : Met
    met = exchange_of s c e.request content

    pub settles : Settles (run_in s) c.number (exchange_of s c e.request n.content) met
    settles =
        settles_by s c e.request n.content content
        (is_decided_so s c t e n took has stopped n.content (agrees_with_itself n.content)) agrees

    pub closes_so : (b : Bool) → answer_closes c e n ≡ b → goes_on met ≡ not b
    closes_so b closes = settles.on ∙ goes_so b closes

    decided_so : IsDecidedAs met e.stand.state
    decided_so = (
      is_decided_so s c t e n took has stopped content agrees,
      sym (ap (λ (o : Ending). o.state) (ends_so s c t e n took has stopped content agrees)),
    )

    pub is_all : IsAll e n met.outcome
    is_all =
        let ends = ends_so s c t e n took has stopped content agrees in
        record {
          state = ap (λ (o : Ending). o.state) ends;
          entries = ap (λ (o : Ending). o.entries) ends;
          heard = not_waiting met.outcome.waits for_verdict decided_so.0;
        }

    pub stopped_may_end : IsOpen c e.request content → IsPrefix c.put (text_of (run_in s) c.number met)
        → MayEnd s c e.request e.stand.state n content
    stopped_may_end opens put =
        let free : (limit : ℕ) → count_by (admits limit) n.entries ≤ count_by (leaves limit) e.stand.state.listeners =
        λ limit. (let same = has.course.inside limit in omega (arith, same)) in
        record {
          opens = opens;
          put = put;
          ends = inl decided_so;
          decided = λ more. decided_so;
          added = ([], ap (λ (x : Record). x.listeners) is_all.state ∙ sym (append-nil e.stand.state.listeners));
          entered = ([], is_all.entries ∙ sym (append-nil n.entries));
          freed = free;
        }

-- ---- an exchange that has not stopped may end

-- its record is x then
pub open_may_end : (s : Setting) (c : Progress) (t : Tally) (e : ExchangeData) (n : Course) (took : List ℕ) → HasExchange s c t e n took
    → n.content ≡ None → (x : Record) → IsBroken s.tree s.files e n x
    → IsPrefix c.put (invitation_to (exchange_of s c e.request None)) → MayEnd s c e.request x n None
open_may_end s c t e n took has none x broken put =
    let met = exchange_of s c e.request None in
    let agrees : Agrees n.content None = subst (λ (was : Option Content). Agrees was None) (sym none) tt in
    let front = broken.front None agrees [] in
    let same : met.outcome ≡ (outcome_with s.tree s.files e n None []).outcome = course_is_met s c t e n took has None in
    let few : length (invitation_to met) ≡ length c.put + length put.0 = ap length put.1 ∙ length-append c.put put.0 in
    let free : (limit : ℕ) → count_by (admits limit) n.entries ≤ count_by (leaves limit) x.listeners =
    λ limit. (let equal = broken.inside limit in omega (arith, equal)) in
    record {
      opens = opens_with s c t e n took has None tt;
      put = front_of_front c.put (invitation_to met) (text_of (run_in s) c.number met) put (answer_to (run_in s) c.number met, refl);
      ends = inr broken.choice;
      decided = λ more. absurd (omega (arith, few, more));
      added = subst (λ (o : Ending). IsPrefix x.listeners o.state.listeners) (sym same) front.listeners;
      entered = subst (λ (o : Ending). IsPrefix n.entries o.entries) (sym same) front.entries;
      freed = free;
    }
