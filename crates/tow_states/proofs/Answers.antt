-- The answer of an exchange that has stopped, and how it is put.
use Rattle.std.proofs.Common.{◌≡◌, ℕ, Bool, true, false, ◌&&◌, List, [], ◌++◌, Option, Some, None, if◌then◌else◌, refl, sym, ap, ◌∙◌, append_assoc}
use Rattle.tow_model.specs.declared.content.Content.{Content}
use Rattle.tow_model.specs.declared.content.Content.TheVariants.{Whole, Bad, TooLong}
use Rattle.tow_semantics.specs.Runs.{Ending, Walked, is_decided}
use Rattle.tow_semantics.specs.Outcome.{decided}
use Rattle.tow_wire.specs.Answers.{continue_text, is_invited}
use Rattle.tow_wire.specs.Wire.{invitation_to, left_by, text_of}
use Rattle.tow_exchange.specs.Exchanges.{ExchangeData, content_given}
use Rattle.tow_exchange.specs.declared.phase.Phase.TheVariants.{Stopped}
use Rattle.tow_progress.specs.Progress.{Progress, Origin}
use Rattle.tow_progress.specs.Steps.{taken, with_piece}
use Rattle.tow_progress.specs.Accounts.{Tally}
use Rattle.tow_progress.proofs.Opens.{with_outcome}
use Rattle.tow_course.specs.Course.{Course, Agrees, notes_of, read_in}
use Rattle.tow_course.proofs.Coursing.{course_reads, course_stops}
use Rattle.tow_states.specs.Known.{Setting, run_in, HasExchange, Shows, exchange_of, moment_of}
use Rattle.tow_states.specs.Walking.{IsWalking}
use Rattle.tow_states.specs.Gathering.{IsGathering, is_to_be_told}
use Rattle.tow_states.specs.Sending.{IsSending, ending_of, answer_text, AnswerIsDecided, AnswerIsSent}
use Rattle.tow_states.proofs.Knowing.{steps_keep, stands_on, opens_with, walked_is}
use Rattle.tow_states.proofs.Gathers.{has_taken, invited_if, waiting_of, waits_so}

-- ---- an exchange that has stopped

module _ (s : Setting) (c : Progress) (t : Tally) (e : ExchangeData) (n : Course) (took : List ℕ) (has : HasExchange s c t e n took)
    (stopped : e.phase ≡ Stopped) (content : Option Content) (agrees : Agrees n.content content) where
  stops_so : (run_in s).outcome e.request (moment_of s c) content c.own ≡ decided e.stand (notes_of n [])
  stops_so =
      walked_is s c t e n took has content ∙ course_stops s.tree s.files e n stopped has.course content agrees []

  -- with each content that agrees, its outcome is how it has ended, and it leaves no verdict
  pub ends_so : (exchange_of s c e.request content).outcome ≡ ending_of e n
  ends_so = ap (λ (w : Walked). w.outcome) stops_so

  pub leaves_none : left_by (run_in s) c.number c.request e.request content c.own ≡ []
  leaves_none = ap (λ (w : Walked). w.left) stops_so

  pub is_decided_so : is_decided (exchange_of s c e.request content).outcome ≡ true
  is_decided_so = ap is_decided ends_so

pub agrees_with_itself : (content : Option Content) → Agrees content content
agrees_with_itself None = tt
agrees_with_itself (Some x) = refl

-- what is written for it
module _ (s : Setting) (c : Progress) (t : Tally) (e : ExchangeData) (n : Course) (took : List ℕ) (has : HasExchange s c t e n took)
    (stopped : e.phase ≡ Stopped) where
  writes_so : text_of (run_in s) c.number (exchange_of s c e.request n.content)
      ≡ (if is_invited e.request (ending_of e n) then continue_text else []) ++ answer_text s c e n
  writes_so =
      ap (λ (x : Ending). text_of (run_in s) c.number (with_outcome c.request e.request n.content x))
      (ends_so s c t e n took has stopped n.content (agrees_with_itself n.content))

-- ---- it is decided

-- one that has not asked is not invited
not_asked : (b x : Bool) → ((b && false) && x) ≡ false
not_asked true x = refl
not_asked false x = refl

uninvited : (e : ExchangeData) (n : Course) → n.asked ≡ false → is_invited e.request (ending_of e n) ≡ false
uninvited e n unasked =
    ap (λ (b : Bool). is_invited e.request (record (ending_of e n) { asked = b })) unasked ∙ not_asked e.request.expects _

stops_on_walk : (s : Setting) (o : Origin) (c : Progress) (t : Tally) (e : ExchangeData) (n : Course) → IsWalking s o c t e n
    → e.phase ≡ Stopped → IsSending s o c t e n [] (answer_text s c e n)
stops_on_walk s o c t e n is stopped = record {
  stands = is.stands;
  exchange = is.exchange;
  phase = stopped;
  put = ap (λ (l : List ℕ). l ++ answer_text s c e n) is.put
      ∙ sym (writes_so s c t e n [] is.exchange stopped
      ∙ ap (λ (b : Bool). (if b then continue_text else []) ++ answer_text s c e n) (uninvited e n is.unasked));
}

module _ (s : Setting) (o : Origin) (c : Progress) (t : Tally) (e : ExchangeData) (n : Course) (took : List ℕ)
    (is : IsGathering s o c t e n took) where
  -- the exchange is given its content
  has_content : (x : Content) → Shows e.request.framing took (Some x) → HasExchange s c t (content_given x e) (read_in x n) took
  has_content (Whole bytes) shows = record {
    connection = is.exchange.connection;
    number = is.exchange.number;
    moment = is.exchange.moment;
    request = is.exchange.request;
    content = shows;
    course = course_reads s.tree s.files e n (Whole bytes) is.phase is.none is.exchange.course;
    verdicts = is.exchange.verdicts;
    calls = is.exchange.calls;
    lines = is.exchange.lines;
    inside = is.exchange.inside;
  }
  has_content Bad shows = record {
    connection = is.exchange.connection;
    number = is.exchange.number;
    moment = is.exchange.moment;
    request = is.exchange.request;
    content = shows;
    course = course_reads s.tree s.files e n Bad is.phase is.none is.exchange.course;
    verdicts = is.exchange.verdicts;
    calls = is.exchange.calls;
    lines = is.exchange.lines;
    inside = is.exchange.inside;
  }
  has_content TooLong shows = record {
    connection = is.exchange.connection;
    number = is.exchange.number;
    moment = is.exchange.moment;
    request = is.exchange.request;
    content = shows;
    course = course_reads s.tree s.files e n TooLong is.phase is.none is.exchange.course;
    verdicts = is.exchange.verdicts;
    calls = is.exchange.calls;
    lines = is.exchange.lines;
    inside = is.exchange.inside;
  }

  -- it has stopped, with the same request
  stops_with : (x : Content) → (content_given x e).phase ≡ Stopped
  stops_with (Whole bytes) = refl
  stops_with Bad = refl
  stops_with TooLong = refl

  same_request : (x : Content) → (content_given x e).request ≡ e.request
  same_request (Whole bytes) = refl
  same_request Bad = refl
  same_request TooLong = refl

  -- what it was invited by was put
  was_invited : (x : Content) → invitation_to (exchange_of s c e.request None)
      ≡ (if is_invited (content_given x e).request (ending_of (content_given x e) (read_in x n)) then continue_text else [])
  was_invited x =
      let told = invited_if e.request (waiting_of e n) refl in
      let told_too = invited_if (content_given x e).request (ending_of (content_given x e) (read_in x n)) refl in
      ap (λ (y : Ending). if is_invited e.request y then continue_text else []) (waits_so s c t e n took is.exchange is.phase is.none)
      ∙ ap (λ (b : Bool). if b then continue_text else []) (told ∙ ap is_to_be_told (sym (same_request x)) ∙ sym told_too)

  stops_by : (x : Content) → Shows e.request.framing took (Some x)
      → IsSending s o c t (content_given x e) (read_in x n) took (answer_text s c (content_given x e) (read_in x n))
  stops_by x shows =
      let has = has_content x shows in
      record {
        stands = is.stands;
        exchange = has;
        phase = stops_with x;
        put = ap (λ (l : List ℕ). l ++ answer_text s c (content_given x e) (read_in x n)) (is.put ∙ was_invited x)
            ∙ sym (writes_so s c t (content_given x e) (read_in x n) took has (stops_with x));
      }

pub answer_is_decided : AnswerIsDecided
answer_is_decided = record {
  walked = stops_on_walk;
  gathered = stops_by;
}

-- ---- it is put

module _ (s : Setting) (o : Origin) (c : Progress) (t : Tally) (e : ExchangeData) (n : Course) (took to_put : List ℕ)
    (is : IsSending s o c t e n took to_put) where
  put_step : (piece rest : List ℕ) → to_put ≡ piece ++ rest → IsSending s o (with_piece piece c) t e n took rest
  put_step piece rest cut =
      let put : (c.put ++ piece) ++ rest ≡ text_of (run_in s) c.number (exchange_of s c e.request n.content) =
      append_assoc c.put piece rest ∙ ap (λ (l : List ℕ). c.put ++ l) (sym cut) ∙ is.put in
      record {
        stands = stands_on s o c (with_piece piece c) t is.stands
            ((steps_keep s o c t is.stands).answers e.request n.content piece (opens_with s c t e n took is.exchange n.content is.exchange.content)
            (is_decided_so s c t e n took is.exchange is.phase n.content (agrees_with_itself n.content)) (rest, sym put))
            refl refl refl;
        exchange = record {
          connection = is.exchange.connection;
          number = is.exchange.number;
          moment = is.exchange.moment;
          request = is.exchange.request;
          content = is.exchange.content;
          course = is.exchange.course;
          verdicts = is.exchange.verdicts;
          calls = is.exchange.calls;
          lines = is.exchange.lines;
          inside = is.exchange.inside;
        };
        phase = is.phase;
        put = put;
      }

  drop_step : n.content ≡ None → (bytes piped : List ℕ) → c.piped_in ≡ bytes ++ piped
      → IsSending s o (taken bytes piped c) t e n (took ++ bytes) to_put
  drop_step none bytes piped cut = record {
    stands = stands_on s o c (taken bytes piped c) t is.stands ((steps_keep s o c t is.stands).takes bytes piped cut) refl refl refl;
    exchange = has_taken s c t e n took is.exchange none bytes piped cut;
    phase = is.phase;
    put = is.put;
  }

pub answer_is_sent : AnswerIsSent
answer_is_sent s o c t e n took to_put is = record {
  puts = put_step s o c t e n took to_put is;
  drops = drop_step s o c t e n took to_put is;
}
