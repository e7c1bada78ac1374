-- An exchange comes to wait for its content, which is taken from the pipe.
use Rattle.std.proofs.Common.{◌≡◌, ℕ, Bool, true, false, ◌&&◌, List, [], ◌++◌, Option, None, if◌then◌else◌, refl, sym, ap, ◌∙◌, subst, append-nil}
use Rattle.tow_model.specs.declared.request.Request.{Request}
use Rattle.tow_model.specs.declared.content.Content.{Content}
use Rattle.tow_semantics.specs.Runs.{Ending, Walked, for_content}
use Rattle.tow_semantics.specs.Outcome.{undecided}
use Rattle.tow_wire.specs.Answers.{continue_text, is_invited}
use Rattle.tow_wire.specs.Wire.{invitation_to}
use Rattle.tow_exchange.specs.Exchanges.{ExchangeData}
use Rattle.tow_exchange.specs.declared.phase.Phase.TheVariants.{AwaitsContent}
use Rattle.tow_progress.specs.Progress.{Progress, Origin}
use Rattle.tow_progress.specs.Steps.{taken, with_piece}
use Rattle.tow_progress.specs.Accounts.{Tally}
use Rattle.tow_course.specs.Course.{Course, notes_of}
use Rattle.tow_course.proofs.Coursing.{course_waits_for_content}
use Rattle.tow_states.specs.Known.{Setting, HasExchange, Shows, exchange_of}
use Rattle.tow_states.specs.Walking.{IsWalking}
use Rattle.tow_states.specs.Gathering.{IsGathering, is_to_be_told, WalkComesToContent, ContentIsTaken}
use Rattle.tow_states.proofs.Knowing.{steps_keep, stands_on, opens_with, course_is_met, request_taken}

-- how an exchange stands that waits for its content
abbrev pub waiting_of : ExchangeData → Course → Ending
waiting_of e n = (undecided for_content e.stand (record (notes_of n []) { asked = true })).outcome

pub waits_so : (s : Setting) (c : Progress) (t : Tally) (e : ExchangeData) (n : Course) (took : List ℕ) → HasExchange s c t e n took
    → e.phase ≡ AwaitsContent → n.content ≡ None → (exchange_of s c e.request None).outcome ≡ waiting_of e n
waits_so s c t e n took has waits none =
    course_is_met s c t e n took has None
    ∙ ap (λ (w : Walked). w.outcome) (course_waits_for_content s.tree s.files e n waits none has.course [])

-- one that has asked is invited if it is to be told
told_if : (b x : Bool) → ((b && true) && x) ≡ (b && x)
told_if true x = refl
told_if false x = refl

pub invited_if : (q : Request) (o : Ending) → o.asked ≡ true → is_invited q o ≡ is_to_be_told q
invited_if q o asked =
    ap (λ (b : Bool). is_invited q (record o { asked = b })) asked ∙ told_if q.expects _

module _ (s : Setting) (o : Origin) (c : Progress) (t : Tally) (e : ExchangeData) (n : Course) (is : IsWalking s o c t e n)
    (waits : e.phase ≡ AwaitsContent) where
  told : is_invited e.request (exchange_of s c e.request None).outcome ≡ is_to_be_told e.request
  told =
      ap (is_invited e.request) (waits_so s c t e n [] is.exchange waits is.none) ∙ invited_if e.request (waiting_of e n) refl

  invitation : (b : Bool) → is_to_be_told e.request ≡ b → invitation_to (exchange_of s c e.request None) ≡ (if b then continue_text else [])
  invitation b told_so = ap (λ (x : Bool). if x then continue_text else []) (told ∙ told_so)

  begins_at_once : is_to_be_told e.request ≡ false → IsGathering s o c t e n []
  begins_at_once not = record {
    stands = is.stands;
    exchange = is.exchange;
    phase = waits;
    none = is.none;
    put = is.put ∙ sym (invitation false not);
  }

  begins_invited : is_to_be_told e.request ≡ true → IsGathering s o (with_piece continue_text c) t e n []
  begins_invited invited =
      let put : c.put ++ continue_text ≡ continue_text = ap (λ (l : List ℕ). l ++ continue_text) is.put in
      record {
        stands = stands_on s o c (with_piece continue_text c) t is.stands
            ((steps_keep s o c t is.stands).invites e.request continue_text (opens_with s c t e n [] is.exchange None tt)
            (told ∙ invited) ([], sym put ∙ sym (append-nil (c.put ++ continue_text))))
            refl refl refl;
        exchange = record {
          connection = is.exchange.connection;
          number = is.exchange.number;
          moment = is.exchange.moment;
          request = is.exchange.request;
          content = is.exchange.content;
          course = is.exchange.course;
          verdicts = is.exchange.verdicts;
          calls = is.exchange.calls;
          lines = is.exchange.lines;
          inside = is.exchange.inside;
        };
        phase = waits;
        none = is.none;
        put = put ∙ sym (invitation true invited);
      }

pub walk_comes_to_content : WalkComesToContent
walk_comes_to_content s o c t e n is waits = record {
  at_once = begins_at_once s o c t e n is waits;
  invited = begins_invited s o c t e n is waits;
}

-- more of the content was taken, of which nothing was known yet
pub has_taken : (s : Setting) (c : Progress) (t : Tally) (e : ExchangeData) (n : Course) (took : List ℕ) → HasExchange s c t e n took
    → n.content ≡ None → (bytes piped : List ℕ) → c.piped_in ≡ bytes ++ piped → HasExchange s (taken bytes piped c) t e n (took ++ bytes)
has_taken s c t e n took has none bytes piped cut = record {
  connection = has.connection;
  number = has.number;
  moment = has.moment;
  request = request_taken s c t e n took has bytes piped cut;
  content = subst (λ (x : Option Content). Shows e.request.framing (took ++ bytes) x) (sym none) tt;
  course = has.course;
  verdicts = has.verdicts;
  calls = has.calls;
  lines = has.lines;
  inside = has.inside;
}

pub content_is_taken : ContentIsTaken
content_is_taken s o c t e n took is bytes piped cut = record {
  stands = stands_on s o c (taken bytes piped c) t is.stands ((steps_keep s o c t is.stands).takes bytes piped cut) refl refl refl;
  exchange = has_taken s c t e n took is.exchange is.none bytes piped cut;
  phase = is.phase;
  none = is.none;
  put = is.put;
}
