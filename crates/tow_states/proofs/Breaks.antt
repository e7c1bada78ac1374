-- In each state the connection may be cut.
use Rattle.std.proofs.Common.{◌≡◌, ◌≢◌, inl, inr, ℕ, List, [], ◌++◌, None, sym, ap, ◌∙◌, subst, append-nil}
use Rattle.tow_model.specs.declared.request.Request.{Request}
use Rattle.tow_model.specs.declared.request.Field.{Field}
use Rattle.tow_model.specs.declared.record.Record.{Record}
use Rattle.tow_model.specs.Lists.{IsPrefix}
use Rattle.tow_wire.specs.Wire.{invitation_to}
use Rattle.tow_exchange.specs.Exchanges.{ExchangeData, with_fields}
use Rattle.tow_exchange.specs.declared.phase.Phase.TheVariants.{Stopped}
use Rattle.tow_closing.specs.Closings.{ClosingData}
use Rattle.tow_progress.specs.Progress.{Progress, Origin}
use Rattle.tow_progress.specs.Accounts.{Tally}
use Rattle.tow_course.specs.Course.{Course}
use Rattle.tow_course.specs.Breaks.{IsBroken}
use Rattle.tow_course.proofs.Breaking.{course_breaks}
use Rattle.tow_states.specs.Known.{Setting, exchange_of}
use Rattle.tow_states.specs.Walking.{IsWalking}
use Rattle.tow_states.specs.Gathering.{IsGathering}
use Rattle.tow_states.specs.Sending.{IsSending}
use Rattle.tow_states.specs.Closing.{IsClosing, IsWorkOf, MayEnd, cut_off}
use Rattle.tow_states.specs.Breaking.{HaltsIn, StatesBreak}
use Rattle.tow_states.proofs.Leavings.{request_stays_inside}
use Rattle.tow_states.proofs.Knowing.{opens_with}
use Rattle.tow_states.proofs.Answers.{agrees_with_itself}
use Rattle.tow_states.proofs.Works.{open_may_end, stopped_may_end, work_begins}
use Rattle.tow_states.proofs.Completions.{not_stopped}

-- nothing was put
front_of_all : (put whole : List ℕ) → put ≡ [] → IsPrefix put whole
front_of_all put whole none = (whole, ap (λ (l : List ℕ). l ++ whole) (sym none))

module _ (s : Setting) (o : Origin) (c : Progress) (t : Tally) where
  module _ (e : ExchangeData) (n : Course) (is : IsWalking s o c t e n) where
    walk_may_end : (x : Record) → IsBroken s.tree s.files e n x → MayEnd s c e.request x n None
    walk_may_end x broken =
        open_may_end s c t e n [] is.exchange is.none x broken
        (front_of_all c.put (invitation_to (exchange_of s c e.request None)) is.put)

    break_walk : e.phase ≢ Stopped → (d : ClosingData) → IsWorkOf s.tree e d → IsClosing s o c t e n d None (cut_off None)
    break_walk live d work =
        let has = is.exchange in
        record {
          stands = is.stands;
          may_end = walk_may_end e.stand.state ((course_breaks s.tree s.files e n has.course).here live);
          runs = work_begins s c t e n d has.moment has.calls has.lines has.inside work;
          leads = tt;
        }

    break_halted : (new : ExchangeData) → HaltsIn s e new → (d : ClosingData) → IsWorkOf s.tree new d
        → IsClosing s o c t new n d None (cut_off None)
    break_halted new halts d work =
        let has = is.exchange in
        let broken = (course_breaks s.tree s.files e n has.course).there new halts.under_way halts.live halts.adds halts.unchosen in
        record {
          stands = is.stands;
          may_end = subst (λ (q : Request). MayEnd s c q new.stand.state n None) (sym halts.request)
              (walk_may_end new.stand.state broken);
          runs = work_begins s c t new n d (halts.moment ∙ has.moment) has.calls has.lines
              ((request_stays_inside c.request t.calls).adds e new halts.adds has.inside) work;
          leads = tt;
        }

    break_page : (fields : List Field) → e.phase ≢ Stopped → (d : ClosingData) → IsWorkOf s.tree (with_fields fields e) d
        → IsClosing s o c t (with_fields fields e) n d None (cut_off None)
    break_page fields live d work =
        let has = is.exchange in
        let here = (course_breaks s.tree s.files e n has.course).here live in
        let new = with_fields fields e in
        record {
          stands = is.stands;
          may_end = walk_may_end new.stand.state (record {
            front = λ content agrees more.
                let f = here.front content agrees more in record { listeners = f.listeners; entries = f.entries };
            choice = here.choice;
            inside = here.inside;
          });
          runs = work_begins s c t new n d has.moment has.calls has.lines has.inside work;
          leads = tt;
        }

  break_gathering : (e : ExchangeData) (n : Course) (took : List ℕ) → IsGathering s o c t e n took
      → (d : ClosingData) → IsWorkOf s.tree e d → IsClosing s o c t e n d None (cut_off None)
  break_gathering e n took is d work =
      let has = is.exchange in
      record {
        stands = is.stands;
        may_end = open_may_end s c t e n took has is.none e.stand.state
            ((course_breaks s.tree s.files e n has.course).here (not_stopped e is.phase))
            ([], sym is.put ∙ sym (append-nil c.put));
        runs = work_begins s c t e n d has.moment has.calls has.lines has.inside work;
        leads = tt;
      }

  break_sending : (e : ExchangeData) (n : Course) (took to_put : List ℕ) → IsSending s o c t e n took to_put
      → (d : ClosingData) → IsWorkOf s.tree e d → IsClosing s o c t e n d None (cut_off n.content)
  break_sending e n took to_put is d work =
      let has = is.exchange in
      record {
        stands = is.stands;
        may_end = stopped_may_end s c t e n took has is.phase n.content (agrees_with_itself n.content)
            (opens_with s c t e n took has n.content has.content) (to_put, sym is.put);
        runs = work_begins s c t e n d has.moment has.calls has.lines has.inside work;
        leads = tt;
      }

pub states_break : StatesBreak
states_break s o c t = record {
  reading = λ is. record {
    stands = is.stands;
    cut = record { put = inl is.put; calls = is.calls; lines = is.lines };
    none_inside = is.inside;
  };
  refusing = λ status to_put is. record {
    stands = is.stands;
    cut = record { put = inr (status, is.head); calls = is.calls; lines = is.lines };
    none_inside = is.inside;
  };
  walking = λ e n is live d work. break_walk s o c t e n is live d work;
  halted = λ e new n is halts d work. break_halted s o c t e n is new halts d work;
  no_page = λ e n fields is live d work. break_page s o c t e n is fields live d work;
  gathering = break_gathering s o c t;
  sending = break_sending s o c t;
}
