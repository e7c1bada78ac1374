-- The link is read and written, and each state stays.
use Rattle.std.proofs.Common.{◌≡◌, ℕ, List, [], ◌++◌, refl, sym, ap, ◌∙◌, subst, append_assoc}
use Rattle.tow_message.specs.Stream.{HasRequest}
use Rattle.tow_exchange.specs.Exchanges.{ExchangeData}
use Rattle.tow_progress.specs.Progress.{Progress, Origin}
use Rattle.tow_progress.specs.Steps.{read_in, written_out}
use Rattle.tow_progress.specs.Whole.{LastThing, an_end, a_refusal, a_closing, a_request, IsAtEnd}
use Rattle.tow_progress.specs.Accounts.{Tally, LastIsAccounted}
use Rattle.tow_course.specs.Course.{Course}
use Rattle.tow_states.specs.Known.{Setting, run_in, Stands, HasExchange}
use Rattle.tow_states.specs.Moving.{MovesKeep, StatesMove}
use Rattle.tow_states.proofs.Knowing.{steps_keep, stands_on}

module _ (s : Setting) (o : Origin) (c : Progress) (t : Tally) where
  stands_read : Stands s o c t → (bytes left : List ℕ) → c.left ≡ bytes ++ left → Stands s o (read_in bytes left c) t
  stands_read is bytes left cut =
      stands_on s o c (read_in bytes left c) t is ((steps_keep s o c t is).reads bytes left cut) refl refl refl

  stands_written : Stands s o c t → (bytes piped : List ℕ) → c.piped_out ≡ bytes ++ piped → Stands s o (written_out bytes piped c) t
  stands_written is bytes piped cut =
      stands_on s o c (written_out bytes piped c) t is ((steps_keep s o c t is).writes bytes piped cut) refl refl refl

  has_read : (e : ExchangeData) (n : Course) (took : List ℕ) → HasExchange s c t e n took
      → (bytes left : List ℕ) → c.left ≡ bytes ++ left → HasExchange s (read_in bytes left c) t e n took
  has_read e n took has bytes left cut =
      let same : c.piped_in ++ c.left ≡ (c.piped_in ++ bytes) ++ left =
      ap (λ (l : List ℕ). c.piped_in ++ l) cut ∙ sym (append_assoc c.piped_in bytes left) in
      record {
        connection = has.connection;
        number = has.number;
        moment = has.moment;
        request = subst (λ (l : List ℕ). HasRequest c.peer (c.current ++ l) e.request (took ++ l)) same has.request;
        content = has.content;
        course = has.course;
        verdicts = has.verdicts;
        calls = has.calls;
        lines = has.lines;
        inside = has.inside;
      }

  has_written : (e : ExchangeData) (n : Course) (took : List ℕ) → HasExchange s c t e n took
      → (bytes piped : List ℕ) → HasExchange s (written_out bytes piped c) t e n took
  has_written e n took has bytes piped = record {
    connection = has.connection;
    number = has.number;
    moment = has.moment;
    request = has.request;
    content = has.content;
    course = has.course;
    verdicts = has.verdicts;
    calls = has.calls;
    lines = has.lines;
    inside = has.inside;
  }

  at_end_written : (thing : LastThing) (bytes piped : List ℕ) → IsAtEnd (run_in s) c thing → IsAtEnd (run_in s) (written_out bytes piped c) thing
  at_end_written an_end bytes piped is = is
  at_end_written (a_refusal status) bytes piped is = is
  at_end_written (a_closing q) bytes piped is = record {
    opens = record { behind = is.opens.behind; request = is.opens.request; known = is.opens.known };
    decided = is.decided;
    closes = is.closes;
    all_put = is.all_put;
  }
  at_end_written (a_request q content) bytes piped is =
      record { behind = is.behind; request = is.request; given = is.given; ends = is.ends; all_put = is.all_put }

  accounted_written : (thing : LastThing) (bytes piped : List ℕ) → LastIsAccounted s.tree (run_in s) c t thing
      → LastIsAccounted s.tree (run_in s) (written_out bytes piped c) t thing
  accounted_written an_end bytes piped is = is
  accounted_written (a_refusal status) bytes piped is = is
  accounted_written (a_closing q) bytes piped is = record { calls = is.calls; lines = is.lines; released = is.released }
  accounted_written (a_request q content) bytes piped is =
      (record { calls = is.0.calls; lines = is.0.lines; released = is.0.released }, is.1)

  moves_keep : MovesKeep s o c t
  moves_keep = record {
    reading = λ is. record {
      reads = λ bytes left cut. record {
        stands = stands_read is.stands bytes left cut;
        current = is.current;
        put = is.put;
        own = is.own;
        calls = is.calls;
        lines = is.lines;
        inside = is.inside;
      };
      writes = λ bytes piped cut. record {
        stands = stands_written is.stands bytes piped cut;
        current = is.current;
        put = is.put;
        own = is.own;
        calls = is.calls;
        lines = is.lines;
        inside = is.inside;
      };
    };
    refusing = λ status to_put is bytes piped cut. record {
      stands = stands_written is.stands bytes piped cut;
      head = is.head;
      put = is.put;
      calls = is.calls;
      lines = is.lines;
      inside = is.inside;
    };
    walking = λ e n is. record {
      reads = λ bytes left cut. record {
        stands = stands_read is.stands bytes left cut;
        exchange = has_read e n [] is.exchange bytes left cut;
        none = is.none;
        unasked = is.unasked;
        put = is.put;
      };
      writes = λ bytes piped cut. record {
        stands = stands_written is.stands bytes piped cut;
        exchange = has_written e n [] is.exchange bytes piped;
        none = is.none;
        unasked = is.unasked;
        put = is.put;
      };
    };
    gathering = λ e n took is. record {
      reads = λ bytes left cut. record {
        stands = stands_read is.stands bytes left cut;
        exchange = has_read e n took is.exchange bytes left cut;
        phase = is.phase;
        none = is.none;
        put = is.put;
      };
      writes = λ bytes piped cut. record {
        stands = stands_written is.stands bytes piped cut;
        exchange = has_written e n took is.exchange bytes piped;
        phase = is.phase;
        none = is.none;
        put = is.put;
      };
    };
    sending = λ e n took to_put is. record {
      reads = λ bytes left cut. record {
        stands = stands_read is.stands bytes left cut;
        exchange = has_read e n took is.exchange bytes left cut;
        phase = is.phase;
        put = is.put;
      };
      writes = λ bytes piped cut. record {
        stands = stands_written is.stands bytes piped cut;
        exchange = has_written e n took is.exchange bytes piped;
        phase = is.phase;
        put = is.put;
      };
    };
    last = λ thing is bytes piped cut. record {
      stands = stands_written is.stands bytes piped cut;
      at_end = at_end_written thing bytes piped is.at_end;
      accounted = accounted_written thing bytes piped is.accounted;
      none_inside = is.none_inside;
    };
  }

pub states_move : StatesMove
states_move s o c t = moves_keep s o c t
