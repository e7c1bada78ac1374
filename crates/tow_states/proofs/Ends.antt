-- No listener is left: the next request is read, or the connection ends.
use Rattle.std.proofs.Common.{◌≡◌, ◌≢◌, ℕ, ◌≤◌, Bool, false, true≢false, List, [], ◌++◌, filter_map, map, reverse, count_by, Option, Some, None, IsTrue, refl, sym, ap, ap₂, ◌∙◌, subst, append-nil, suc, true, not, ◌||◌, ◌&&◌, ◌==◌, is_none, arith}
use Rattle.std.proofs.lemmas.Bool.{and_parts}
use Rattle.tow_model.specs.declared.content.Content.{Content}
use Rattle.tow_model.specs.declared.content.Content.TheVariants.{Whole}
use Rattle.tow_model.specs.declared.record.Record.{Record}
use Rattle.tow_model.specs.declared.record.Listener.{Listener}
use Rattle.tow_model.specs.declared.account.End.{End}
use Rattle.tow_model.specs.declared.account.End.TheVariants.{Done, LinkFault, FolderFault, NoMemory}
use Rattle.tow_model.specs.declared.limits.TheConstants.{MAX_REQUESTS}
use Rattle.tow_message.specs.Heads.{is_old}
use Rattle.tow_message.specs.Stream.{Stream, nothing, ReadsStream}
use Rattle.tow_semantics.specs.Listeners.{entering, leaving, line_by}
use Rattle.tow_semantics.specs.Runs.{Entry, is_decided}
use Rattle.tow_wire.specs.Answers.{closes, is_refused, is_too_long, known_length}
use Rattle.tow_wire.specs.Wire.{Met, goes_on}
use Rattle.tow_exchange.specs.Exchanges.{ExchangeData}
use Rattle.tow_closing.specs.Closings.{ClosingData}
use Rattle.tow_progress.specs.Progress.{Progress, Origin, origin_of, input_of}
use Rattle.tow_progress.specs.Steps.{completed}
use Rattle.tow_progress.specs.Whole.{a_closing, a_request}
use Rattle.tow_progress.specs.Exchanges.{lines_by}
use Rattle.tow_progress.specs.Ended.{EndedBy, Ended, EndedUnder, IsCut, Seen, admits, leaves}
use Rattle.tow_progress.specs.Accounts.{Tally, settled, IsAccounted, IsSeenOf}
use Rattle.tow_progress.specs.Cuts.{CutAt, begun_at, inside}
use Rattle.tow_progress.specs.Inside.{KeepsInside}
use Rattle.tow_progress.proofs.AccountLemmas.{account_is_kept, done_follows}
use Rattle.tow_progress.proofs.CutLemmas.{cut_follows}
use Rattle.tow_progress.proofs.InsideLemmas.{inside_is_kept}
use Rattle.tow_course.specs.Course.{Course}
use Rattle.tow_states.specs.Known.{Setting, run_in, exchange_of, moment_of}
use Rattle.tow_states.specs.Reading.{IsReading}
use Rattle.tow_states.specs.Closing.{IsAll, IsClosing, Onward, Runs, cut_off, to_end, to_last, to_next}
use Rattle.tow_states.specs.Ending.{ClosingComesToEnd, CutHasEnded, IsAtLast, IsCutOff, LastIsDone, ReadingEnds}
use Rattle.tow_states.proofs.Knowing.{grows, steps_keep}
use Rattle.tow_states.proofs.Heads.{unfinished_is}

-- ---- between requests

pub reading_ends : ReadingEnds
reading_ends = record {
  nothing_more = λ s o c t is blank. record {
    stands = is.stands;
    at_end = (subst (λ (l : List ℕ). ReadsStream c.peer l nothing) (sym (unfinished_is c is.current)) blank, is.put);
    accounted = (is.calls, is.lines);
    none_inside = is.inside;
  };
  refused_head = λ s o c t status is. record {
    stands = is.stands;
    at_end = (is.head, sym (append-nil c.put) ∙ is.put);
    accounted = (is.calls, is.lines);
    none_inside = is.inside;
  };
}

-- ---- after an exchange

-- an answer to the last request that a connection may have closes
closes_at : (keep : Bool) (a b c d : Bool) → (not keep || true || a || b || c || d) ≡ true
closes_at true a b c d = refl
closes_at false a b c d = refl

not_last : (e : Met) → goes_on e ≡ true → (b : Bool) → (e.number == MAX_REQUESTS) ≡ b → b ≡ false
not_last e goes false is = refl
not_last e goes true is =
    let q = e.request in
    let o = e.outcome in
    let closed : closes q e.number e.content o ≡ true =
    ap
    (λ (b : Bool). not q.keep || b || is_too_long q.framing || (q.expects && not o.asked)
    || (is_old q.version && is_none (known_length o.state.choice)) || (o.asked && is_refused e.content))
    is
    ∙ closes_at q.keep _ _ _ _ in
    let open_still : not (closes q e.number e.content o) ≡ true = (and_parts (is_decided o) (not (closes q e.number e.content o)) goes).1 in
    absurd (true≢false (sym open_still ∙ ap not closed))

is_other : (m n : ℕ) → (m == n) ≡ false → m ≢ n
is_other m n e = grind (arith, e)

one_more : (e : Met) → goes_on e ≡ true → e.number ≤ MAX_REQUESTS → suc e.number ≤ MAX_REQUESTS
one_more e goes few =
    let other = is_other e.number MAX_REQUESTS (not_last e goes (e.number == MAX_REQUESTS) refl) in omega (arith, few, other)

module _ (s : Setting) (o : Origin) (c : Progress) (t : Tally) (e : ExchangeData) (n : Course) (d : ClosingData)
    (done : d.completed.left ≡ []) where
  -- all its calls are made, and all its lines are told
  made_all : Runs s c t e n d None
      → t.made ≡ map (entering c.request) n.entries ++ filter_map (leaving c.request) (reverse e.stand.state.listeners)
  made_all r =
      sym (append-nil t.made) ∙ ap (λ (l : List Listener). t.made ++ filter_map (leaving c.request) l) (sym done) ∙ r.calls

  told_all : Runs s c t e n d None → t.owed ≡ lines_by s.tree (run_in s) c.number (exchange_of s c e.request None) e.stand.state
  told_all r =
      sym (append-nil t.owed)
      ∙ ap (λ (l : List Listener). t.owed ++ filter_map (line_by s.tree c.number c.request e.request e.stand.state (moment_of s c)) l) (sym done)
      ∙ r.told

  left_all : Runs s c t e n d None → KeepsInside c.request [] t.calls
  left_all r = subst (λ (l : List Listener). KeepsInside c.request l t.calls) done r.inside

  accounted_for : (onward : Onward) (content : Option Content) → IsClosing s o c t e n d None onward
      → IsAll e n (exchange_of s c e.request content).outcome
      → IsAccounted s.tree (run_in s) c (exchange_of s c e.request content) t
  accounted_for onward content is all = record {
    calls = made_all is.runs
        ∙ ap₂ (λ (x : List Entry) (y : Record). map (entering c.request) x ++ filter_map (leaving c.request) (reverse y.listeners))
        (sym all.entries) (sym all.state);
    lines = told_all is.runs
        ∙ ap (λ (x : Record). lines_by s.tree (run_in s) c.number (exchange_of s c e.request content) x) (sym all.state);
    released = λ limit.
        subst (λ (x : List Entry). count_by (admits limit) x ≤ count_by (leaves limit) (exchange_of s c e.request content).outcome.state.listeners)
        (sym all.entries)
        (subst (λ (x : Record). count_by (admits limit) n.entries ≤ count_by (leaves limit) x.listeners) (sym all.state)
        (is.may_end.freed limit));
  }

  goes_to_next : (bytes : List ℕ) → IsClosing s o c t e n d None (to_next bytes) → IsReading s o (completed c) (settled t)
  goes_to_next bytes is =
      let complete = is.leads.0 in
      let stays = (steps_keep s o c t is.stands).completes e.request bytes complete in
      record {
        stands = record {
          origin = stays.origin ∙ is.stands.origin;
          wire = stays.on_wire;
          account = (account_is_kept s.tree (run_in s) (grows s) c t is.stands.account).completes is.stands.wire e.request bytes complete
              (accounted_for (to_next bytes) (Some (Whole bytes)) is is.leads.1);
          few = one_more (exchange_of s c e.request (Some (Whole bytes))) complete.goes_on is.stands.few;
        };
        current = refl;
        put = refl;
        own = refl;
        calls = refl;
        lines = refl;
        inside = inside_is_kept.goes_on c.request t.calls (left_all is.runs);
      }

  comes_to_end : IsClosing s o c t e n d None to_end → IsAtLast s o c t (a_closing e.request)
  comes_to_end is = record {
    stands = is.stands;
    at_end = is.leads.0;
    accounted = accounted_for to_end None is is.leads.1;
    none_inside = left_all is.runs;
  }

  comes_to_last : (content : Option Content) → IsClosing s o c t e n d None (to_last content)
      → IsAtLast s o c t (a_request e.request content)
  comes_to_last content is = record {
    stands = is.stands;
    at_end = is.leads.0;
    accounted = (accounted_for (to_last content) content is is.leads.1, is.leads.1.heard);
    none_inside = left_all is.runs;
  }

  comes_to_cut : (content : Option Content) → IsClosing s o c t e n d None (cut_off content)
      → IsCutOff s o c t (inside e.request content)
  comes_to_cut content is =
      let may = is.may_end in
      record {
        stands = is.stands;
        cut = record {
          opens = may.opens;
          put = may.put;
          state = e.stand.state;
          ends = may.ends;
          decided = may.decided;
          calls = record {
            added = may.added;
            entries = n.entries;
            entered = may.entered;
            are = made_all is.runs;
            released = may.freed;
          };
          lines = told_all is.runs;
        };
        none_inside = left_all is.runs;
      }

pub closing_comes_to_end : ClosingComesToEnd
closing_comes_to_end s o c t e n d done = record {
  next_request = goes_to_next s o c t e n d done;
  last_closes = comes_to_end s o c t e n d done;
  last_request = comes_to_last s o c t e n d done;
  cut = comes_to_cut s o c t e n d done;
}

-- ---- what has ended

-- from the connection as it has come to the one that was opened
from_origin : (s : Setting) (o : Origin) (c : Progress) (seen : Seen) → origin_of c ≡ o
    → ((whole : Stream) → ReadsStream c.peer (input_of c) whole → Ended s.tree (run_in s) c.number whole seen)
    → EndedUnder s.tree s.files s.moments o.number o.peer o.input seen
from_origin s o c seen origin ended =
    subst (λ (p : Origin). EndedUnder s.tree s.files s.moments p.number p.peer p.input seen) origin ended

pub last_is_done : LastIsDone
last_is_done s o c t thing is empty seen done looks logged =
    from_origin s o c seen is.stands.origin (λ whole reads.
    subst (λ (end : End). EndedBy end s.tree (run_in s) c.number whole seen) (sym done)
    (done_follows s.tree (run_in s) (grows s) c t is.stands.wire is.stands.account thing is.at_end is.accounted empty seen looks logged
    whole reads))

-- by how it ended
module _ (s : Setting) (o : Origin) (c : Progress) (t : Tally) (at : CutAt) (is : IsCutOff s o c t at) (seen : Seen)
    (looks : IsSeenOf c t (begun_at c at) seen) (whole : Stream) (reads : ReadsStream c.peer (input_of c) whole) where
  cut_so : (all : Bool) → (IsTrue all → IsTrue t.all) → IsCut s.tree (run_in s) c.number whole seen all
  cut_so all kept =
      cut_follows s.tree (run_in s) (grows s) c t is.stands.wire is.stands.account at is.cut seen looks all kept whole reads

  ended_by : (end : End) → end ≢ Done → (end ≢ NoMemory → IsTrue seen.logged → IsTrue t.all)
      → EndedBy end s.tree (run_in s) c.number whole seen
  ended_by Done cut logged = absurd (cut refl)
  ended_by LinkFault cut logged = cut_so seen.logged (logged (λ wrong. cc))
  ended_by FolderFault cut logged = cut_so seen.logged (logged (λ wrong. cc))
  ended_by NoMemory cut logged = cut_so false (λ wrong. absurd (true≢false (sym wrong)))

pub cut_has_ended : CutHasEnded
cut_has_ended s o c t at is seen cut looks logged =
    from_origin s o c seen is.stands.origin (λ whole reads. ended_by s o c t at is seen looks whole reads seen.account.end cut logged)
