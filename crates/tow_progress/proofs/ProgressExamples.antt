-- The definitions at a few connections.
use Rattle.std.proofs.Common.{◌≡◌, ◌≢◌, ◌≤◌, ◌&&◌, inr, ℕ, Bool, true, false, All, List, [], ◌∷◌, ◌++◌, length, count_by, Some, None, refl, sym, ap, ◌∙◌, subst, codes, arith}
use Rattle.std.proofs.lemmas.List.Elements.{All-from_recursion}
use Rattle.std.specs.Fmt.{digits}
use Rattle.tow_model.specs.declared.request.Request.{Request}
use Rattle.tow_model.specs.declared.request.Version.TheVariants.{V11}
use Rattle.tow_model.specs.declared.request.Framing.TheVariants as framing
use Rattle.tow_model.specs.declared.record.Record.{Record}
use Rattle.tow_model.specs.declared.record.Listener.{Listener}
use Rattle.tow_model.specs.declared.record.Listener.TheVariants as listener
use Rattle.tow_model.specs.declared.attribute.Attribute.TheVariants as attribute
use Rattle.tow_model.specs.declared.attribute.Piece.TheVariants as piece
use Rattle.tow_model.specs.declared.action.Action.TheVariants as action
use Rattle.tow_model.specs.declared.statement.Statement.{Statement}
use Rattle.tow_model.specs.declared.statement.Statement.TheVariants as statement
use Rattle.tow_model.specs.declared.content.Content.TheVariants as content
use Rattle.tow_model.specs.declared.account.Call.{Call}
use Rattle.tow_model.specs.declared.account.Line.{Line}
use Rattle.tow_model.specs.declared.account.End.TheVariants.{Done, LinkFault}
use Rattle.tow_model.specs.declared.account.What.{What}
use Rattle.tow_model.specs.declared.account.What.TheVariants.{Enter, Leave}
use Rattle.tow_model.specs.declared.account.Verdict.{Verdict}
use Rattle.tow_model.specs.declared.account.Verdict.TheVariants.{Admitted, Refused}
use Rattle.tow_model.proofs.DateProofs.{date_zero}
use Rattle.tow_history.specs.Histories.{verdicts}
use Rattle.tow_message.specs.Stream.{Stream, nothing, next}
use Rattle.tow_message.proofs.StreamLemmas.{stream_is_one}
use Rattle.tow_semantics.specs.Steps.{start, answered}
use Rattle.tow_semantics.specs.Runs.{Entry, Run, for_verdict}
use Rattle.tow_semantics.specs.Sites.{run_of}
use Rattle.tow_semantics.proofs.Equations.{walk_act, actions_act}
use Rattle.tow_wire.specs.Wire.{Met, wire, met, wire_from}
use Rattle.tow_progress.specs.Progress.{Progress, input_of, verdicts_of, opening, origin_of}
use Rattle.tow_progress.specs.OnWire.{IsOnWire}
use Rattle.tow_progress.specs.Steps.{read_in, taken, written_out, heard, with_piece, completed}
use Rattle.tow_progress.specs.Whole.{an_end, IsAtEnd}
use Rattle.tow_progress.specs.Exchanges.{calls_of, lines_of}
use Rattle.tow_progress.specs.Ended.{Seen, Ended}
use Rattle.tow_progress.specs.Accounts.{Tally, called, entered, released, stored, lost, settled, no_calls, KeepsAccount}
use Rattle.tow_progress.specs.Inside.{goes_in, goes_out, KeepsInside}

-- ---- the places of bytes and verdicts

-- a connection under way: of its input 1 is taken, 2 is in the pipe, 3 is left; of its output 7 is written, 8 is in the pipe
abbrev under_way : Progress
under_way = record {
  number = 4;
  peer = 9;
  request = 1;
  finished = [];
  current = 1 ∷ [];
  piped_in = 2 ∷ [];
  left = 3 ∷ [];
  texts = [];
  put = 7 ∷ 8 ∷ [];
  piped_out = 8 ∷ [];
  written = 7 ∷ [];
  spent = [];
  own = Admitted ∷ [];
}

its_input : input_of under_way ≡ 1 ∷ 2 ∷ 3 ∷ []
its_input = refl

after_a_read : (read_in (3 ∷ []) [] under_way).piped_in ≡ 2 ∷ 3 ∷ []
after_a_read = refl

a_read_keeps_its_origin : origin_of (read_in (3 ∷ []) [] under_way) ≡ origin_of under_way
a_read_keeps_its_origin = refl

after_a_take : (taken (2 ∷ []) [] under_way).current ≡ 1 ∷ 2 ∷ []
after_a_take = refl

after_a_write : (written_out (8 ∷ []) [] under_way).written ≡ 7 ∷ 8 ∷ []
after_a_write = refl

after_a_verdict : verdicts_of (heard Refused under_way) ≡ Admitted ∷ Refused ∷ []
after_a_verdict = refl

after_a_piece : (with_piece (9 ∷ []) under_way).piped_out ≡ 8 ∷ 9 ∷ []
after_a_piece = refl

-- the next request is open: nothing of it was taken or put, and what was is finished
next_number : (completed under_way).request ≡ 2
next_number = refl

next_texts : (completed under_way).texts ≡ 7 ∷ 8 ∷ []
next_texts = refl

next_spent : (completed under_way).spent ≡ Admitted ∷ []
next_spent = refl

next_origin : origin_of (completed under_way) ≡ origin_of under_way
next_origin = refl

-- ---- on the wire

nothing_read : (peer : ℕ) → IsAtEnd (run_of [] [] (λ k j. 0)) (opening 0 peer []) an_end
nothing_read peer = (record { bytes = All-from_recursion _ [] tt; few = omega arith }, refl)

-- a byte is written where nothing was asked: this is not on the wire
abbrev talks_first : Progress
talks_first = record (opening 0 1 []) { put = 7 ∷ []; written = 7 ∷ [] }

no_front : (bytes : List ℕ) → (rest : List ℕ) × (bytes ≡ (7 ∷ []) ++ rest) → bytes ≡ [] → ⊥
no_front bytes (rest, is) none = absurd (cc)

talks_first_is_not : (run : Run) → IsOnWire run talks_first → ⊥
talks_first_is_not run on =
    let found = on.within nothing (nothing_read 1).0 in
    let ended = stream_is_one 1 [] found.0 nothing found.1.reads (nothing_read 1).0 in
    no_front _ (found.2 []) (ap (λ (s : Stream). wire_from run 0 1 s []) ended)

-- a byte is written that was not put: neither is this
not_put_is_not : (run : Run) → IsOnWire run (record (opening 0 1 []) { written = 7 ∷ [] }) → ⊥
not_put_is_not run on = no_front [] ([], on.out) refl

-- ---- calls and lines

abbrev get : Request
get = record {
  method = codes "GET";
  target = codes "/";
  version = V11;
  fields = [];
  url = codes "/";
  path = codes "/";
  query = None;
  framing = framing.Empty;
  expects = false;
  keep = true;
  peer = 2130706433;
}

-- one GET, and then the end
abbrev one_get : Stream
one_get = next get [] nothing

-- the bytes and their line end
abbrev line : List ℕ → List ℕ
line bytes = bytes ++ codes "\r\n"

abbrev date_line : List ℕ
date_line = line (codes "date: Thu, 01 Jan 1970 00:00:00 GMT")

abbrev met_with : Record → List Entry → Met
met_with x entries = record {
  number = 1;
  request = get;
  content = Some (content.Whole []);
  outcome = record { state = x; entries = entries; asked = false; looked = false; worked = false; waits = None };
}

-- `access-log('a %s'); access-log('b %s'); response-code(204)`
two_logs : List Statement
two_logs =
    statement.Act (action.AccessLog 0 (piece.Literal (codes "a ") ∷ piece.Value attribute.Status ∷ []))
    ∷ statement.Act (action.AccessLog 1 (piece.Literal (codes "b ") ∷ piece.Value attribute.Status ∷ []))
    ∷ statement.Act (action.ResponseCode 204) ∷ []

abbrev logged_run : Run
logged_run = run_of two_logs [] (λ k j. 0)

logged_met : met logged_run 0 one_get [] ≡ met_with (record (answered 204 (start get)) { listeners = listener.Log 0 ∷ listener.Log 1 ∷ [] }) [] ∷ []
unfolding two_logs
logged_met = rw (walk_act, walk_act, walk_act) refl

logged_wire : wire logged_run 0 one_get [] ≡ line (codes "HTTP/1.1 204 No Content") ++ date_line ++ line []
unfolding two_logs digits
logged_wire = rw (walk_act, walk_act, walk_act, date_zero) refl

-- the log added last comes first
abbrev two_lines : List Line
two_lines =
    record { connection = 0; request = 1; number = 1; text = codes "b 204" }
    ∷ record { connection = 0; request = 1; number = 0; text = codes "a 204" } ∷ []

logged_lines : lines_of two_logs logged_run 0 (met logged_run 0 one_get []) ≡ two_lines
unfolding two_logs digits
logged_lines = rw (walk_act, walk_act, walk_act, actions_act, actions_act) refl

-- what is seen of it, if these are the lines that its log stored
abbrev seen_logged : List Line → Seen
seen_logged stored_lines = record {
  account = record { end = Done; exchanges = 1; calls = []; hops = [] };
  written = line (codes "HTTP/1.1 204 No Content") ++ date_line ++ line [];
  lines = stored_lines;
  logged = true;
}

two_logs_done : Ended two_logs logged_run 0 one_get (seen_logged two_lines)
two_logs_done = record {
  bytes = sym logged_wire;
  calls = sym (ap calls_of logged_met);
  count = sym (ap length logged_met);
  heard = subst (All (λ (e : Met). e.outcome.waits ≢ Some for_verdict)) (sym logged_met)
      (All-from_recursion (λ (e : Met). e.outcome.waits ≢ Some for_verdict) (_ ∷ []) ((λ e. absurd (cc)), tt));
  lines = record { front = ([], logged_lines); whole = λ all. sym logged_lines };
}

some_are_owed : (lines : List Line) → lines ≡ two_lines → lines ≡ [] → ⊥
some_are_owed lines are none = absurd (cc)

-- if its log failed in nothing, it has stored the lines
no_line_is_left_out : Ended two_logs logged_run 0 one_get (seen_logged []) → ⊥
no_line_is_left_out done = some_are_owed [] (done.lines.whole refl ∙ logged_lines) refl

-- `request-limit(1)`, `restart`
limited : List Statement
limited = statement.Act (action.RequestLimit 0 1) ∷ statement.Act action.Restart ∷ []

abbrev limited_run : Run
limited_run = run_of limited [] (λ k j. 0)

abbrev entry_with : Verdict → Entry
entry_with verdict = record { limit = 0; verdict = verdict }

-- its own place is taken, so it is refused after the restart
abbrev refused_met : Met
refused_met = met_with (record (answered 503 (start get)) { listeners = listener.Leave 0 ∷ [] }) (entry_with Admitted ∷ entry_with Refused ∷ [])

limited_met : met limited_run 0 one_get (Admitted ∷ Refused ∷ []) ≡ refused_met ∷ []
unfolding limited
limited_met = rw (walk_act, walk_act, walk_act) refl

limited_wire : wire limited_run 0 one_get (Admitted ∷ Refused ∷ [])
    ≡ line (codes "HTTP/1.1 503 Service Unavailable") ++ line (codes "content-length: 0") ++ date_line ++ line []
unfolding limited digits
limited_wire = rw (walk_act, walk_act, walk_act, date_zero) refl

abbrev call : What → Call
call what = record { limit = 0; request = 1; what = what }

-- it enters twice, and leaves once
limited_calls : calls_of (met limited_run 0 one_get (Admitted ∷ Refused ∷ []))
    ≡ call (Enter Admitted) ∷ call (Enter Refused) ∷ call Leave ∷ []
limited_calls = ap calls_of limited_met

limited_verdicts : verdicts (call (Enter Admitted) ∷ call (Enter Refused) ∷ call Leave ∷ []) ≡ Admitted ∷ Refused ∷ []
limited_verdicts = refl

limited_done : Ended limited limited_run 0 one_get (record {
  account = record { end = Done; exchanges = 1; calls = call (Enter Admitted) ∷ call (Enter Refused) ∷ call Leave ∷ []; hops = [] };
  written = line (codes "HTTP/1.1 503 Service Unavailable") ++ line (codes "content-length: 0") ++ date_line ++ line [];
  lines = [];
  logged = true;
})
limited_done = record {
  bytes = sym limited_wire;
  calls = sym limited_calls;
  count = sym (ap length limited_met);
  heard = subst (All (λ (e : Met). e.outcome.waits ≢ Some for_verdict)) (sym limited_met)
      (All-from_recursion (λ (e : Met). e.outcome.waits ≢ Some for_verdict) (_ ∷ []) ((λ e. absurd (cc)), tt));
  lines = record {
    front = ([], ap (lines_of limited limited_run 0) limited_met);
    whole = λ all. sym (ap (lines_of limited limited_run 0) limited_met);
  };
}

-- ---- a link that failed while the exchange waited for its second verdict

abbrev waiting_met : Met
waiting_met = record {
  number = 1;
  request = get;
  content = Some (content.Whole []);
  outcome = record {
    state = record (start get) { listeners = listener.Leave 0 ∷ [] };
    entries = entry_with Admitted ∷ [];
    asked = false;
    looked = false;
    worked = false;
    waits = Some for_verdict;
  };
}

limited_waits : met limited_run 0 one_get (Admitted ∷ []) ≡ waiting_met ∷ []
unfolding limited
limited_waits = rw (walk_act, walk_act, walk_act) refl

-- one entry that was admitted, and one leaving
one_each : (b : Bool) → count_by (λ (e : Entry). b && true) (entry_with Admitted ∷ []) ≤ count_by (λ (l : Listener). b) (listener.Leave 0 ∷ [])
one_each true = omega arith
one_each false = omega arith

limited_cut : Ended limited limited_run 0 one_get (record {
  account = record { end = LinkFault; exchanges = 1; calls = call (Enter Admitted) ∷ call Leave ∷ []; hops = [] };
  written = [];
  lines = [];
  logged = true;
})
limited_cut = record {
  bytes = (_, refl);
  begun = waiting_met ∷ [];
  first = ([], limited_waits);
  count = refl;
  reached = λ before behind e is some. absurd (omega (arith, some));
  last = inr (record {
    whole = [];
    e = waiting_met;
    are = refl;
    state = waiting_met.outcome.state;
    ends = inr refl;
    decided = λ some. absurd (omega (arith, some));
    made = call (Enter Admitted) ∷ call Leave ∷ [];
    calls = refl;
    its_calls = record {
      added = ([], refl);
      entries = entry_with Admitted ∷ [];
      entered = ([], refl);
      are = refl;
      released = λ limit. one_each _;
    };
    lines = record { front = ([], refl); whole = λ all. refl };
  });
}

-- ---- the account

abbrev one_call : Tally
one_call = called (entered 3 under_way Refused) (no_calls true)

its_calls : one_call.calls ≡ record { limit = 3; request = 1; what = Enter Refused } ∷ []
its_calls = refl

its_leaving : (called (released 3 under_way) one_call).made
    ≡ record { limit = 3; request = 1; what = Enter Refused } ∷ record { limit = 3; request = 1; what = Leave } ∷ []
its_leaving = refl

then_settled : (settled one_call).made ≡ []
then_settled = refl

abbrev a_line : Line
a_line = record { connection = 4; request = 1; number = 0; text = codes "a" }

a_line_stays : (lost a_line (stored a_line (no_calls true))).lines ≡ a_line ∷ []
a_line_stays = refl

a_line_is_lost : (lost a_line (no_calls true)).all ≡ false
a_line_is_lost = refl

no_such_call : ◌≡◌ {A = List Call} (call Leave ∷ []) [] → ⊥
no_such_call is = absurd (cc)

-- a call that no exchange made: no account is kept so
made_up_call : (run : Run) → KeepsAccount [] run (opening 0 1 []) (record (no_calls true) { calls = call Leave ∷ [] }) → ⊥
made_up_call run keeps = no_such_call (keeps.calls nothing (nothing_read 1).0)

-- a byte of an answer was written, and no exchange is told: no connection ends so
unbegun_answer : Ended two_logs logged_run 0 one_get (record {
  account = record { end = LinkFault; exchanges = 0; calls = []; hops = [] };
  written = 72 ∷ [];
  lines = [];
  logged = true;
}) → ⊥
unbegun_answer cut =
    let reached = cut.reached [] [] _ logged_met (omega arith) in
    let count = cut.count in absurd (omega (arith, reached, count))

-- ---- inside of limits

went_in : count_by (goes_in 0 1) (call (Enter Admitted) ∷ call (Enter Refused) ∷ call Leave ∷ []) ≡ 1
went_in = refl

went_out : count_by (goes_out 0 1) (call (Enter Admitted) ∷ call (Enter Refused) ∷ call Leave ∷ []) ≡ 1
went_out = refl

-- a request that is inside has its leaving to run
never_left : KeepsInside 1 [] (call (Enter Admitted) ∷ []) → ⊥
never_left keeps = let same = keeps.open_one 0 in absurd (omega (arith, same))
