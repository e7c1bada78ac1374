-- A connection from its first byte to its end, by its steps: `GET /hi HTTP/1.1`, answered by `response-code(204)`.
use Rattle.std.proofs.Common.{◌≡◌, ◌≤◌, ℕ, true, IsTrue, List, [], ◌∷◌, ◌++◌, Some, None, count_by, refl, sym, subst, lit<, zero-le, codes}
use Rattle.std.specs.Str.{is_utf8, chars}
use lib.Utf8.{encode}
use Rattle.std.proofs.lemmas.List.{append-nil}
use Rattle.std.proofs.lemmas.List.Elements.{All-nil}
use Rattle.httparse.specs.Grammar.{RequestHead, crlf}
use Rattle.httparse.proofs.OnLiterals.{httparse_on_literals}
use Rattle.tow_model.specs.declared.request.Request.{Request}
use Rattle.tow_model.specs.declared.action.Action.TheVariants as action
use Rattle.tow_model.specs.declared.statement.Statement.{Statement}
use Rattle.tow_model.specs.declared.statement.Statement.TheVariants as statement
use Rattle.tow_model.specs.declared.content.Content.TheVariants.{Whole}
use Rattle.tow_model.specs.declared.account.End.TheVariants.{Done}
use Rattle.tow_model.specs.declared.limits.TheConstants.{LOCAL_PEER}
use Rattle.tow_message.specs.Heads.{request_of}
use Rattle.tow_message.specs.FirstHead.{read_then, read_many, read_newline, span_of, head_of, first_head}
use Rattle.tow_message.specs.Contents.{HasContent}
use Rattle.tow_message.specs.Stream.{Stream, ReadsStream, HasRequest, IsBlank, nothing, next}
use Rattle.tow_message.proofs.FirstHeads.{finds_head}
use Rattle.tow_semantics.specs.Listeners.{calls}
use Rattle.tow_semantics.specs.Runs.{Entry, Run, is_decided}
use Rattle.tow_semantics.specs.Sites.{run_of}
use Rattle.tow_semantics.proofs.Equations.{walk_act}
use Rattle.tow_wire.specs.Wire.{text_of, goes_on, wire}
use Rattle.tow_progress.specs.Progress.{Progress, opening}
use Rattle.tow_progress.specs.Runs.{Grows}
use Rattle.tow_progress.specs.OnWire.{IsOnWire}
use Rattle.tow_progress.specs.Steps.{read_in, taken, written_out, with_piece, completed, IsOpen, IsComplete, open_exchange}
use Rattle.tow_progress.specs.Whole.{an_end, IsAtEnd}
use Rattle.tow_progress.specs.Exchanges.{lines_by}
use Rattle.tow_progress.specs.Ended.{IsReleased, admits, leaves, IsDone}
use Rattle.tow_progress.specs.Accounts.{no_calls, settled, KeepsAccount}
use Rattle.tow_progress.proofs.Growing.{texts_grow}
use Rattle.tow_progress.proofs.Opens.{answers_settle}
use Rattle.tow_progress.proofs.Fronts.{opening_is}
use Rattle.tow_progress.proofs.StepLemmas.{wire_is_kept}
use Rattle.tow_progress.proofs.WholeLemmas.{whole_is_written}
use Rattle.tow_progress.proofs.AccountLemmas.{account_opens, account_is_kept, done_follows}

-- ---- the text and the input

hi_text : List Statement
hi_text = statement.Act (action.ResponseCode 204) ∷ []

abbrev hi_run : Run
hi_run = run_of hi_text [] (λ k j. 0)

hi_grows : Grows hi_run
hi_grows = texts_grow hi_text [] (λ k j. 0)

abbrev line : List ℕ → List ℕ
line bytes = bytes ++ codes "\r\n"

abbrev hi_input : List ℕ
hi_input = line (codes "GET /hi HTTP/1.1") ++ line (codes "Host: a") ++ line []

abbrev hi_head : RequestHead
hi_head = record {
  blank = [];
  method = codes "GET";
  target = codes "/hi";
  minor = 1;
  line_end = crlf;
  fields = record { name = codes "Host"; raw = codes " a"; end = crlf } ∷ [];
  last = crlf;
}

abbrev hi_request : Request
hi_request = request_of LOCAL_PEER hi_head

hi_found : first_head hi_input ≡ Some (hi_head, [])
unfolding httparse_on_literals read_then read_many read_newline span_of head_of is_utf8 chars encode
hi_found = refl

hi_has : HasRequest LOCAL_PEER hi_input hi_request []
unfolding httparse_on_literals
hi_has = record { head = hi_head; reads = (finds_head hi_input hi_head []).1 hi_found; served = refl; request = refl }

hi_content : HasContent hi_request.framing [] (Whole []) []
unfolding httparse_on_literals
hi_content = record { text = []; is_content = (refl, refl); joined = refl }

nothing_left : IsBlank []
nothing_left = record { bytes = All-nil _; few = lit< tt }

abbrev hi_stream : Stream
hi_stream = next hi_request [] nothing

hi_reads : ReadsStream LOCAL_PEER hi_input hi_stream
hi_reads = ([], [], hi_has, hi_content, nothing_left)

-- ---- its steps

-- it is accepted
abbrev fresh : Progress
fresh = opening 0 LOCAL_PEER hi_input

-- its link is read, to the end
abbrev heard_all : Progress
heard_all = read_in hi_input [] fresh

-- the head is taken from the pipe
abbrev with_head : Progress
with_head = taken hi_input [] heard_all

-- the text of its answer
abbrev hi_answer : List ℕ
hi_answer = text_of hi_run 0 (open_exchange hi_run with_head hi_request None)

-- it is put, in one piece
abbrev answered_hi : Progress
answered_hi = with_piece hi_answer with_head

-- it is written
abbrev written_hi : Progress
written_hi = written_out hi_answer [] answered_hi

-- and the next request is open
abbrev after_hi : Progress
after_hi = completed written_hi

fresh_on : IsOnWire hi_run fresh
fresh_on = opening_is hi_run 0 LOCAL_PEER hi_input

heard_on : IsOnWire hi_run heard_all
heard_on = ((wire_is_kept hi_run hi_grows fresh fresh_on).reads hi_input [] (sym (append-nil hi_input))).on_wire

head_on : IsOnWire hi_run with_head
head_on = ((wire_is_kept hi_run hi_grows heard_all heard_on).takes hi_input [] (sym (append-nil hi_input))).on_wire

-- the request is open before its content was looked for, and its answer is decided
hi_opens : IsOpen with_head hi_request None
hi_opens = record { behind = []; request = hi_has; known = tt }

hi_decided : IsTrue (is_decided (open_exchange hi_run with_head hi_request None).outcome)
unfolding hi_text
hi_decided = rw walk_act refl

answer_on : IsOnWire hi_run answered_hi
answer_on =
    ((wire_is_kept hi_run hi_grows with_head head_on).answers hi_request None hi_answer hi_opens hi_decided
    ([], sym (append-nil hi_answer))).on_wire

written_on : IsOnWire hi_run written_hi
written_on = ((wire_is_kept hi_run hi_grows answered_hi answer_on).writes hi_answer [] (sym (append-nil hi_answer))).on_wire

-- with its content it is the same answer, and the next request is read
hi_goes_on : goes_on (open_exchange hi_run written_hi hi_request (Some (Whole []))) ≡ true
unfolding hi_text httparse_on_literals
hi_goes_on = rw walk_act refl

hi_used_up : (hi_run.outcome hi_request 0 (Some (Whole [])) []).left ≡ []
unfolding hi_text
hi_used_up = rw walk_act refl

hi_complete : IsComplete hi_run written_hi hi_request []
hi_complete =
    let settles = answers_settle hi_run hi_grows 0 1 hi_request (Some (Whole [])) [] hi_decided in record {
      behind = [];
      request = hi_has;
      content = hi_content;
      decided = settles.decided;
      used_up = hi_used_up;
      goes_on = hi_goes_on;
      all_put = sym settles.text;
    }

after_on : IsOnWire hi_run after_hi
after_on = ((wire_is_kept hi_run hi_grows written_hi written_on).completes hi_request [] hi_complete).on_wire

-- ---- its end

after_at_end : IsAtEnd hi_run after_hi an_end
after_at_end = (nothing_left, refl)

-- the answer is the whole wire
hi_whole : hi_answer ≡ wire hi_run 0 hi_stream []
hi_whole = whole_is_written hi_run hi_grows after_hi after_on an_end after_at_end refl hi_stream hi_reads

-- ---- its account

fresh_keeps : KeepsAccount hi_text hi_run fresh (no_calls true)
fresh_keeps = account_opens hi_text hi_run 0 LOCAL_PEER hi_input true

written_keeps : KeepsAccount hi_text hi_run written_hi (no_calls true)
written_keeps = (account_is_kept hi_text hi_run hi_grows fresh (no_calls true) fresh_keeps).moves written_hi refl refl refl refl

hi_calls : [] ≡ calls 1 (open_exchange hi_run written_hi hi_request (Some (Whole []))).outcome
unfolding hi_text
hi_calls = rw walk_act refl

hi_lines : [] ≡ lines_by hi_text hi_run 0 (open_exchange hi_run written_hi hi_request (Some (Whole []))) (open_exchange hi_run written_hi hi_request (Some (Whole []))).outcome.state
unfolding hi_text
hi_lines = rw walk_act refl

hi_entries : (open_exchange hi_run written_hi hi_request (Some (Whole []))).outcome.entries ≡ []
unfolding hi_text
hi_entries = rw walk_act refl

hi_released : IsReleased (open_exchange hi_run written_hi hi_request (Some (Whole [])))
hi_released limit =
    let e = open_exchange hi_run written_hi hi_request (Some (Whole [])) in
    subst (λ (l : List Entry). count_by (admits limit) l ≤ count_by (leaves limit) e.outcome.state.listeners) (sym hi_entries) zero-le

after_keeps : KeepsAccount hi_text hi_run after_hi (settled (no_calls true))
after_keeps =
    (account_is_kept hi_text hi_run hi_grows written_hi (no_calls true) written_keeps).completes written_on hi_request [] hi_complete
    (record { calls = hi_calls; lines = hi_lines; released = hi_released })

-- one exchange, no calls, no lines, and these bytes: so it is done
hi_done : IsDone hi_text hi_run 0 hi_stream (record {
  account = record { end = Done; exchanges = 1; calls = []; hops = [] };
  written = hi_answer;
  lines = [];
  logged = true;
})
hi_done =
    done_follows hi_text hi_run hi_grows after_hi (settled (no_calls true)) after_on after_keeps an_end after_at_end (refl, refl) refl
    _ (record { calls = refl; count = refl; written = refl; lines = refl }) (λ is. is) hi_stream hi_reads
