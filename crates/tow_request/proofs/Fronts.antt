-- From what the parser says of the bytes to what the server says of its input.
use Rattle.std.proofs.Common.{◌≡◌, ℕ, ◌<◌, ◌≤◌, inl, List, [], ◌++◌, length, take, drop, Option, Some, None, refl, sym, ap, ◌∙◌, subst, arith, append-nil, length-take, length-drop}
use Rattle.std.proofs.lemmas.List.{take-append-drop, length-map, take_at}
use Rattle.httparse.specs.Grammar.{RequestHead, ReadsRequest, print_request, HasNoRequest, NeverHasRequest}
use Rattle.httparse.specs.Spans.{IsRequestAt, IsRequestWithin, RequestOverflows, name_and_value, header_bytes}
use Rattle.httparse.specs.declared.spans.HeaderSpan.{HeaderSpan}
use Rattle.httparse.specs.declared.spans.RequestSpans.{RequestSpans}
use Rattle.httparse.proofs.GrammarLemmas.{ReadsRequest-append}
use Rattle.tow_model.specs.declared.limits.TheConstants.{MAX_HEAD_FIELDS, MAX_HEAD_LEN}
use Rattle.tow_model.specs.declared.request.Request.{Request}
use Rattle.tow_message.specs.Heads.{HasHead, HasNoHead, IsRefusedBy, refusal, request_of}
use Rattle.tow_message.proofs.FirstHeads.{head_is_one}
use Rattle.tow_request.specs.declared.NextHead.{NextHead}
use Rattle.tow_request.specs.declared.NextHead.TheVariants.{Head}
use Rattle.tow_request.specs.NextHead.{FindsHead}

-- a head at the front, seen in the whole input
pub front_has : (input : List ℕ) (used : ℕ) (h : RequestHead) → HasHead (take used input) h [] → HasHead input h (drop used input)
front_has input used h has = record {
  reads =
      subst (λ (t : List ℕ). ReadsRequest t h (drop used input)) (take-append-drop used input)
      (ReadsRequest-append (take used input) h [] (drop used input) has.reads);
  bytes_fit = omega (arith, has.bytes_fit, length-take used input, length-drop used input);
  fields_fit = has.fields_fit;
}

-- no head by the parser, so none by the server
pub no_head : (input : List ℕ) → HasNoRequest input → HasNoHead input
no_head input none h rest has = none h rest has.reads

pub no_head_in_room : (input : List ℕ) → RequestOverflows MAX_HEAD_FIELDS input → HasNoHead input
no_head_in_room input over h rest has =
    let whole : ReadsRequest (input ++ []) h rest = rw append-nil has.reads in
    let more : MAX_HEAD_FIELDS < length h.fields = over [] h rest whole in
    absurd (omega (arith, more, has.fields_fit))

pub never_now : (input : List ℕ) → NeverHasRequest input → HasNoRequest input
never_now input never h rest reads = never [] h rest (rw append-nil reads)

pub finds_none : (input : List ℕ) (peer : ℕ) (answer : NextHead) → HasNoHead input → FindsHead input peer answer
finds_none input peer answer none q used fits is = absurd (none is.head (drop used input) (front_has input used is.head is.whole))

-- what the parser read is a whole head
pub whole_head : (input : List ℕ) (headers : List HeaderSpan) (r : RequestSpans) (h : RequestHead)
    → length input ≤ MAX_HEAD_LEN → length headers ≤ MAX_HEAD_FIELDS → IsRequestWithin input headers r → IsRequestAt input headers r h
    → HasHead (take r.len input) h []
whole_head input headers r h small room within at =
    let written : length (take r.headers headers) ≡ length h.fields =
    sym (length-map (take r.headers headers) (header_bytes input)) ∙ ap (λ t. length t) at.fields ∙ length-map h.fields name_and_value in
    record {
      reads = (at.reads.0, rw (append-nil, at.len) (front_is input (print_request h) (drop r.len input) at.reads.1));
      bytes_fit = omega (arith, length-take r.len input);
      fields_fit = omega (arith, written, length-take r.headers headers);
    }
  where
    front_is : (buf front rest : List ℕ) → buf ≡ front ++ rest → take (length front) buf ≡ front
    front_is buf front rest e = rw (e, take_at front rest (length front) refl)

some_is_none : (o : Option ℕ) (status : ℕ) → o ≡ Some status → o ≡ None → ⊥
some_is_none o status a b = absurd (cc)

-- a refused head is at the front of the whole input
pub tells_refused : (input : List ℕ) (used : ℕ) (h : RequestHead) (status : ℕ) → HasHead (take used input) h [] → refusal h ≡ Some status
    → IsRefusedBy refusal input status
tells_refused input used h status has wrong = record {
  head = h;
  rest = drop used input;
  reads = front_has input used h has;
  refused = wrong;
}

-- a refused head is the only one
pub finds_refused : (input : List ℕ) (used : ℕ) (h : RequestHead) (status peer : ℕ) (answer : NextHead)
    → HasHead (take used input) h [] → refusal h ≡ Some status → FindsHead input peer answer
finds_refused input used h status peer answer has wrong q other fits is =
    let same = head_is_one input h is.head _ _ (front_has input used h has) (front_has input other is.head is.whole) in
    absurd (some_is_none (refusal is.head) status (sym (ap refusal same.0) ∙ wrong) is.served)

-- and so is a served one
pub finds_served : (input : List ℕ) (used : ℕ) (h : RequestHead) (peer : ℕ) (q : Request)
    → used ≤ length input → HasHead (take used input) h [] → request_of peer h ≡ q → FindsHead input peer (Head q used)
finds_served input used h peer q within has request p other fits is =
    let same = head_is_one input h is.head _ _ (front_has input used h has) (front_has input other is.head is.whole) in
    let left : length (drop used input) ≡ length (drop other input) = ap (λ (t : List ℕ). length t) same.1 in
    let at : used ≡ other = omega (arith, left, length-drop used input, length-drop other input) in
    inl (ap (λ r. Head r used) (sym request ∙ ap (request_of peer) same.0 ∙ is.request) ∙ ap (λ n. Head p n) at)
