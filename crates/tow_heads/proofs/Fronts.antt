-- What stands at the front of some bytes, whatever follows them.
use Rattle.std.proofs.Common.{◌≡◌, ℕ, ◌≤◌, inl, inr, IsTrue, Bool, false, ◌||◌, ◌==◌, List, [], ◌++◌, length, take, drop, All, sym, ap, ◌∙◌, subst, arith, append_assoc, length-append, take-append-drop}
use Rattle.std.proofs.lemmas.List.{append-nil, take-append-le}
use Rattle.std.proofs.lemmas.List.Elements.{All-take}
use Rattle.std.proofs.Math.Seq.{take-append_seam}
use Rattle.httparse.specs.Grammar.{RequestHead, print_request}
use Rattle.httparse.proofs.GrammarLemmas.{ReadsRequest-append}
use Rattle.tow_model.specs.declared.request.Request.{Request}
use Rattle.tow_message.specs.Heads.{HasHead, Head, is_unserved}
use Rattle.tow_message.specs.Stream.{IsBlank, IsNoRequest, IsRefused, HasRequest}
use Rattle.tow_heads.proofs.Served.{served_head}
use Rattle.tow_request.specs.NextHead.{IsHopeless}

-- a head at the front stays one
pub head_before : (front more rest : List ℕ) (h : RequestHead) → HasHead front h rest → HasHead (front ++ more) h (rest ++ more)
head_before front more rest h has = record {
  reads = ReadsRequest-append front h rest more has.reads;
  bytes_fit = omega (arith, has.bytes_fit, length-append front more, length-append rest more);
  fields_fit = has.fields_fit;
}

-- the bytes are the head of a request that is served
abbrev pub IsServed : List ℕ → ℕ → Request → Type 0
IsServed bytes peer q = Head bytes peer q × (is_unserved q.version q.framing q.fields ≡ false)

-- the request of the first bytes that were kept, behind which the others stand
pub request_before : (kept left : List ℕ) (used peer : ℕ) (q : Request) → IsServed (take used kept) peer q → HasRequest peer (kept ++ left) q (drop used kept ++ left)
request_before kept left used peer q (is, now) =
    let whole : take used kept ++ (drop used kept ++ left) ≡ kept ++ left =
    sym (append_assoc (take used kept) (drop used kept) left) ∙ ap (λ (l : List ℕ). l ++ left) (take-append-drop used kept) in
    record {
      head = is.head;
      reads = subst (λ (input : List ℕ). HasHead input is.head (drop used kept ++ left)) whole (head_before (take used kept) (drop used kept ++ left) [] is.head is.whole);
      served = served_head (take used kept) peer q is now;
      request = is.request;
    }

pub refused_before : (kept left : List ℕ) (status : ℕ) → IsRefused kept status → IsRefused (kept ++ left) status
refused_before kept left status is = record {
  head = is.head;
  rest = is.rest ++ left;
  reads = head_before kept left is.rest is.head is.reads;
  refused = is.refused;
}

abbrev IsLineByte : ℕ → Type 0
IsLineByte b = IsTrue (b == 13 || b == 10)

blank_front : (kept left : List ℕ) → IsBlank (kept ++ left) → IsBlank kept
blank_front kept left blank = record {
  bytes = subst (All IsLineByte) (take-append_seam kept left) (All-take IsLineByte (length kept) (kept ++ left) blank.bytes);
  few = omega (arith, blank.few, length-append kept left);
}

-- a head within the bound that begins longer bytes begins the first 65,536 of them
head_within : (kept left rest : List ℕ) (h : RequestHead) → length kept ≡ 65536 → HasHead (kept ++ left) h rest → (behind : List ℕ) × HasHead kept h behind
head_within kept left rest h full has =
    let text = print_request h in
    let n = length text in
    let fits : n ≤ length kept =
    omega (arith, full, has.bytes_fit, length-append kept left, ap length has.reads.1, length-append text rest) in
    let front : take n kept ≡ text = sym (take-append-le n kept left fits) ∙ ap (take n) has.reads.1 ∙ take-append_seam text rest in (
      drop n kept,
      record {
        reads = (has.reads.0, sym (take-append-drop n kept) ∙ ap (λ (l : List ℕ). l ++ drop n kept) front);
        bytes_fit = omega (arith, full);
        fields_fit = has.fields_fit;
      },
    )

-- bytes that will be no head, with what is left behind them
pub hopeless_before : (kept left : List ℕ) (ended : Bool) → IsNoRequest kept → IsHopeless kept ended → (IsTrue ended → left ≡ []) → IsNoRequest (kept ++ left)
hopeless_before kept left ended none (inl over) drained =
    subst IsNoRequest (sym (ap (λ (l : List ℕ). kept ++ l) (drained over) ∙ append-nil kept)) none
hopeless_before kept left ended none (inr (inl full)) drained = record {
  no_head = λ h rest has. let within = head_within kept left rest h full has in none.no_head h within.0 within.1;
  not_blank = λ blank. omega (arith, full, blank.few, length-append kept left);
}
hopeless_before kept left ended none (inr (inr never)) drained = record {
  no_head = λ h rest has. never left h rest has.reads;
  not_blank = λ blank. none.not_blank (blank_front kept left blank);
}
