-- How the steps of a conversation join, and what one request, a refusal and the end of the input write.
use Rattle.std.proofs.Common.{◌≡◌, ℕ, suc, ◌⊎◌, Bool, true, false, not, if◌then◌else◌, List, [], ◌++◌, refl, sym, ap, ◌∙◌, subst, append_assoc}
use Rattle.std.proofs.lemmas.List.{append-nil}
use Rattle.tow_model.specs.declared.content.Content.TheVariants.{Whole}
use Rattle.tow_model.specs.declared.request.Framing.{Framing}
use Rattle.tow_model.specs.declared.request.Framing.TheVariants.{Empty}
use Rattle.tow_model.specs.declared.request.Request.{Request}
use Rattle.tow_wire.specs.Answers.{refusal_text}
use Rattle.tow_message.specs.Contents.{HasContent}
use Rattle.tow_semantics.specs.Runs.{Run}
use Rattle.tow_message.specs.Stream.{Stream, nothing, refused, last, next, IsBlank, IsNoRequest, IsRefused, HasRequest, ReadsStream}
use Rattle.tow_wire.specs.Wire.{meet, left_by, goes_on, wire_from}
use Rattle.tow_message.proofs.ContentLemmas.{content_is_one}
use Rattle.tow_message.proofs.StreamLemmas.{blank_has_none, one_request, refused_is_none, whole_is_some, bytes_of_whole, stream_is_one}
use Rattle.tow_model.specs.declared.limits.TheConstants.{LOCAL_PEER}
use Rattle.tow_conn.specs.Conversations.{no_content, Leads, Ends, Answers}

-- no step
pub leads_nowhere : (run : Run) (j : ℕ) (input : List ℕ) → Leads run j input [] j input
leads_nowhere run j input stream reads = (stream, reads, refl)

-- the same bytes in other words
pub leads_same : (run : Run) (j : ℕ) (input other : List ℕ) → input ≡ other → Leads run j input [] j other
leads_same run j input other same stream reads = (stream, subst (λ (l : List ℕ). ReadsStream LOCAL_PEER l stream) same reads, refl)

-- some steps and then others
pub leads_further : (run : Run) (a b c : ℕ) (x y z first second : List ℕ) → Leads run a x first b y → Leads run b y second c z → Leads run a x (first ++ second) c z
leads_further run a b c x y z first second one two stream reads =
    let mid = one stream reads in
    let end = two mid.0 mid.1 in
    (end.0, end.1, mid.2 ∙ ap (λ (l : List ℕ). first ++ l) end.2 ∙ sym (append_assoc first second (wire_from run 0 c end.0 [])))

-- some steps and then the end
pub leads_to_end : (run : Run) (a b : ℕ) (x y first second : List ℕ) → Leads run a x first b y → Ends run b y second → Ends run a x (first ++ second)
leads_to_end run a b x y first second one two stream reads =
    let mid = one stream reads in mid.2 ∙ ap (λ (l : List ℕ). first ++ l) (two mid.0 mid.1)

-- ---- what is at the front decides the stream

-- without content the bytes behind the head are the next ones
empty_content : (rest : List ℕ) → HasContent Empty rest (Whole []) rest
empty_content rest = record { text = []; is_content = (refl, refl); joined = refl }

pub request_stream : (input rest : List ℕ) (q : Request) (s : Stream) → HasRequest LOCAL_PEER input q rest → q.framing ≡ Empty → ReadsStream LOCAL_PEER input s
    → (t : Stream) × (s ≡ next q [] t) × ReadsStream LOCAL_PEER rest t
request_stream input rest q nothing has empty reads = absurd (blank_has_none input has.head rest reads has.reads)
request_stream input rest q (refused n) has empty reads = absurd (refused_is_none LOCAL_PEER input n q rest reads has)
request_stream input rest q (last p content) has empty (behind, had, gives, not_whole) =
    let same = one_request LOCAL_PEER input p q behind rest had has in
    let framing : p.framing ≡ Empty = ap (λ (r : Request). r.framing) same.0 ∙ empty in
    absurd (whole_is_some p.framing behind [] behind content gives not_whole (subst (λ (f : Framing). HasContent f behind (Whole []) behind) (sym framing) (empty_content behind)))
request_stream input rest q (next p bytes t) has empty (behind, after, had, content, later) =
    let same = one_request LOCAL_PEER input p q behind rest had has in
    let framing : p.framing ≡ Empty = ap (λ (r : Request). r.framing) same.0 ∙ empty in
    let both = content_is_one Empty behind (Whole bytes) (Whole []) after behind (subst (λ (f : Framing). HasContent f behind (Whole bytes) after) framing content) (empty_content behind) in (
      t,
      ap (λ (r : Request). next r bytes t) same.0 ∙ ap (λ (l : List ℕ). next q l t) (bytes_of_whole bytes [] both.0),
      subst (λ (l : List ℕ). ReadsStream LOCAL_PEER l t) (both.1 ∙ same.1) later,
    )

-- ---- steps

branch : (goes : Bool) (close : Bool) (a : List ℕ) → goes ≡ not close → (if goes then a else []) ≡ (if close then [] else a)
branch goes true a is = ap (λ (b : Bool). if b then a else []) is
branch goes false a is = ap (λ (b : Bool). if b then a else []) is

request_wire : (run : Run) (j : ℕ) (q : Request) (t : Stream) (text : List ℕ) (close : Bool) → Answers run j q text close
    → wire_from run 0 j (next q [] t) [] ≡ text ++ (if close then [] else wire_from run 0 (suc j) t [])
request_wire run j q t text close is =
    ap (λ (l : List ℕ). l ++ (if goes_on (meet run 0 j q no_content []) then wire_from run 0 (suc j) t (left_by run 0 j q no_content []) else [])) is.text_is
    ∙ ap (λ (l : List ℕ). text ++ l) (branch _ close _ is.goes)
    ∙ ap (λ v. text ++ (if close then [] else wire_from run 0 (suc j) t v)) is.leaves

-- a request whose answer does not close
pub request_leads : (run : Run) (j : ℕ) (input rest : List ℕ) (q : Request) (text : List ℕ) → HasRequest LOCAL_PEER input q rest → q.framing ≡ Empty
    → Answers run j q text false → Leads run j input text (suc j) rest
request_leads run j input rest q text has empty is stream reads =
    let front = request_stream input rest q stream has empty reads in
    (front.0, front.2, ap (λ (s : Stream). wire_from run 0 j s []) front.1 ∙ request_wire run j q front.0 text false is)

-- one whose answer closes
pub request_ends : (run : Run) (j : ℕ) (input rest : List ℕ) (q : Request) (text : List ℕ) → HasRequest LOCAL_PEER input q rest → q.framing ≡ Empty
    → Answers run j q text true → Ends run j input text
request_ends run j input rest q text has empty is stream reads =
    let front = request_stream input rest q stream has empty reads in
    ap (λ (s : Stream). wire_from run 0 j s []) front.1 ∙ request_wire run j q front.0 text true is ∙ append-nil text

-- a head that is refused, or bytes that are none
pub refusal_ends : (run : Run) (j : ℕ) (input : List ℕ) (status : ℕ) → IsRefused input status ⊎ (IsNoRequest input × (status ≡ 400))
    → Ends run j input (refusal_text status (run.moment 0 j))
refusal_ends run j input status is stream reads =
    ap (λ (s : Stream). wire_from run 0 j s []) (stream_is_one LOCAL_PEER input stream (refused status) reads is)

-- the input ended on line ends alone
pub blank_ends : (run : Run) (j : ℕ) (input : List ℕ) → IsBlank input → Ends run j input []
blank_ends run j input is stream reads =
    ap (λ (s : Stream). wire_from run 0 j s []) (stream_is_one LOCAL_PEER input stream nothing reads is)
