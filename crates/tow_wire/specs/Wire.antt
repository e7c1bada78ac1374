-- What a connection writes, and the exchanges on the way.
use Rattle.std.specs.Prelude.{ℕ, suc, Bool, not, ◌&&◌, List, [], ◌∷◌, ◌++◌, flat_map, Option, Some, if◌then◌else◌}
use Rattle.tow_model.specs.declared.request.Request.{Request}
use Rattle.tow_model.specs.declared.content.Content.{Content}
use Rattle.tow_model.specs.declared.content.Content.TheVariants.{Whole}
use Rattle.tow_model.specs.declared.account.Verdict.{Verdict}
use Rattle.tow_model.specs.Lists.{IsPrefix}
use Rattle.tow_semantics.specs.Runs.{Ending, Run, is_decided, OutcomesGrow}
use Rattle.tow_wire.specs.Answers.{closes, answer_of, answer, refusal_text, continue_text, is_invited}
use Rattle.tow_message.specs.Stream.{Stream, nothing, refused, last, next}

-- an exchange: its number in the connection, its request, the content of that, and what it ends with
pub record Met : Type 0 where
  pub number : ℕ
  pub request : Request
  pub content : Option Content
  pub outcome : Ending

-- the exchange of request j of connection k, under these verdicts
abbrev pub meet : Run → ℕ → ℕ → Request → Option Content → List Verdict → Met
meet run k j q content verdicts = record {
  number = j;
  request = q;
  content = content;
  outcome = (run.outcome q (run.moment k j) content verdicts).outcome;
}

-- the verdicts that it leaves
abbrev pub left_by : Run → ℕ → ℕ → Request → Option Content → List Verdict → List Verdict
left_by run k j q content verdicts = (run.outcome q (run.moment k j) content verdicts).left

abbrev pub invitation_to : Met → List ℕ
invitation_to e = if is_invited e.request e.outcome then continue_text else []

abbrev pub answer_to : Run → ℕ → Met → List ℕ
answer_to run k e =
    if is_decided e.outcome
    then answer run.file e.request (answer_of e.request e.number (run.moment k e.number) e.content e.outcome)
    else []

-- all that is written for an exchange
abbrev pub text_of : Run → ℕ → Met → List ℕ
text_of run k e = invitation_to e ++ answer_to run k e

abbrev pub texts_of : Run → ℕ → List Met → List ℕ
texts_of run k exchanges = flat_map (text_of run k) exchanges

-- the next request is read
abbrev pub goes_on : Met → Bool
goes_on e = is_decided e.outcome && not (closes e.request e.number e.content e.outcome)

-- what connection k writes from request j on
abbrev pub wire_from : Run → ℕ → ℕ → Stream → List Verdict → List ℕ
wire_from run k j nothing v = []
wire_from run k j (refused status) v = refusal_text status (run.moment k j)
wire_from run k j (last q content) v = text_of run k (meet run k j q content v)
wire_from run k j (next q bytes rest) v =
    let e = meet run k j q (Some (Whole bytes)) v in
    text_of run k e ++ (if goes_on e then wire_from run k (suc j) rest (left_by run k j q (Some (Whole bytes)) v) else [])

-- the exchanges from request j on
abbrev pub met_from : Run → ℕ → ℕ → Stream → List Verdict → List Met
met_from run k j nothing v = []
met_from run k j (refused status) v = []
met_from run k j (last q content) v = meet run k j q content v ∷ []
met_from run k j (next q bytes rest) v =
    let e = meet run k j q (Some (Whole bytes)) v in
    e ∷ (if goes_on e then met_from run k (suc j) rest (left_by run k j q (Some (Whole bytes)) v) else [])

-- All that connection k writes for this stream under these verdicts.
abbrev pub wire : Run → ℕ → Stream → List Verdict → List ℕ
wire run k stream verdicts = wire_from run k 1 stream verdicts

-- Its exchanges.
abbrev pub met : Run → ℕ → Stream → List Verdict → List Met
met run k stream verdicts = met_from run k 1 stream verdicts

-- what is written with fewer verdicts is a front of what is written with more
abbrev pub WiresGrow : Type 0
WiresGrow =
    (run : Run) → OutcomesGrow run
    → (k : ℕ) (stream : Stream) (v more : List Verdict) → IsPrefix (wire run k stream v) (wire run k stream (v ++ more))
