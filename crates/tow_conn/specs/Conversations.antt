-- How far a conversation has come: what was written leads from the bytes that stood open to those that stand open now.
use Rattle.std.specs.Prelude.{◌≡◌, ℕ, Bool, not, List, [], ◌++◌, Option, Some}
use Rattle.tow_model.specs.declared.content.Content.{Content}
use Rattle.tow_model.specs.declared.content.Content.TheVariants.{Whole}
use Rattle.tow_model.specs.declared.request.Request.{Request}
use Rattle.tow_model.specs.declared.limits.TheConstants.{LOCAL_PEER}
use Rattle.tow_semantics.specs.Runs.{Run}
use Rattle.tow_message.specs.Stream.{Stream, ReadsStream}
use Rattle.tow_wire.specs.Wire.{meet, left_by, text_of, goes_on, wire_from}

-- the content of a request that has none
abbrev pub no_content : Option Content
no_content = Some (Whole [])

-- However the bytes from request j on are read, this is written first, and then what the bytes left ask for from the next
-- request on.
abbrev pub Leads : Run → ℕ → List ℕ → List ℕ → ℕ → List ℕ → Type 0
Leads run j input written next left =
    (stream : Stream) → ReadsStream LOCAL_PEER input stream →
    (rest : Stream) × ReadsStream LOCAL_PEER left rest × (wire_from run 0 j stream [] ≡ written ++ wire_from run 0 next rest [])

-- However the bytes from request j on are read, just this is written.
abbrev pub Ends : Run → ℕ → List ℕ → List ℕ → Type 0
Ends run j input written = (stream : Stream) → ReadsStream LOCAL_PEER input stream → wire_from run 0 j stream [] ≡ written

-- the text is all that is written for request j, and close says whether it is the last
pub record Answers (run : Run) (j : ℕ) (q : Request) (text : List ℕ) (close : Bool) : Type 0 where
  pub text_is : text_of run 0 (meet run 0 j q no_content []) ≡ text
  pub goes : goes_on (meet run 0 j q no_content []) ≡ not close
  pub leaves : left_by run 0 j q no_content [] ≡ []
