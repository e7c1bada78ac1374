-- What is sent for an exchange is what the wire has for it.
use Rattle.std.proofs.Common.{◌≡◌, ℕ, Bool, true, false, not, ◌&&◌, List, [], Option, if◌then◌else◌, refl, sym, ap, subst, ◌∙◌}
use Rattle.tow_model.specs.declared.request.Field.{Field}
use Rattle.tow_model.specs.declared.request.Request.{Request}
use Rattle.tow_model.specs.declared.answer.Answer.{Answer}
use Rattle.tow_model.specs.declared.content.Content.{Content}
use Rattle.tow_model.specs.declared.record.Record.{Record}
use Rattle.tow_model.specs.declared.record.Choice.{Choice}
use Rattle.tow_semantics.specs.Runs.{Ending, Run, is_decided}
use Rattle.tow_wire.specs.Answers.{answer, answer_of, closes}
use Rattle.tow_wire.specs.Wire.{answer_to}
use Rattle.tow_exchange.specs.Completions.{CompletedData}
use Rattle.tow_answer.specs.declared.content_use.ContentUse.{ContentUse}
use Rattle.tow_answer.specs.declared.content_use.ContentUse.TheVariants.{Unasked, Served, Refused}
use Rattle.tow_answer.specs.Uses.{IsUsed}
use Rattle.tow_sending.specs.Pieces.{Piece, texts}
use Rattle.tow_sending.proofs.Texts.{pieces_are}
use Rattle.tow_replies.specs.Replies.{Replies, RepliesBy, Sends, met_as}

not_not : (b : Bool) → b ≡ not (not b)
not_not true = refl
not_not false = refl

-- a decided exchange is answered as its answer says
replies : (run : Run) (c : CompletedData) (content : Option Content) (o : Ending) (pieces : List Piece) (ends : Bool) →
    run.moment c.connection c.number ≡ c.moment → is_decided o ≡ true →
    Sends c.request (answer_of c.request c.number c.moment content o) pieces ends →
    Replies run c.connection (met_as c content o) pieces ends
replies run c content o pieces ends moment decided sends =
    let a = answer_of c.request c.number c.moment content o in
    let here : answer_to run c.connection (met_as c content o) ≡ answer run.file c.request a =
    ap (λ (b : Bool). if b then answer run.file c.request (answer_of c.request c.number (run.moment c.connection c.number) content o) else []) decided
    ∙ ap (λ m. answer run.file c.request (answer_of c.request c.number m content o)) moment in
    record {
      text = ap (texts run.file) sends.whole ∙ pieces_are run.file c.request a ∙ sym here;
      last = sends.last ∙ not_not (closes c.request c.number content o)
          ∙ sym (ap (λ (b : Bool). not (b && not (closes c.request c.number content o))) decided);
    }

-- ---- an answer is what its record has of it

-- the outcome with another record
abbrev with_record : Record → Ending → Ending
with_record x o = record o { state = x }

-- the outcome with another status, other fields and another choice
abbrev with_answer : Ending → ℕ → List Field → Choice → Ending
with_answer o status fields choice = record o { state = record o.state { status = status; fields = fields; choice = choice } }

module _ (q : Request) (j m : ℕ) (content : Option Content) (o : Ending) where
  abbrev answered : ℕ → List Field → Choice → Answer
  answered status fields choice = answer_of q j m content (with_answer o status fields choice)

  same_answer : (x : Record) → x.status ≡ o.state.status → x.fields ≡ o.state.fields → x.choice ≡ o.state.choice →
      answer_of q j m content (with_record x o) ≡ answer_of q j m content o
  same_answer x status fields choice =
      let first : answered x.status x.fields x.choice ≡ answered o.state.status x.fields x.choice =
      ap (λ (n : ℕ). answered n x.fields x.choice) status in
      let second : answered o.state.status x.fields x.choice ≡ answered o.state.status o.state.fields x.choice =
      ap (λ (fs : List Field). answered o.state.status fs x.choice) fields in
      let third : answered o.state.status o.state.fields x.choice ≡ answered o.state.status o.state.fields o.state.choice =
      ap (λ (c : Choice). answered o.state.status o.state.fields c) choice in
      first ∙ second ∙ third

used_with : (content_use : ContentUse) (x : Record) (content : Option Content) (o : Ending) → IsUsed content_use content o →
    IsUsed content_use content (with_record x o)
used_with Unasked x content o used = used
used_with Served x content o used = used
used_with Refused x content o used = used

-- the record's pieces are those of the exchange
pub replies_by : (content_use : ContentUse) (c : CompletedData) (x : Record) (pieces : List Piece) (ends : Bool) →
    ((content : Option Content) (o : Ending) → o.state ≡ x → IsUsed content_use content o →
    Sends c.request (answer_of c.request c.number c.moment content o) pieces ends) →
    RepliesBy content_use c x pieces ends
replies_by content_use c x pieces ends sends run content o moment is =
    let there = sends content (with_record x o) refl (used_with content_use x content o is.used) in
    let same = same_answer c.request c.number c.moment content o x is.status is.fields is.choice in
    replies run c content o pieces ends moment is.decided (subst (λ (a : Answer). Sends c.request a pieces ends) same there)
