use Rattle.std.proofs.Common.{◌≡◌, ℕ, Bool, List, [], ◌∷◌, ◌++◌, codes, sym, ap, ◌∙◌, append_assoc}
use Rattle.tow_wire.specs.Answers.{closes, connection_fields, known_length, length_fields, sorted}
use Rattle.tow_model.specs.Dates.{date_of}
use Rattle.tow_model.specs.Fields.{field}
use Rattle.tow_model.specs.declared.answer.Answer.{Answer}
use Rattle.tow_model.specs.declared.record.Record.{Record}
use Rattle.tow_model.specs.declared.request.Field.{Field}
use Rattle.tow_model.specs.declared.request.Version.{Version}
use Rattle.tow_answer.proofs.answers.answer_to.Goals as goal

abbrev date_field : ℕ → List Field
date_field moment = field (codes "date") (date_of moment) ∷ []

-- the record's fields with those that the answer adds
abbrev all_fields : Version → ℕ → Record → Bool → List Field
all_fields version moment x close =
    (x.fields ++ (date_field moment ++ connection_fields version close)) ++ length_fields x.status version (known_length x.choice)

abbrev with_fields : Record → Bool → List Field → Answer
with_fields x close fields = record { status = x.status; fields = fields; choice = x.choice; close = close }

abbrev made : Version → ℕ → Record → Bool → Answer
made version moment x close = with_fields x close (sorted (all_fields version moment x close))

pub returns-clause-answer : goal.returns-clause-answer
returns-clause-answer c = λ content o same used.
    let x = c.args.state in
    let version = c.args.request.now.version in
    let close = c.closes-close.result in
    let connection = connection_fields version close in
    let length = length_fields x.status version (known_length x.choice) in
    let added : c.push_length.new.fields.items ≡ all_fields version c.args.moment x close =
    c.in_ok-push_length.ensures
    ∙ ap (λ l. l ++ length)
    (c.in_ok-push_connection.ensures ∙ ap (λ l. l ++ connection) c.in_ok-push_date.ensures
    ∙ ap (λ l. (l ++ date_field c.args.moment) ++ connection) c.into_vec-fields.ensures
    ∙ append_assoc x.fields (date_field c.args.moment) connection) in
    ap (λ fields. with_fields x close fields) (c.in_ok-fields.ensures ∙ ap sorted added)
    ∙ ap (λ b. made version c.args.moment x b) (c.closes-close.ensures content o (ap (λ s. s.choice) same) used)
    ∙ ap (λ s. made version c.args.moment s (closes c.args.request.now c.args.number content o)) (sym same)
