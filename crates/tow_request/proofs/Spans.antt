-- What the spans show is what the head has.
use Rattle.std.proofs.Common.{◌≡◌, ℕ, List, [], ◌∷◌, map, take, refl, sym, ap, ◌∙◌}
use Rattle.httparse.specs.Grammar.{RequestHead, Field as Line, field_value}
use Rattle.httparse.specs.Spans.{IsRequestAt, header_bytes, name_and_value}
use Rattle.httparse.specs.declared.spans.HeaderSpan.{HeaderSpan}
use Rattle.httparse.specs.declared.spans.RequestSpans.{RequestSpans}
use Rattle.tow_model.specs.declared.request.Field.{Field}
use Rattle.tow_model.specs.Fields.{field}
use Rattle.tow_message.specs.Heads.{fields_of}
use Rattle.tow_request.specs.Lines.{field_at, fields_at}

abbrev field_from : List ℕ × List ℕ → Field
field_from p = field p.0 p.1

at_pairs : (bytes : List ℕ) (lines : List HeaderSpan) → map field_from (map (header_bytes bytes) lines) ≡ fields_at bytes lines
at_pairs bytes [] = refl
at_pairs bytes (l ∷ lines) = ap (λ k. field_at bytes l ∷ k) (at_pairs bytes lines)

of_pairs : (lines : List Line) → map field_from (map name_and_value lines) ≡ map (λ f. field f.name (field_value f)) lines
of_pairs [] = refl
of_pairs (f ∷ lines) = ap (λ k. field f.name (field_value f) ∷ k) (of_pairs lines)

-- the fields of a head are those of its lines
pub same_fields : (bytes : List ℕ) (headers : List HeaderSpan) (r : RequestSpans) (h : RequestHead) → IsRequestAt bytes headers r h
    → fields_at bytes (take r.headers headers) ≡ fields_of h
same_fields bytes headers r h at =
    sym (at_pairs bytes (take r.headers headers)) ∙ ap (map field_from) at.fields ∙ of_pairs h.fields
