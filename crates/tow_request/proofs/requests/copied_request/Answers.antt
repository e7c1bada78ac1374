use Rattle.std.proofs.Common.{◌∙◌, take}
use Rattle.tow_request.specs.Lines.{fields_at}
use Rattle.tow_request.specs.Refusals.{place_by}
use Rattle.tow_request.proofs.Spans.{same_fields}
use Rattle.tow_request.proofs.Refusing.{same_parts}
use Rattle.tow_request.proofs.requests.copied_request.Goals as goal

pub returns : goal.returns
returns c = λ h at named.
    same_parts c.args.peer h c.args.head.version (fields_at c.args.bytes.now (take c.args.head.headers c.args.headers.now)) (place_by c.args.place)
    c.in_ok-method.method c.in_ok-target.target c.version_of-version.result c.in_ok-fields.fields c.framing_of-framing.result c.is_expecting.result c.is_kept.result
    at.version (same_fields c.args.bytes.now c.args.headers.now c.args.head h at) named (c.in_ok-method.ensures ∙ c.of.ensures ∙ at.method)
    (c.in_ok-target.ensures ∙ c.of-2.ensures ∙ at.path) c.version_of-version.ensures c.in_ok-fields.ensures c.framing_of-framing.ensures c.is_expecting.ensures c.is_kept.ensures
