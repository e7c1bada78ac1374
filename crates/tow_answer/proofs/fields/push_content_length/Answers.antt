use Rattle.std.proofs.Common.{◌≡◌, ◌++◌, ◌∷◌, [], List, ℕ, OnOk, codes, decimal, ap, ◌∙◌, subst}
use Rattle.tow_model.specs.Fields.{field}
use Rattle.tow_answer.proofs.fields.push_content_length.Goals as goal

pub returns : goal.returns
returns c =
    let shown : c.from_vec-value.result ≡ decimal c.args.len =
    c.from_vec-value.ensures ∙ ap (λ v. v.items) c.into_bytes.ensures.value ∙ c.in_ok-digits.ensures.ok in
    subst (λ (value : List ℕ). OnOk c.push_made.result (c.push_made.new.fields.items ≡ c.args.fields.now.items ++ field (codes "content-length") value ∷ [])) shown c.push_made.ensures
