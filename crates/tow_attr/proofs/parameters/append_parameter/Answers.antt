use Rattle.std.proofs.Common.{◌≡◌, ◌++◌, ◌∙◌, OnOk, List, ℕ, Some, None, sym, ap, subst, append-nil}
use Rattle.percent_encoding.specs.Percent.{percent_decode}
use Rattle.tow_attr.proofs.Found.{parameter_bound}
use Rattle.tow_attr.proofs.parameters.append_parameter.Goals as goal

pub returns-in-Some : goal.returns-in-Some
returns-in-Some c =
    let P : List ℕ → Type 0 = λ v. OnOk c.append_to.result (c.append_to.new.out.items ≡ c.args.out.now.items ++ v) in
    subst P
    (c.percent_decode.ensures.bytes ∙ ap percent_decode c.value_of.ensures
    ∙ sym (parameter_bound c.args.name.now c.args.query.now (Some c.in-Some.parameter.now) c.in-Some.ensures))
    c.append_to.ensures.ok

pub returns-in-None : goal.returns-in-None
returns-in-None c =
    sym (append-nil c.args.out.now.items)
    ∙ ap (λ v. c.args.out.now.items ++ v) (sym (parameter_bound c.args.name.now c.args.query.now None c.in-None.ensures))
