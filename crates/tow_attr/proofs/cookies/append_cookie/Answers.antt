use Rattle.std.proofs.Common.{◌∙◌, ◌++◌, [], Some, None, sym, ap, append-nil}
use Rattle.std.specs.Option.{unwrap_or}
use Rattle.tow_model.specs.Texts.{after}
use Rattle.tow_attr.proofs.Found.{cookie_bound, on_written}
use Rattle.tow_attr.proofs.cookies.append_cookie.Goals as goal

pub returns-in-Some : goal.returns-in-Some
returns-in-Some c =
    on_written c.extend_from_slice.result c.extend_from_slice.new.self.items c.args.out.now.items c.value_of.result.now _ c.extend_from_slice.ensures.items
    (c.value_of.ensures ∙ ap (λ t. unwrap_or (after 61 t) []) c.trimmed.ensures
    ∙ sym (cookie_bound c.args.name.now c.args.fields.now (Some c.in-Some.cookie.now) c.in-Some.ensures))

pub returns-in-None : goal.returns-in-None
returns-in-None c =
    sym (append-nil c.args.out.now.items)
    ∙ ap (λ v. c.args.out.now.items ++ v) (sym (cookie_bound c.args.name.now c.args.fields.now None c.in-None.ensures))
