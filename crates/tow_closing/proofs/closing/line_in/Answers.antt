use Rattle.std.proofs.Common.{rules, ◌≡◌, [], None, slice_get, sym, ap, subst, ◌∙◌, IfOk}
use Rattle.std.proofs.lemmas.Option.{unwrap_or-slice_get}
use Rattle.std.specs.Option.{unwrap_or}
use Rattle.tow_program.specs.Actions.{formats_in}
use Rattle.tow_semantics.specs.Listeners.{at_number}
use Rattle.tow_semantics.specs.Values.{line_of}
use Rattle.tow_closing.proofs.closing.line_in.Goals as goal

pub returns-in-None : goal.returns-in-None
returns-in-None c =
    let formats = formats_in c.args.program.now in
    let none : slice_get formats c.args.number ≡ None = search rules in
    let empty : at_number c.args.number formats ≡ [] =
    sym (unwrap_or-slice_get formats c.args.number []) ∙ ap (λ o. unwrap_or o []) none in
    let format : c.new.result ≡ at_number c.args.number formats = c.new.ensures ∙ sym empty in
    subst (λ f. IfOk c.line-in-None-2.result (λ text. text ≡ line_of f c.args.request.now c.args.state.now c.args.moment))
    format c.line-in-None-2.ensures.exact
