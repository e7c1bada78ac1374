use Rattle.std.proofs.Common.{◌++◌, ap, sym, ◌∙◌}
use Rattle.tow_language.specs.Tokens.{last_byte}
use Rattle.tow_print.proofs.Pieces.{last_append}
use Rattle.tow_print.proofs.printer.endings.last_of_form.Goals as goal

pub returns : goal.returns
returns c =
    let before = c.args.form.before.now in let name = c.args.form.name.now in let behind = c.args.form.behind.now in
    c.last_byte-3.ensures ∙ ap (λ k. last_byte k behind) (c.last_byte-2.ensures ∙ ap (λ k. last_byte k name) c.last_byte.ensures)
    ∙ sym (last_append c.args.before before (name ++ behind) ∙ last_append (last_byte c.args.before before) name behind)
