use Rattle.std.proofs.Common.{◌≡◌, ◌∙◌, sym, ap, Some, None, slice_get}
use Rattle.std.specs.Option.{option_and_then, option_copied}
use Rattle.tow_program.specs.Actions.{format_in, formats_in}
use Rattle.tow_program.proofs.Logs.{log_stands, no_log}
use Rattle.tow_program.proofs.program.Program.format.Goals as goal

pub returns-in_err-at : goal.returns-in_err-at
returns-in_err-at c =
    let lacks = no_log c.self.inside.instructions c.args.number
    (ap (λ logs. slice_get logs c.args.number) (sym c.self.invariant.0) ∙ sym c.in_err-at.ensures.value) in
    ap option_copied c.from_residual.ensures ∙ sym (ap (λ p. slice_get (formats_in p) c.args.number) (sym c.self.view_is) ∙ lacks)

pub returns-in_err-get : goal.returns-in_err-get
returns-in_err-get c =
    let stands = log_stands c.self.inside.instructions c.args.number c.in_ok-at.field-0.now
    (ap (λ logs. slice_get logs c.args.number) (sym c.self.invariant.0) ∙ sym c.in_ok-at.ensures.value) in
    ap option_copied c.from_residual-in_err-get.ensures ∙ ap (λ o. option_and_then format_in o) c.in_err-get.ensures.value
    ∙ stands ∙ ap (λ p. slice_get (formats_in p) c.args.number) c.self.view_is

pub returns : goal.returns
returns c =
    let stands = log_stands c.self.inside.instructions c.args.number c.in_ok-at.field-0.now
    (ap (λ logs. slice_get logs c.args.number) (sym c.self.invariant.0) ∙ sym c.in_ok-at.ensures.value) in
    c.format.ensures ∙ ap (λ o. option_and_then format_in o) c.in_ok-get.ensures.value
    ∙ stands ∙ ap (λ p. slice_get (formats_in p) c.args.number) c.self.view_is
