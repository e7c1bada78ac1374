use Rattle.std.proofs.Common.{rules, ◌≡◌, ◌<◌, [], ◌∷◌, ◌++◌, length, filter_map, take, sym, ap, ◌∙◌, slice_index_or}
use Rattle.std.proofs.lemmas.List.{take_more}
use Rattle.std.proofs.lemmas.List.Elements.{filter_map-append}
use Rattle.tow_model.specs.declared.record.Listener.{Listener}
use Rattle.tow_model.specs.declared.record.Listener.TheVariants.{Leave}
use Rattle.tow_program.specs.Actions.{formats_in}
use Rattle.tow_closing.specs.Closings.{line_told}
use Rattle.tow_closing.proofs.closing.lines_of.Goals as goal

pub loop-listener-preserved : goal.loop-listener-preserved
loop-listener-preserved c =
    let d = c.args.completed.now in
    let told = line_told (formats_in c.args.program.now) d.request d.state d.moment in
    let i = c.loop-listener.listener-index in
    let x : Listener = slice_index_or d.state.listeners i (Leave 0) in
    let within : i < length d.state.listeners = search rules in
    let gained : c.add_line.new.lines.items ≡ c.loop-listener.lines.items ++ filter_map told (x ∷ []) = search rules in
    gained
    ∙ ap (λ l. l ++ filter_map told (x ∷ [])) c.loop-listener.invariant
    ∙ sym (filter_map-append told (take i d.state.listeners) (x ∷ []))
    ∙ ap (λ l. filter_map told l) (sym (take_more d.state.listeners i (Leave 0) within))
