use Rattle.std.proofs.Common.{rules, ◌≡◌, filter_map, subst, sym, ap, ◌∙◌, IfOk}
use Rattle.tow_program.specs.Actions.{formats_in}
use Rattle.tow_exchange.specs.Completions.{CompletedData}
use Rattle.tow_closing.specs.Closings.{left_to_tell, line_told}
use Rattle.tow_closing.proofs.Telling.{lines_for_each, lines_in_turn}
use Rattle.tow_closing.proofs.closing.Closing.new.Goals as goal

pub invariant_of-t-10 : goal.invariant_of-t-10
invariant_of-t-10 c =
    let e = c.args.exchange in
    let formats = formats_in c.args.program.now in
    let all = subst (λ (d : CompletedData). IfOk c.lines_of-made.result (λ lines. lines.items
    ≡ filter_map (line_told formats d.request d.state d.moment) d.state.listeners)) c.complete-completed.ensures c.lines_of-made.ensures in
    let made : c.in-Ok.lines.items ≡ filter_map (line_told formats e.request e.stand.state e.moment) e.stand.state.listeners =
    subst (λ r. IfOk r (λ lines. lines.items ≡ filter_map (line_told formats e.request e.stand.state e.moment) e.stand.state.listeners))
    c.in-Ok.is all in
    λ kept. lines_for_each formats e.request e.stand.state e.moment e.stand.state.listeners c.in-Ok.lines.items made
    ∙ sym (ap (λ (d : CompletedData). left_to_tell d.left) c.complete-completed.ensures)

pub returns-in-Ok-clause-lines : goal.returns-in-Ok-clause-lines
returns-in-Ok-clause-lines c =
    let e = c.args.exchange in
    let formats = formats_in c.args.program.now in
    let all = subst (λ (d : CompletedData). IfOk c.lines_of-made.result (λ lines. lines.items
    ≡ filter_map (line_told formats d.request d.state d.moment) d.state.listeners)) c.complete-completed.ensures c.lines_of-made.ensures in
    let made : c.in-Ok.lines.items ≡ filter_map (line_told formats e.request e.stand.state e.moment) e.stand.state.listeners =
    subst (λ r. IfOk r (λ lines. lines.items ≡ filter_map (line_told formats e.request e.stand.state e.moment) e.stand.state.listeners))
    c.in-Ok.is all in
    λ kept. lines_in_turn formats e.request e.stand.state e.moment e.stand.state.listeners c.in-Ok.lines.items made
