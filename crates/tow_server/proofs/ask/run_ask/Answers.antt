use Rattle.std.proofs.Common.{◌∙◌, ap, sym}
use Rattle.tow_site.specs.Built.{is_built}
use Rattle.tow_server.proofs.Joining.{asks_nothing, asks_served, asks_unbuilt}
use Rattle.tow_server.proofs.ask.run_ask.Goals as goal

pub returns-then-not-is_built-clause-asked : goal.returns-then-not-is_built-clause-asked
returns-then-not-is_built-clause-asked g c =
    asks_unbuilt c.args.text.now c.args.moment c.in-Ok.opened.site (g.H.Text.Source.shows c.in-Ok.opened.source) (g.H.Host.held c.args.host.now) (g.H.Host.held c.open_site.new.host)
    (g.H.Host.held c.refuse_text.new.host) c.in-Ok.ensures.opens (ap is_built (sym c.tree.ensures.tree) ∙ sym c.is_built.ensures ∙ c.if-not-is_built.true) c.refuse_text.ensures

pub returns-else-not-is_built-clause-asked : goal.returns-else-not-is_built-clause-asked
returns-else-not-is_built-clause-asked g c =
    asks_served c.args.text.now c.args.moment c.in-Ok.opened.site (g.H.Text.Source.shows c.in-Ok.opened.source) c.answer_input.result
    (g.H.Host.held c.args.host.now) (g.H.Host.held c.open_site.new.host) (g.H.Host.held c.answer_input.new.host)
    c.in-Ok.ensures.opens (ap is_built (sym c.tree.ensures.tree) ∙ sym c.is_built.ensures ∙ c.if-not-is_built.false) c.answer_input.ensures

pub returns-in-Err-clause-asked : goal.returns-in-Err-clause-asked
returns-in-Err-clause-asked g c =
    asks_nothing c.args.text.now c.args.moment c.in-Err.status (g.H.Host.held c.args.host.now) (g.H.Host.held c.open_site.new.host) c.in-Err.ensures.lacks
