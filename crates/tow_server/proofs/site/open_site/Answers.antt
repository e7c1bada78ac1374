use Rattle.std.proofs.Common.{ℕ, List, subst}
use Rattle.tow_site.specs.Compiled.{IsFaultOfText}
use Rattle.tow_server.proofs.Joining.{lacks_tree}
use Rattle.tow_server.proofs.site.open_site.Goals as goal

pub returns-clause-lacks : goal.returns-clause-lacks
returns-clause-lacks g c =
    let mid = g.H.Host.held c.load_text.new.host in
    let made = g.H.Host.held c.compile_text.new.host in
    lacks_tree c.args.name.now (g.H.Text.Source.shows c.in-Ok.loaded.source) c.in-Ok.loaded.bytes.items c.in-Err-compile_text.fault c.refuse_fault.result (g.H.Host.held c.args.host.now) mid made
    (g.H.Host.held c.refuse_fault.new.host) c.requires c.in-Ok.ensures.loads
    (subst (λ (bytes : List ℕ). IsFaultOfText bytes mid.larges made.larges c.in-Err-compile_text.fault) c.as_slice.ensures.value c.in-Err-compile_text.ensures.fault) c.compile_text.ensures.rest
    c.refuse_fault.ensures
