use Rattle.std.proofs.Common.{◌≡◌, ℕ, List, ap, subst, sym}
use Rattle.std.specs.Prelude.{IfErr}
use Rattle.tow_host.specs.Held.{Held}
use Rattle.tow_site.specs.Compiled.{IsFaultOfText}
use Rattle.tow_server.proofs.Making.{makes_nothing}
use Rattle.tow_server.proofs.site.compile_text.Goals as goal

pub returns-clause-fault : goal.returns-clause-fault
returns-clause-fault g c =
    let old = c.args.host.now in
    let new = c.compile.new.maker in
    let text = c.args.text.now in
    let before : (g.H.Host.held old).larges ≡ g.H.Maker.larges old = ap (λ (h : Held). h.larges) (g.met.H.Host.stays_held old old (g.met.H.Maker.stays_same old)) in
    let now : (g.H.Host.held new).larges ≡ g.H.Maker.larges new = ap (λ (h : Held). h.larges) (g.met.H.Host.stays_held old new c.compile.ensures.stays) in
    subst (λ (counts : List ℕ → ℕ). IfErr c.compile.result (λ fault. IsFaultOfText text counts (g.H.Host.held new).larges fault)) (sym before)
    (subst (λ (counts : List ℕ → ℕ). IfErr c.compile.result (λ fault. IsFaultOfText text (g.H.Maker.larges old) counts fault)) (sym now) c.compile.ensures.fault)

pub returns-clause-made : goal.returns-clause-made
returns-clause-made g c =
    let old = c.args.host.now in
    let new = c.compile.new.maker in
    let before : (g.H.Host.held old).larges ≡ g.H.Maker.larges old = ap (λ (h : Held). h.larges) (g.met.H.Host.stays_held old old (g.met.H.Maker.stays_same old)) in
    makes_nothing c.compile.result (g.H.Maker.larges old) (g.H.Maker.larges new) (g.H.Host.held old) (g.H.Host.held new) c.compile.ensures.only before
    (g.met.H.Host.stays_held old new c.compile.ensures.stays)
