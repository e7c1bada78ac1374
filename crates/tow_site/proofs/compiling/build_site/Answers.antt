use Rattle.std.proofs.Common.{◌≡◌, Err, ◌<◌, ◌∙◌, ℕ, List, All, IfSome, length, ap, sym, subst}
use Rattle.tow_model.specs.declared.statement.Statement.{Statement}
use Rattle.tow_pattern.specs.Patterns.{IsGoodPattern}
use Rattle.tow_site.specs.declared.fault.Fault.{Fault}
use Rattle.tow_site.specs.Compiled.{HasTree, IsFaultOfText, pattern_fault, pattern_texts, refused_number}
use Rattle.tow_pred.specs.declared.fault.PatternFault.TheVariants as patterns
use Rattle.tow_site.proofs.Faulting.{has_place, is_fault, is_numbered}
use Rattle.tow_site.proofs.compiling.build_site.Goals as goal

pub build-requires : goal.build-requires
build-requires g c = record { numbered = is_numbered c.args.text.now c.args.parsed.tree c.args.parsed.patterns c.requires.tree }

pub new-requires-clause-numbered : goal.new-requires-clause-numbered
new-requires-clause-numbered g c = is_numbered c.args.text.now c.args.parsed.tree c.args.parsed.patterns c.requires.tree

pub fault_of_pattern-requires-clause-placed : goal.fault_of_pattern-requires-clause-placed
fault_of_pattern-requires-clause-placed g c =
    subst (λ (places : List ℕ). IfSome (refused_number c.in-Err.fault) (λ n. n < length places)) (sym c.as_slice.ensures)
    (has_place c.args.text.now c.args.parsed.tree c.args.parsed.patterns c.requires.tree (g.M.Maker.larges c.args.maker.now) (g.M.Maker.larges c.build.new.maker) c.in-Err.fault c.in-Err.ensures.refused)

pub returns-in-Ok-new-clause-ok : goal.returns-in-Ok-new-clause-ok
returns-in-Ok-new-clause-ok g c =
    let text = c.args.text.now in
    let site = c.in-Ok-new.site in
    let kept = c.in-Ok-new.ensures in
    let built = c.in-Ok.ensures in
    let good : All IsGoodPattern (pattern_texts c.args.parsed.tree) = subst (λ (patterns : List (List ℕ)). All IsGoodPattern patterns) built.tests built.good in (
      subst (λ (tree : List Statement). HasTree text tree site.patterns) (sym kept.tree) (subst (λ (places : List ℕ). HasTree text c.args.parsed.tree places) (sym kept.patterns) c.requires.tree),
      subst (λ (tree : List Statement). All IsGoodPattern (pattern_texts tree)) (sym kept.tree) good,
    )

pub returns-in-Err-clause-fault : goal.returns-in-Err-clause-fault
returns-in-Err-clause-fault g c =
    let text = c.args.text.now in
    let before = g.M.Maker.larges c.args.maker.now in
    let now = g.M.Maker.larges c.build.new.maker in
    let told = c.fault_of_pattern.ensures ∙ ap (λ (places : List ℕ). pattern_fault text places c.in-Err.fault) c.as_slice.ensures in
    subst (λ (fault : Fault). IsFaultOfText text before now fault) (sym told)
    (is_fault text c.args.parsed.tree c.args.parsed.patterns c.requires.tree before now c.in-Err.fault c.in-Err.ensures.refused)

pub returns-in-Err-clause-only : goal.returns-in-Err-clause-only
returns-in-Err-clause-only g c other = c.in-Err.ensures.only (λ n is.
    let large : c.in-Err.fault ≡ patterns.LargePattern n = cc in
    let told : c.fault_of_pattern.result ≡ pattern_fault c.args.text.now c.as_slice.result.now (patterns.LargePattern n) =
    c.fault_of_pattern.ensures ∙ ap (pattern_fault c.args.text.now c.as_slice.result.now) large in
    other _ _ (ap Err told))
