use Rattle.std.proofs.Common.{◌≡◌, codes, sym, ◌∙◌}
use Rattle.std.proofs.lemmas.Bool.Decides.{Decides-eqb}
use Rattle.std.proofs.lemmas.Slice.Eq.{bytes_eq-Decides, strip_prefix_is}
use Rattle.tow_folder.proofs.Below.{behind_is}
use Rattle.tow_folder.proofs.mapping.below.Goals as goal

pub returns-then-eq : goal.returns-then-eq
returns-then-eq c =
    let root : c.args.path.now ≡ codes "/" = (bytes_eq-Decides c.args.path.now c.as_slice.result.now).0 (sym c.eq.ensures ∙ c.if-eq.true) ∙ c.as_slice.ensures in
    rw root (behind_is (codes "/") c.args.name.now c.strip_prefix.result
    (strip_prefix_is Decides-eqb c.args.name.now (codes "/") c.strip_prefix.result c.strip_prefix.ensures.cases))
