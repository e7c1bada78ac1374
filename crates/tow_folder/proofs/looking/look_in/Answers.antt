use Rattle.std.proofs.Common.{◌≡◌, codes, sym, ◌∙◌}
use Rattle.std.proofs.lemmas.Slice.Eq.{bytes_eq-Decides}
use Rattle.tow_folder.proofs.Maps.{root_look}
use Rattle.tow_folder.proofs.looking.look_in.Goals as goal

pub returns-then-eq : goal.returns-then-eq
returns-then-eq c =
    let root : c.args.path.now ≡ codes "/" = (bytes_eq-Decides c.args.path.now c.as_slice.result.now).0 (sym c.eq.ensures ∙ c.if-eq.true) ∙ c.as_slice.ensures in
    root_look c.args.files.now c.args.path.now c.is_empty.result c.directory_or_absent.result c.requires root c.is_empty.ensures c.directory_or_absent.ensures
