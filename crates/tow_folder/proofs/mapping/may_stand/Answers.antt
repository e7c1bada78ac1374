use Rattle.std.proofs.Common.{◌≡◌, Bool, true, ◌&&◌, sym, ap, ◌∙◌}
use Rattle.std.specs.List.{list_all}
use Rattle.tow_model.specs.Texts.{Text}
use Rattle.tow_semantics.specs.Files.{File, is_name, are_apart}
use Rattle.tow_folder.specs.declared.memory_file.MemoryFile.{MemoryFile}
use Rattle.tow_folder.specs.Memory.{files_told}
use Rattle.tow_folder.proofs.Maps.{all_told}
use Rattle.tow_folder.proofs.mapping.may_stand.Goals as goal

pub returns-then-is_name : goal.returns-then-is_name
returns-then-is_name c =
    let name : is_name c.args.file.now.path ≡ true = sym (c.is_name.ensures ∙ ap is_name c.as_slice.ensures) ∙ c.if-is_name.true in
    c.is_apart.ensures
    ∙ ap (λ (path : Text). list_all (λ (g : MemoryFile). are_apart path g.path) c.args.others.now) c.as_slice-then-is_name.ensures
    ∙ all_told c.args.file.now.path c.args.others.now
    ∙ ap (λ (whole : Bool). whole && list_all (λ (g : File). are_apart c.args.file.now.path g.path) (files_told c.args.others.now)) (sym name)
