use Rattle.std.proofs.Common.{◌≡◌, List, map, Option, option_map, option_copied, Bor, sym, ap, ap₂, ◌∙◌}
use Rattle.tow_model.specs.Texts.{Text}
use Rattle.tow_semantics.specs.Files.{names_in}
use Rattle.tow_folder.specs.declared.answers.Name.{Name}
use Rattle.tow_folder.specs.declared.memory_file.MemoryFile.{MemoryFile}
use Rattle.tow_folder.specs.Folders.{directory_of, name_shown}
use Rattle.tow_folder.specs.Memory.{files_told, child_named}
use Rattle.tow_folder.proofs.Children.{onto, onto_none, onto_step, with_child}
use Rattle.tow_folder.proofs.naming.names_in.Goals as goal

pub files-init : goal.files-init
files-init c =
    let left : c.into_iter-file-iterator.result.iter.rest.now ≡ c.args.files.now =
    cc (c.iter.ensures.rest, c.rev-file-items.ensures.source, c.into_iter-file-iterator.ensures.into_iter_gives) in
    onto_none (directory_of c.args.path.now) (files_told c.args.files.now)
    ∙ ap₂ (λ (names : List Name) (files : List MemoryFile). onto (directory_of c.args.path.now) (map name_shown names) (files_told files))
    (sym c.new-names.ensures.items) (sym left)

pub files-preserved : goal.files-preserved
files-preserved c =
    onto_step (directory_of c.args.path.now) (names_in (files_told c.args.files.now) (directory_of c.args.path.now))
    (map name_shown c.files.names.items) (map name_shown c.files.names.items)
    c.files.file-iterator.iter.rest.now c.next.new.self.iter.rest.now c.in-Some.file.now c.as_slice.result.now c.below.result
    c.in-Some.ensures.steps c.as_slice.ensures c.below.ensures
    (ap (λ (r : Option (Bor Text)). with_child (option_map child_named (option_copied r)) (map name_shown c.files.names.items)) (sym c.in_default.is))
    c.files.invariant

pub files-preserved-in-Continue-1 : goal.files-preserved-in-Continue-1
files-preserved-in-Continue-1 c =
    onto_step (directory_of c.args.path.now) (names_in (files_told c.args.files.now) (directory_of c.args.path.now))
    (map name_shown c.files.names.items) (map name_shown c.add_name.new.names.items)
    c.files.file-iterator.iter.rest.now c.next.new.self.iter.rest.now c.in-Some.file.now c.as_slice.result.now c.below.result
    c.in-Some.ensures.steps c.as_slice.ensures c.below.ensures
    (c.in_ok-add_name.ensures
    ∙ ap (λ (r : Option (Bor Text)). with_child (option_map child_named (option_copied r)) (map name_shown c.files.names.items)) (sym c.in-Some-below.is))
    c.files.invariant
