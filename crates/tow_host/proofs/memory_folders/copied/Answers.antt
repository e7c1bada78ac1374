use Rattle.std.proofs.Common.{◌∙◌, ap, refl}
use Rattle.tow_folder.specs.Memory.{files_told}
use Rattle.tow_host.proofs.Opening.{copied_on}
use Rattle.tow_host.proofs.memory_folders.copied.Goals as goal

pub files-preserved : goal.files-preserved
files-preserved c =
    ap files_told c.in_ok-push.ensures.items
    ∙ copied_on c.args.files.now c.files.copy.items c.files.file-index c.file-item.result _ c.files-test.true c.file-item.is c.files.invariant
    (c.in_ok-from_slice.ensures ∙ c.as_slice.ensures) refl (c.in_ok-from_slice-2.ensures ∙ c.as_slice-in-files.ensures)
