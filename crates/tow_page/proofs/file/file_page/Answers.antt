use Rattle.std.proofs.Common.{ap, ◌∙◌}
use Rattle.std.proofs.lemmas.Option.{IfSome_then}
use Rattle.tow_folder.specs.Folders.{look_for}
use Rattle.tow_semantics.specs.Files as maps
use Rattle.tow_semantics.specs.Pages.{page_for}
use Rattle.tow_page.specs.Answers.{served_at}
use Rattle.tow_page.proofs.Askable.{file_is_askable}
use Rattle.tow_page.proofs.Looking.{file_page_is}
use Rattle.tow_page.proofs.file.file_page.Goals as goal

pub look-requires : goal.look-requires
look-requires g c = rw c.deref.ensures.value (file_is_askable c.args.path.items c.requires.servable c.requires.file)

pub served-requires : goal.served-requires
served-requires g c = rw c.from_vec.ensures (file_is_askable c.args.path.items c.requires.servable c.requires.file)

pub returns-in-File-clause-page : goal.returns-in-File-clause-page
returns-in-File-clause-page g c =
    let q = c.args.request.now in
    let x = c.args.x.now in
    IfSome_then (g.F.Folder.shows c.args.folder.now).told c.in-File.ensures.found
    (λ files looked. file_page_is files q x c.args.path.items c.in-File.len c.in-File.second c.served.result
    (looked ∙ ap (λ p. look_for (maps.look files p)) c.deref.ensures.value)
    (c.served.ensures.page ∙ ap (λ p. page_for (served_at q x p c.in-File.len c.in-File.second)) c.from_vec.ensures))
