use Rattle.std.proofs.Common.{◌∙◌, refl}
use Rattle.tow_folder.specs.declared.answers.Look.TheVariants as look
use Rattle.tow_page.proofs.Looking.{in_directory, no_directory, of_forbidden, of_listing, of_welcome}
use Rattle.tow_page.proofs.directory.directory_page.Goals as goal

pub returns-in-File-clause-page : goal.returns-in-File-clause-page
returns-in-File-clause-page g c =
    no_directory (g.F.Folder.shows c.args.folder.now).told c.args.listing c.args.request.now c.args.x.now c.without_slash-directory.result.now c.args.path.now
    (look.File c.in-File.len c.in-File.second) c.without_slash-directory.ensures.of refl (g.F.Folder.is_mapped c.args.folder.now) c.in-File.ensures.found

pub returns-in-Some-clause-page : goal.returns-in-Some-clause-page
returns-in-Some-clause-page g c =
    let o = (g.F.Folder.shows c.args.folder.now).told in
    in_directory o c.args.listing c.args.request.now c.args.x.now c.without_slash-directory.result.now c.args.path.now c.in-Some.page c.without_slash-directory.ensures.of
    (g.F.Folder.is_mapped c.args.folder.now) c.in-Directory.ensures.found
    (of_welcome o (g.F.Folder.shows c.look.new.self).told c.args.listing c.args.request.now c.args.x.now c.args.path.now c.in_ok-page.field-0 c.in-Some.page
    c.in-Directory.ensures.told c.in-Some.is c.in_ok-page.ensures.page)

pub returns-in-None-clause-page : goal.returns-in-None-clause-page
returns-in-None-clause-page g c =
    let o = (g.F.Folder.shows c.args.folder.now).told in
    of_listing o (g.F.Folder.shows c.look.new.self).told (g.F.Folder.shows c.welcome_page.new.folder).told c.args.listing c.args.request.now c.args.x.now
    c.without_slash-directory.result.now c.args.path.now c.in_ok-page.field-0 c.listing_page.result
    c.in-Directory.ensures.told c.in-None.is (c.in_ok-page.ensures.told ∙ c.in-Directory.ensures.told) c.without_slash-directory.ensures.of c.if-listing.true
    (g.F.Folder.is_mapped c.args.folder.now) c.in-Directory.ensures.found c.in_ok-page.ensures.page c.listing_page.ensures.page

pub returns-in-None-2-clause-page : goal.returns-in-None-2-clause-page
returns-in-None-2-clause-page g c =
    let o = (g.F.Folder.shows c.args.folder.now).told in
    of_forbidden o (g.F.Folder.shows c.look.new.self).told c.args.listing c.args.request.now c.args.x.now
    c.without_slash-directory.result.now c.args.path.now c.in_ok-page.field-0
    c.in-Directory.ensures.told c.in-None-2.is c.without_slash-directory.ensures.of c.if-listing.false
    (g.F.Folder.is_mapped c.args.folder.now) c.in-Directory.ensures.found c.in_ok-page.ensures.page
