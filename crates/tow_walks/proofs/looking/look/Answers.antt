use Rattle.std.proofs.Common.{rules, ◌≡◌, ◌≢◌, IfSome, subst}
use Rattle.tow_model.specs.declared.page.Page.TheVariants as pages
use Rattle.tow_model.specs.declared.request.Request.{Request}
use Rattle.tow_model.specs.declared.record.Record.{Record}
use Rattle.tow_model.specs.Texts.{Text}
use Rattle.tow_semantics.specs.Pages.{found_page}
use Rattle.tow_page.specs.Answers.{IsPage}
use Rattle.tow_walks.proofs.Finding.{looks}
use Rattle.tow_walks.proofs.looking.look.Goals as goal

pub returns-in-Ok-clause-given : goal.returns-in-Ok-clause-given
returns-in-Ok-clause-given g c =
    let page = c.decide-page.result in
    let e = c.args.exchange.now in
    let told = (g.F.Folder.shows c.args.folder.now).told in
    let fault : page ≢ pages.FolderFault = search rules in
    let want : page ≢ pages.NoMemory = search rules in
    let location : c.as_slice.result.now ≡ c.args.location.now = search rules in
    let request : c.request.result.now ≡ e.request = search rules in
    let state : c.state.result.now ≡ e.stand.state = search rules in
    let shown =
    subst (λ (x : Record). IfSome told (λ files. IsPage (found_page files c.args.location.now c.args.listing e.request x) page)) state
    (subst (λ (q : Request). IfSome told (λ files. IsPage (found_page files c.args.location.now c.args.listing q c.state.result.now) page)) request
    (subst (λ (l : Text). IfSome told (λ files. IsPage (found_page files l c.args.listing c.request.result.now c.state.result.now) page)) location
    c.decide-page.ensures.page)) in
    λ given. looks e c.give_page.new.self c.args.location.now c.args.listing page c.requires.waits fault want
    c.decide-page.ensures.given c.in-Ok.ensures.ok told shown
