use Rattle.std.proofs.Common.{◌≡◌, ◌++◌, true, false, codes, ◌∷◌, [], rules, subst, IfSome, IfOk}
use Rattle.tow_model.specs.Texts.{Text, ends_in, is_among}
use Rattle.tow_semantics.specs.Pages.{directory_page, file_page, found_page, is_servable}
use Rattle.tow_page.specs.Answers.{IsPage}
use Rattle.tow_page.proofs.Looking.{found_is, found_directory, found_file}
use Rattle.tow_page.proofs.deciding.find_page.Goals as goal

pub returns-then-ends_with-clause-page : goal.returns-then-ends_with-clause-page
returns-then-ends_with-clause-page g c =
    let o = (g.F.Folder.shows c.args.folder.now).told in
    let location = c.args.location.now in
    let q = c.args.request.now in
    let x = c.args.x.now in
    let reads : is_among q.method (codes "GET" ∷ codes "HEAD" ∷ []) ≡ true = search rules in
    let servable : is_servable (location ++ x.path) ≡ true = search rules in
    let ends : ends_in (codes "/") (location ++ x.path) ≡ true = search rules in
    let path : c.deref-then-ends_with.result.now ≡ location ++ x.path = search rules in
    found_is o _ (λ files. directory_page files c.args.listing q x (location ++ x.path))
    (λ files. found_page files location c.args.listing q x) (λ files. found_directory files location c.args.listing q x reads servable ends)
    (subst (λ (p : Text). IfSome o (λ files. IfOk c.directory_page.result (IsPage (directory_page files c.args.listing q x p)))) path c.directory_page.ensures.page)

pub returns-else-ends_with-clause-page : goal.returns-else-ends_with-clause-page
returns-else-ends_with-clause-page g c =
    let o = (g.F.Folder.shows c.args.folder.now).told in
    let location = c.args.location.now in
    let q = c.args.request.now in
    let x = c.args.x.now in
    let reads : is_among q.method (codes "GET" ∷ codes "HEAD" ∷ []) ≡ true = search rules in
    let servable : is_servable (location ++ x.path) ≡ true = search rules in
    let ends : ends_in (codes "/") (location ++ x.path) ≡ false = search rules in
    let path : c.in_ok-path.path.items ≡ location ++ x.path = search rules in
    found_is o _ (λ files. file_page files q x (location ++ x.path))
    (λ files. found_page files location c.args.listing q x) (λ files. found_file files location c.args.listing q x reads servable ends)
    (subst (λ (p : Text). IfSome o (λ files. IfOk c.file_page.result (IsPage (file_page files q x p)))) path c.file_page.ensures.page)
