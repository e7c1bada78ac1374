use Rattle.std.proofs.Common.{◌≡◌, ◌++◌, arith, sym, ap, ◌∙◌, refl, subst, IfSome}
use Rattle.std.proofs.Math.Seq.{take-append_seam}
use Rattle.tow_folder.specs.Folders.{Looks}
use Rattle.tow_folder.specs.declared.answers.Look.{Look}
use Rattle.tow_folder.specs.declared.answers.Look.TheVariants as look
use Rattle.tow_semantics.specs.Pages.{page_for}
use Rattle.tow_page.specs.Answers.{served_at}
use Rattle.tow_page.proofs.Askable.{welcome_is_askable}
use Rattle.tow_page.proofs.Welcome.{met, missed, others_kept}
use Rattle.tow_page.proofs.directory.welcome_page.Goals as goal
use Rattle.tow_page.proofs.directory.welcome_page.Goals.{in-Absent, in-Directory}

pub look-requires : goal.look-requires
look-requires g c =
    rw (c.deref.ensures.value, c.in_ok-extend_from_slice-2.ensures.items, c.truncate.ensures.items, c.loop-name.invariant.path)
    (welcome_is_askable c.args.directory.now c.in-Some.name.now c.requires.servable c.requires.directory c.in-Some.ensures.plain)

pub served-page-requires : goal.served-page-requires
served-page-requires g c =
    rw (c.from_vec.ensures, c.in_ok-extend_from_slice-2.ensures.items, c.truncate.ensures.items, c.loop-name.invariant.path)
    (welcome_is_askable c.args.directory.now c.in-Some.name.now c.requires.servable c.requires.directory c.in-Some.ensures.plain)

pub returns-in-File-clause-page : goal.returns-in-File-clause-page
returns-in-File-clause-page g c =
    let q = c.args.request.now in
    let x = c.args.x.now in
    let at : c.deref.result.now ≡ c.args.directory.now ++ c.in-Some.name.now =
    rw (c.deref.ensures.value, c.in_ok-extend_from_slice-2.ensures.items, c.truncate.ensures.items, c.loop-name.invariant.path) refl in
    met (g.F.Folder.shows c.args.folder.now).told (g.F.Folder.shows c.loop-name.folder).told q x c.args.directory.now c.deref.result.now
    c.loop-name.at c.in-Some.name.now c.in-File.len c.in-File.second c.served-page.result c.loop-name.invariant.told c.in-Some.ensures.name at
    (c.served-page.ensures.page ∙ ap (λ p. page_for (served_at q x p c.in-File.len c.in-File.second)) (c.from_vec.ensures ∙ sym c.deref.ensures.value))
    c.loop-name.invariant.files c.in-File.ensures.found

pub loop-name-preserved : goal.loop-name-preserved
loop-name-preserved g c =
    let o = (g.F.Folder.shows c.args.folder.now).told in
    let here = (g.F.Folder.shows c.loop-name.folder).told in
    let dir = c.args.directory.now in
    let name = c.in-Some.name.now in
    let at : c.deref.result.now ≡ dir ++ name =
    rw (c.deref.ensures.value, c.in_ok-extend_from_slice-2.ensures.items, c.truncate.ensures.items, c.loop-name.invariant.path) refl in
    record {
      path = rw (c.in_ok-extend_from_slice-2.ensures.items, c.truncate.ensures.items, c.loop-name.invariant.path) (take-append_seam dir name);
      files = elim c.match-look.branch [
        | in-Directory w ↦ missed o here dir c.deref.result.now c.loop-name.at name look.Directory c.loop-name.invariant.told c.in-Some.ensures.name at refl c.loop-name.invariant.files
            (subst (λ (r : Look). IfSome here (λ files. Looks files c.deref.result.now r)) w.in-Directory.is c.look.ensures.found)
        | in-Absent w ↦ missed o here dir c.deref.result.now c.loop-name.at name look.Absent c.loop-name.invariant.told c.in-Some.ensures.name at refl c.loop-name.invariant.files
            (subst (λ (r : Look). IfSome here (λ files. Looks files c.deref.result.now r)) w.in-Absent.is c.look.ensures.found)
      ];
      told = c.look.ensures.told ∙ c.loop-name.invariant.told;
      later = omega (arith, c.loop-name.invariant.later, c.look.ensures.later);
      others = others_kept _ _ _ c.args.k c.loop-name.invariant.others c.look.ensures.others;
    }
