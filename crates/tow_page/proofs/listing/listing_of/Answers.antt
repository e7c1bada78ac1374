use Rattle.std.proofs.Common.{◌++◌, ◌∙◌, codes, ap, flat_map}
use Rattle.tow_folder.specs.Folders.{name_shown}
use Rattle.tow_semantics.specs.Pages.{html, name_line}
use Rattle.tow_page.proofs.Writing.{flat_map_map, page_is}
use Rattle.tow_page.proofs.listing.listing_of.Goals as goal

pub returns : goal.returns
returns c =
    let names = c.args.names.now in
    let path = html c.args.path.now in
    let a = codes "<!DOCTYPE html>\n" in
    let b = codes "<html><head><title>Index of " in
    let c2 = codes "</title></head><body>" in
    let d = codes "<ul>\n" in
    let e = codes "</ul>\n" in
    let f = codes "</body></html>\n" in
    rw (
      c.from_vec.ensures,
      c.in_ok-extend_from_slice-3.ensures.items,
      c.in_ok-append_names.ensures,
      c.in_ok-extend_from_slice-2.ensures.items,
      c.in_ok-append_html.ensures,
      c.in_ok-extend_from_slice.ensures.items,
      c.new-out.ensures.items,
    )
    (page_is a b path c2 (codes "\n") d (flat_map (λ name. name_line (name_shown name)) names) e f
    ∙ ap (λ t. ((((a ++ (((b ++ path) ++ c2) ++ codes "\n")) ++ d) ++ t) ++ e) ++ f) (flat_map_map name_line name_shown names))
