use Rattle.std.proofs.Common.{◌≡◌, [], codes, if◌then◌else◌}
use Rattle.tow_model.specs.Texts.{escaped, is_unreserved}
use Rattle.tow_semantics.specs.Pages.{html}
use Rattle.tow_page.proofs.Writing.{line_is}
use Rattle.tow_page.proofs.listing.append_name.Goals as goal

pub returns : goal.returns
returns c =
    let name = c.args.name.now in
    let ending = if name.directory then codes "/" else [] in
    let plain : html ending ≡ ending = rw c.ending_of-ending.ensures.value at c.ending_of-ending.ensures.plain in
    rw (
      c.in_ok-extend_from_slice-5.ensures.items,
      c.in_ok-extend_from_slice-4.ensures.items,
      c.in_ok-append_html.ensures,
      c.in_ok-extend_from_slice-3.ensures.items,
      c.in_ok-extend_from_slice-2.ensures.items,
      c.in_ok-append_escaped.ensures,
      c.in_ok-extend_from_slice.ensures.items,
      c.as_slice.ensures,
      c.as_slice-2.ensures,
      c.ending_of-ending.ensures.value,
    )
    (line_is c.args.out.now.items (codes "<li><a href=\"") (escaped is_unreserved name.text) ending (codes "\">") name.text (codes "</a></li>") (codes "\n") plain)
