use Rattle.std.proofs.Common.{◌≡◌, sym, map}
use Rattle.std.proofs.lemmas.Option.{IfSome_then}
use Rattle.tow_folder.specs.Folders.{directory_of, name_shown}
use Rattle.tow_semantics.specs.Pages.{listing_of}
use Rattle.tow_page.proofs.Looking.{listed}
use Rattle.tow_page.proofs.directory.listing_page.Goals as goal

pub returns-in_ok-bytes-in-Names-clause-page : goal.returns-in_ok-bytes-in-Names-clause-page
returns-in_ok-bytes-in-Names-clause-page g c =
    let is : c.in_ok-bytes-in-Names.bytes ≡ listing_of c.args.x.now.path (map name_shown c.in_order-names.result) =
    rw (sym c.as_slice.ensures, sym c.as_slice-in-Names.ensures) c.in_ok-bytes-in-Names.ensures in
    IfSome_then (g.F.Folder.shows c.args.folder.now).told c.in-Names.ensures.names
    (λ files moved. listed files (directory_of c.args.path.now) c.args.x.now (map name_shown c.in_order-names.result) c.in_ok-bytes-in-Names.bytes
    (map name_shown c.in-Names.names) moved c.in_order-names.ensures is)
