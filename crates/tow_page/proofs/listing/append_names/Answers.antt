use Rattle.std.proofs.Common.{rules, ◌∙◌}
use Rattle.tow_folder.specs.Folders.{name_shown}
use Rattle.tow_semantics.specs.Pages.{name_line}
use Rattle.tow_page.proofs.Writing.{one_more}
use Rattle.tow_page.proofs.listing.append_names.Goals as goal

pub loop-name-preserved : goal.loop-name-preserved
loop-name-preserved c =
    c.in_ok-append_name.ensures
    ∙ one_more (λ name. name_line (name_shown name)) c.args.out.now.items c.loop-name.out.items c.args.names.now c.loop-name.name-index c.name-item.result c.loop-name-test.true
    (search rules) c.loop-name.invariant
