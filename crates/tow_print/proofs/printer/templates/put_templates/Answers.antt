use Rattle.std.proofs.Common.{arith, codes, map, flat_map, drop, ◌≡◌, ◌++◌}
use Rattle.std.proofs.lemmas.Grind.{common_steps}
use Rattle.tow_language.specs.Printed.{printed_template, joined_by}
use Rattle.tow_print.proofs.Words.{row_is}
use Rattle.tow_print.proofs.printer.templates.put_templates.Goals as goal

pub returns : goal.returns
returns c =
    let xs = c.args.templates.now in
    let e : joined_by (codes ", ") (map printed_template xs) ≡ printed_template c.first-item.result ++ flat_map (λ t. codes ", " ++ printed_template t) (drop 1 xs) =
    row_is (codes ", ") printed_template c.first-item.result xs (omega (arith, c.in-len1-up.len_at_least)) c.first-item.is in
    rw e (grind (arith, common_steps))
