use Rattle.std.proofs.Common.{arith, codes, map, flat_map, drop, ◌≡◌, ◌++◌}
use Rattle.std.proofs.lemmas.Grind.{common_steps}
use Rattle.tow_language.specs.Printed.{printed_prefix, joined_by}
use Rattle.tow_print.proofs.Words.{row_is}
use Rattle.tow_print.proofs.printer.texts.put_prefixes.Goals as goal

pub returns : goal.returns
returns c =
    let xs = c.args.prefixes.now in
    let e : joined_by (codes ", ") (map printed_prefix xs) ≡ printed_prefix c.first-item.result ++ flat_map (λ t. codes ", " ++ printed_prefix t) (drop 1 xs) =
    row_is (codes ", ") printed_prefix c.first-item.result xs (omega (arith, c.in-len1-up.len_at_least)) c.first-item.is in
    rw e (grind (arith, common_steps))
