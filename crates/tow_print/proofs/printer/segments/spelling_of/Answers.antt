use Rattle.std.proofs.Common.{arith, map, flat_map, drop, ◌≡◌, ◌∷◌, ◌++◌}
use Rattle.std.proofs.lemmas.Grind.{common_steps}
use Rattle.std.specs.List.{join_with_byte}
use Rattle.tow_language.specs.Printed.{spelled_segment}
use Rattle.tow_print.proofs.Words.{segment_row_is}
use Rattle.tow_print.proofs.printer.segments.spelling_of.Goals as goal

pub returns : goal.returns
returns c bytes =
    let xs = c.args.parts.now in
    let e : join_with_byte 47 (map spelled_segment xs) ≡ spelled_segment c.first-item.result ++ flat_map (λ t. 47 ∷ spelled_segment t) (drop 1 xs) =
    segment_row_is spelled_segment c.first-item.result xs (omega (arith, c.in-len1-up.len_at_least)) c.first-item.is in
    rw e (grind (arith, common_steps, c.loop-part.invariant bytes))
