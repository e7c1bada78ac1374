use Rattle.std.proofs.Common.{◌++◌, take, arith}
use Rattle.std.proofs.lemmas.Grind.{common_steps}
use Rattle.tow_link.proofs.Moving.{moves_more}
use Rattle.tow_link.proofs.reading.read_whole.Goals as goal

pub returns-then-is_err-clause-reads : goal.returns-then-is_err-clause-reads
returns-then-is_err-clause-reads g c =
    let fits = c.in-Got.ensures.fits.1 in
    let same = c.read.auto.to in
    record {
      bytes = c.reads.bytes.items ++ take c.in-Got.count c.read.new.to;
      moved = moves_more _ _ _ _ _ c.reads.invariant.read c.in-Got.ensures.bytes;
      within = grind (arith, common_steps, same);
    }
