use Rattle.tow_sending.proofs.PlaceLemmas.{size_line}
use Rattle.tow_sending.proofs.size_line.SizeLine.new.Goals as goal

pub returns : goal.returns
returns c =
    size_line c.args.size c.zeros.result c.digit.result c.digit-2.result c.digit-3.result c.digit-4.result c.requires
    c.digit.ensures c.digit-2.ensures c.digit-3.ensures c.digit-4.ensures
    c.zeros.ensures.three c.zeros.ensures.two c.zeros.ensures.one c.zeros.ensures.none
