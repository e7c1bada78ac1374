use Rattle.tow_conn.proofs.Turning.{still_drained}
use Rattle.tow_conn.proofs.reading.read_more.Goals as goal

pub returns-in-Got-clause-told : goal.returns-in-Got-clause-told
returns-in-Got-clause-told g c = λ over. still_drained _ _ c.in-Got.ensures.fills.gained c.in-Got.ensures.fills.moved (c.requires.told over)
