use Rattle.std.proofs.Common.{refl}
use Rattle.tow_parse.proofs.look.look_at.Goals as goal

pub returns-in-Quoted : goal.returns-in-Quoted
returns-in-Quoted c = rw c.in-Quoted.is (_, refl)
