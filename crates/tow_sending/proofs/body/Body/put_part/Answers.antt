use Rattle.tow_sending.proofs.Steps.{file_is_there}
use Rattle.tow_sending.proofs.body.Body.put_part.Goals as goal

pub returns-in-Nothing-2-clause-puts : goal.returns-in-Nothing-2-clause-puts
returns-in-Nothing-2-clause-puts g c = absurd (file_is_there c.args.self.now c.in-Nothing.is c.requires.some)

pub returns-in-Nothing-3-clause-puts : goal.returns-in-Nothing-3-clause-puts
returns-in-Nothing-3-clause-puts g c = absurd (file_is_there c.args.self.now c.in-Nothing.is c.requires.some)
