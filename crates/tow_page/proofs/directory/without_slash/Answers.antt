use Rattle.tow_page.proofs.Askable.{directory_is_askable}
use Rattle.tow_page.proofs.directory.without_slash.Goals as goal

pub returns-clause-askable : goal.returns-clause-askable
returns-clause-askable c = directory_is_askable c.args.path.now c.requires.servable c.requires.directory c.if-path-eq1.false
