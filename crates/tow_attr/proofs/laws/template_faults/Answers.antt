use Rattle.tow_attr.proofs.Spelled.{template_faults_are}
use Rattle.tow_attr.proofs.laws.template_faults.Goals as goal

pub returns : goal.returns
returns c = template_faults_are
