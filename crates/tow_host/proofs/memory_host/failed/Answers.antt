use Rattle.tow_link.proofs.Raising.{keeps_others}
use Rattle.tow_host.proofs.memory_host.failed.Goals as goal

pub returns-in-Ok-clause-others : goal.returns-in-Ok-clause-others
returns-in-Ok-clause-others c = rw (c.in-Ok.ensures.raised, c.as_bytes.ensures.value) (keeps_others c.args.faults.now c.args.name.now)
