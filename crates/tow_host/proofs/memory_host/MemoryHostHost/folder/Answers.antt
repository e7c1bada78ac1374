use Rattle.tow_host.specs.Maps.{map_named}
use Rattle.tow_host.proofs.Opening.{is_new}
use Rattle.tow_host.proofs.memory_host.MemoryHostHost.folder.Goals as goal

pub returns-in-Ok-Some-clause-fresh : goal.returns-in-Ok-Some-clause-fresh
returns-in-Ok-Some-clause-fresh c = is_new _ (map_named c.self.inside.maps c.args.dir.now) (rw c.in-Ok-Some.field-0-is at c.in-Ok-Some.ensures)
