use Rattle.std.proofs.Common.{true, false, sym}
use Rattle.tow_folder.proofs.Maps.{map_step}
use Rattle.tow_folder.proofs.mapping.is_map.Goals as goal

pub files-preserved : goal.files-preserved
files-preserved c =
    map_step c.args.files.now c.files.place c.index-files-place.result true c.files-test.true c.index-files-place.is c.if-not-may_stand.ensures c.files.invariant

pub returns-then-not-may_stand : goal.returns-then-not-may_stand
returns-then-not-may_stand c =
    sym (map_step c.args.files.now c.files.place c.index-files-place.result false c.files-test.true c.index-files-place.is c.if-not-may_stand.ensures c.files.invariant)
