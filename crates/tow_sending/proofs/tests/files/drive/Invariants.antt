use Rattle.std.specs.Option.{ForSome}
use Rattle.tow_sending.specs.Pieces.{HasParts}
use Rattle.tow_sending.proofs.tests.files.drive.Given as goal

abbrev pub invariant-calls : goal.invariant-calls
invariant-calls g l = ForSome (g.F.Folder.shows l.folder).told (λ files. HasParts files l.sending)
