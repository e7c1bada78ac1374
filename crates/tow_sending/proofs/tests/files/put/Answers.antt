use Rattle.tow_sending.proofs.FileTests.{rest_is_there}
use Rattle.tow_sending.proofs.tests.files.put.Goals as goal

pub returns : goal.returns
returns g c =
    rest_is_there (g.F.Folder.shows c.args.folder.now).told (g.F.Folder.shows c.put_file.new.folder).told c.put_file.result
    c.args.sending.now c.put_file.new.self c.put_file.ensures.told c.put_file.ensures.left c.requires
