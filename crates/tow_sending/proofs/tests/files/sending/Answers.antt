use Rattle.tow_sending.proofs.FileTests.{all_is_there}
use Rattle.tow_sending.proofs.tests.files.sending.Goals as goal

pub returns : goal.returns
returns g c =
    all_is_there (g.F.Folder.shows c.args.folder.now).told (g.F.Folder.shows c.look.new.self).told
    c.file_path-path.result.now c.in-File.len c.in-File.second c.in_ok-request.request c.in_ok-answer.answer c.in_ok-sending.sending
    c.in-File.ensures.told c.in-File.ensures.found c.in_ok-answer.ensures.choice c.in_ok-sending.ensures
