use Rattle.std.proofs.Common.{◌∙◌, None, refl}
use Rattle.tow_server.proofs.Keeping.{nothing_more}
use Rattle.tow_server.proofs.returning.give_back.Goals as goal

pub returns : goal.returns
returns g c =
    c.take_back.ensures.held ∙ nothing_more g.H.Text.Source.shows g.H.Input.Source.shows g.H.Output.Sink.shows g.H.Folder.Folder.shows g.H.Log.LogSink.shows (record { text = c.args.text; streams = c.args.streams; folders = c.new-folders.result; logs = c.new-logs.result; account = None })
    (g.H.Host.held c.args.host.now) c.new-folders.ensures.items c.new-logs.ensures.items refl
