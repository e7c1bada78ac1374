use Rattle.tow_sending.specs.Bodies.{pieces_in}
use Rattle.tow_sending.proofs.Steps.{own_put_all, own_full_all}
use Rattle.tow_sending.proofs.sending.Sending.put_own.Goals as goal

pub returns-then-done-clause-tells : goal.returns-then-done-clause-tells
returns-then-done-clause-tells c =
    let told = own_put_all (pieces_in c.self.inside.head c.self.inside.body) c.args.self.now (pieces_in c.put_front-done.new.head c.put_front-done.new.body)
    c.put_front-done.result c.after_piece.result c.args.pipe.now c.put_front-done.new.pipe c.self.view_is c.requires c.if-done.true
    c.put_front-done.ensures.puts c.put_front-done.ensures.left c.after_piece.ensures in
    told.tells_so

pub returns-then-done-clause-left : goal.returns-then-done-clause-left
returns-then-done-clause-left c =
    let told = own_put_all (pieces_in c.self.inside.head c.self.inside.body) c.args.self.now (pieces_in c.put_front-done.new.head c.put_front-done.new.body)
    c.put_front-done.result c.after_piece.result c.args.pipe.now c.put_front-done.new.pipe c.self.view_is c.requires c.if-done.true
    c.put_front-done.ensures.puts c.put_front-done.ensures.left c.after_piece.ensures in
    told.leaves

pub returns-then-done-clause-puts : goal.returns-then-done-clause-puts
returns-then-done-clause-puts c =
    let told = own_put_all (pieces_in c.self.inside.head c.self.inside.body) c.args.self.now (pieces_in c.put_front-done.new.head c.put_front-done.new.body)
    c.put_front-done.result c.after_piece.result c.args.pipe.now c.put_front-done.new.pipe c.self.view_is c.requires c.if-done.true
    c.put_front-done.ensures.puts c.put_front-done.ensures.left c.after_piece.ensures in
    told.puts

pub returns-else-done-clause-tells : goal.returns-else-done-clause-tells
returns-else-done-clause-tells c =
    let told = own_full_all (pieces_in c.self.inside.head c.self.inside.body) c.args.self.now (pieces_in c.put_front-done.new.head c.put_front-done.new.body)
    c.put_front-done.result c.args.pipe.now c.put_front-done.new.pipe c.self.view_is c.requires c.if-done.false
    c.put_front-done.ensures.puts c.put_front-done.ensures.left in
    told.tells_so

pub returns-else-done-clause-left : goal.returns-else-done-clause-left
returns-else-done-clause-left c =
    let told = own_full_all (pieces_in c.self.inside.head c.self.inside.body) c.args.self.now (pieces_in c.put_front-done.new.head c.put_front-done.new.body)
    c.put_front-done.result c.args.pipe.now c.put_front-done.new.pipe c.self.view_is c.requires c.if-done.false
    c.put_front-done.ensures.puts c.put_front-done.ensures.left in
    told.leaves

pub returns-else-done-clause-puts : goal.returns-else-done-clause-puts
returns-else-done-clause-puts c =
    let told = own_full_all (pieces_in c.self.inside.head c.self.inside.body) c.args.self.now (pieces_in c.put_front-done.new.head c.put_front-done.new.body)
    c.put_front-done.result c.args.pipe.now c.put_front-done.new.pipe c.self.view_is c.requires c.if-done.false
    c.put_front-done.ensures.puts c.put_front-done.ensures.left in
    told.puts
