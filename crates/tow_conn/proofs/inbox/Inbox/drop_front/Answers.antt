use Rattle.std.proofs.Common.{◌≤◌, ◌+◌, ◌-◌, ◌∙◌, sym, ap, drop, length, length-take, arith}
use Rattle.tow_conn.proofs.Filling.{between_dropped}
use Rattle.tow_conn.proofs.inbox.Inbox.drop_front.Goals as goal

pub returns-else-self : goal.returns-else-self
returns-else-self c =
    let s = c.self.inside in
    let within : s.from + c.args.count ≤ s.to =
    omega (arith, c.requires, ap length c.self.view_is, length-take (s.to - s.from) (drop s.from s.store.items), c.self.invariant.0) in
    sym (between_dropped s.from s.to c.args.count s.store.items within) ∙ ap (drop c.args.count) c.self.view_is
