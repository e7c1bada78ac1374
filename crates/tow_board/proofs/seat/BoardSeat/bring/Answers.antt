use Rattle.std.proofs.Common.{ap, ◌∙◌, Option}
use Rattle.std.specs.Prelude.{is_some}
use Rattle.tow_board.proofs.Seats.{first, find_brought, distinct_brought}
use Rattle.tow_board.proofs.seat.BoardSeat.bring.Goals as goal

pub invariant_of-self : goal.invariant_of-self
invariant_of-self g c =
    let old = c.args.self.now in
    rw (c.bring.ensures.2, c.bring.ensures.0) record {
      role_is = old.role_is;
      carries = λ q. ap (λ (o : Option (Option g.row.T.Denot)). is_some o) (find_brought c.args.slot q old.seat.me.1 c.requires) ∙ old.carries q;
      once = distinct_brought c.args.slot old.seat.me.1 c.requires old.once;
      all_live = old.all_live;
      within = old.within;
    }

pub returns-clause-first : goal.returns-clause-first
returns-clause-first g c = rw c.bring.ensures.2 (first c.args.slot c.args.self.now.seat.me.1 c.requires)

pub returns-clause-others : goal.returns-clause-others
returns-clause-others g c = rw c.bring.ensures.2 (λ q. find_brought c.args.slot q c.args.self.now.seat.me.1 c.requires)
