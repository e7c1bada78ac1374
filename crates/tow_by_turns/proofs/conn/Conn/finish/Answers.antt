use Rattle.std.proofs.Common.{ap, subst, ◌∙◌}
use Rattle.tow_model.specs.declared.account.Account.{Account}
use Rattle.tow_stages.specs.Holding.{Holds}
use Rattle.tow_stages.proofs.Ends.{ends_are_ends}
use Rattle.tow_turns.specs.Data.{base_of, stage_of}
use Rattle.tow_turns.specs.declared.stage.Stage.{Stage}
use Rattle.tow_by_turns.proofs.conn.Conn.finish.Goals as goal

pub returns-clause-ended : goal.returns-clause-ended
returns-clause-ended g c =
    let b = base_of g.L.Link.shows c.args.self.base in
    λ failed s o d t holds seen is. ends_are_ends failed s o b c.in-Ended.end d t
    (subst (λ (x : Stage). Holds failed s o b (stage_of x) d t) c.in-Ended.is holds) seen
    (record {
      end_is = ap (λ (a : Account). a.end) is.account_is;
      exchanges = ap (λ (a : Account). a.exchanges) is.account_is;
      calls = ap (λ (a : Account). a.calls) is.account_is ∙ c.from_vec.ensures;
      written = is.written;
      lines = is.lines;
      logged = is.logged;
    })
