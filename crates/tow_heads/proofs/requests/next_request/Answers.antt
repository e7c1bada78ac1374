use Rattle.std.proofs.Common.{inl, sym, ◌∙◌}
use Rattle.tow_heads.proofs.Fronts.{refused_before}
use Rattle.tow_heads.proofs.Served.{refused_later}
use Rattle.tow_heads.proofs.Going.{served_goes, refused_goes}
use Rattle.tow_heads.proofs.requests.next_request.Goals as goal

pub returns-then-is_unserved-clause-reads : goal.returns-then-is_unserved-clause-reads
returns-then-is_unserved-clause-reads c = λ left drained.
    let later = sym c.is_unserved.ensures ∙ c.if-is_unserved.true in
    inl (refused_before c.args.bytes.now left 501 (refused_later c.args.bytes.now c.in-Head.used c.args.peer c.in-Head.request c.in-Head.ensures.tells.1 later))

pub returns-else-is_unserved-clause-reads : goal.returns-else-is_unserved-clause-reads
returns-else-is_unserved-clause-reads c = λ left drained.
    let now = sym c.is_unserved.ensures ∙ c.if-is_unserved.false in
    served_goes c.args.peer c.args.bytes.now left c.in-Head.used c.in-Head.request c.in-Head.ensures.tells.0 (c.in-Head.ensures.tells.1, now)

pub returns-in-Refuse-clause-reads : goal.returns-in-Refuse-clause-reads
returns-in-Refuse-clause-reads c = λ left drained. refused_goes c.args.peer c.args.bytes.now left c.args.ended c.in-Refuse.status c.in-Refuse.ensures.tells drained
