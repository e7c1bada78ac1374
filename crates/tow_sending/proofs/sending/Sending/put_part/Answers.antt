use Rattle.std.proofs.Common.{◌≡◌, sym, ap, ◌∙◌, subst, List}
use Rattle.tow_sending.specs.declared.sent.Next.TheVariants as next
use Rattle.tow_sending.specs.Bodies.{pieces_in}
use Rattle.tow_sending.specs.Parts.{PutsPart, left_of_part}
use Rattle.tow_sending.specs.Pieces.{Piece, next_of, HasParts}
use Rattle.tow_sending.proofs.Steps.{head_is_put}
use Rattle.tow_sending.proofs.sending.Sending.put_part.Goals as goal

pub put_part-requires-clause-some : goal.put_part-requires-clause-some
put_part-requires-clause-some g c =
    let is : next_of (pieces_in c.self.inside.head c.self.inside.body) ≡ next.File = ap next_of c.self.view_is ∙ c.requires.some in
    ap next_of (sym (head_is_put c.self.inside.head c.self.inside.body is c.self.inside.body)) ∙ is

pub put_part-requires-clause-there : goal.put_part-requires-clause-there
put_part-requires-clause-there g c =
    let is : next_of (pieces_in c.self.inside.head c.self.inside.body) ≡ next.File = ap next_of c.self.view_is ∙ c.requires.some in
    λ files told. subst (λ (ps : List Piece). HasParts files ps)
    (sym c.self.view_is ∙ head_is_put c.self.inside.head c.self.inside.body is c.self.inside.body) (c.requires.there files told)

pub returns-clause-puts : goal.returns-clause-puts
returns-clause-puts g c =
    let is : next_of (pieces_in c.self.inside.head c.self.inside.body) ≡ next.File = ap next_of c.self.view_is ∙ c.requires.some in
    subst (λ (ps : List Piece). PutsPart (g.F.Folder.shows c.args.folder.now).told c.put_part.result ps c.args.pipe.now c.put_part.new.pipe)
    (sym (head_is_put c.self.inside.head c.self.inside.body is c.self.inside.body) ∙ c.self.view_is) c.put_part.ensures.puts

pub returns-clause-left : goal.returns-clause-left
returns-clause-left g c =
    let is : next_of (pieces_in c.self.inside.head c.self.inside.body) ≡ next.File = ap next_of c.self.view_is ∙ c.requires.some in
    head_is_put c.self.inside.head c.self.inside.body is c.put_part.new.self ∙ c.put_part.ensures.left
    ∙ ap (λ (ps : List Piece). left_of_part c.put_part.result ps)
    (sym (head_is_put c.self.inside.head c.self.inside.body is c.self.inside.body) ∙ c.self.view_is)
