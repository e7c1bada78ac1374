use Rattle.std.specs.Prelude.{IfSome}
use Rattle.std.proofs.Common.{ℕ, List, ◌≡◌, ◌≤◌, ◌<◌, ◌∙◌, sym, ap, subst, length, take, drop, arith}
use Rattle.std.proofs.Math.Seq.{take-length}
use Rattle.tow_semantics.specs.Files.{Files}
use Rattle.tow_semantics.specs.Sites.{file_bytes}
use Rattle.tow_wire.specs.Answers.{part_of}
use Rattle.tow_sending.specs.declared.sent.Next.TheVariants as next
use Rattle.tow_sending.specs.Pieces.{next_of, GainsFirst}
use Rattle.tow_sending.specs.Places.{Place, pieces_at}
use Rattle.tow_sending.proofs.Steps.{place_some, part_fits, part_gained, part_left}
use Rattle.tow_sending.proofs.file_rest.FileRest.put.Goals as goal

pub returns-clause-puts : goal.returns-clause-puts
returns-clause-puts g c =
    let f : Place = record { path = c.self.inside.path; at = c.self.inside.at; len = c.self.inside.len } in
    let is : next_of (pieces_at f) ≡ next.File = ap (λ (p : Place). next_of (pieces_at p)) c.self.view_is ∙ c.requires.some in
    let some : f.at < f.len = place_some f c.self.invariant.within is in
    let count : ℕ = c.block_len-count.result in
    let fits : count ≤ c.room.result = omega (arith, c.if-room-count.false) in
    let piece : List ℕ = c.as_slice-2.result.now in
    let all : take count c.read_piece.new.piece.items ≡ c.read_piece.new.piece.items =
    ap (λ n. take n c.read_piece.new.piece.items) (sym c.read_piece.ensures.len) ∙ take-length c.read_piece.new.piece.items in
    let there : count ≤ length piece = omega (arith, c.self.invariant.fits, c.block_len-count.ensures, c.read_piece.ensures.len, ap length c.as_slice-2.ensures.value) in (
      part_fits f c.args.self.now c.args.pipe.now count c.room.result c.self.view_is some c.block_len-count.ensures c.room.ensures fits,
      subst (λ (p : Place). GainsFirst (g.F.Folder.shows c.args.folder.now).told (pieces_at p) c.args.pipe.now c.put.new.self) c.self.view_is
          (part_gained (g.F.Folder.shows c.args.folder.now).told f piece count c.put.result c.args.pipe.now c.put.new.self some
          c.block_len-count.ensures there (omega (arith, fits, c.room.ensures)) c.put.ensures.count c.put.ensures.after
          (subst (λ (l : List ℕ). IfSome (g.F.Folder.shows c.args.folder.now).told
          (λ (files : Files). take count l ≡ part_of f.at count (file_bytes files f.path))) (sym c.as_slice-2.ensures.value)
          (subst (λ (path : List ℕ). IfSome (g.F.Folder.shows c.args.folder.now).told
          (λ (files : Files). take count c.read_piece.new.piece.items ≡ part_of f.at count (file_bytes files path))) c.as_slice.ensures
          (subst (λ (l : List ℕ). IfSome (g.F.Folder.shows c.args.folder.now).told
          (λ (files : Files). l ≡ part_of f.at count (file_bytes files c.as_slice.result.now))) (sym all)
          (c.read_piece.ensures.read c.if-not-read_piece.false))))),
    )

pub returns-clause-left : goal.returns-clause-left
returns-clause-left g c =
    let f : Place = record { path = c.self.inside.path; at = c.self.inside.at; len = c.self.inside.len } in
    let is : next_of (pieces_at f) ≡ next.File = ap (λ (p : Place). next_of (pieces_at p)) c.self.view_is ∙ c.requires.some in
    let some : f.at < f.len = place_some f c.self.invariant.within is in
    part_left f c.block_len-count.result some c.block_len-count.ensures ∙ ap (λ (p : Place). drop 1 (pieces_at p)) c.self.view_is
