use Rattle.std.specs.Prelude.{IfSome}
use Rattle.std.proofs.Common.{ℕ, List, ◌≡◌, sym, ap, subst, length, arith, length-take}
use Rattle.std.proofs.lemmas.List.{with_items_is}
use Rattle.tow_semantics.specs.Files.{Files}
use Rattle.tow_semantics.specs.Sites.{file_bytes}
use Rattle.tow_wire.specs.Answers.{part_of}
use Rattle.tow_sending.proofs.reading.read_piece.Goals as goal

pub returns-clause-read : goal.returns-clause-read
returns-clause-read g c = λ done.
    let told = (g.F.Folder.shows c.args.folder.now).told in
    let read : List ℕ = c.read_part.new.to in
    let was : length c.deref_mut.result.now ≡ c.args.count =
    omega (arith, ap length c.deref_mut.ensures.value, ap length c.truncate.ensures.items, length-take c.args.count c.args.piece.now.items, c.requires.fits) in
    let whole : length read ≡ c.truncate.new.self.len =
    omega (arith, c.read_part.ensures.len, c.deref_mut.ensures.len, ap length c.deref_mut.ensures.value) in
    subst (λ (l : List ℕ). IfSome told (λ (files : Files). l ≡ part_of c.args.from c.args.count (file_bytes files c.args.path.now)))
    (sym (with_items_is c.truncate.new.self read whole))
    (subst (λ (n : ℕ). IfSome told (λ (files : Files). read ≡ part_of c.args.from n (file_bytes files c.args.path.now))) was
    (c.read_part.ensures.read done))
