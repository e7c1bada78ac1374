use Rattle.std.proofs.Common.{ℕ, ◌≡◌, ◌≤◌, ◌+◌, ◌-◌, ◌∙◌, length, take, drop, arith, length-take, length-drop}
use borrow.Rule.Slice.PartMut.{put_mid}
use Rattle.tow_semantics.specs.Files.{Files}
use Rattle.tow_semantics.specs.Sites.{file_bytes}
use Rattle.tow_wire.specs.Answers.{part_of}
use Rattle.tow_sending.proofs.ReadLemmas.{both_told, read_more, keeps_on, len_kept}
use Rattle.tow_sending.proofs.reading.read_part.Goals as goal

pub loop-got-preserved : goal.loop-got-preserved
loop-got-preserved g c =
    let before = c.loop-got.invariant in
    let now = c.in-Got.ensures in
    let to = c.loop-got.to in
    let ys = c.read_at.new.to in
    let got : ℕ = c.loop-got.got in
    let count : ℕ = c.in-Got.count in
    let fits : got ≤ length to = omega (arith, before.within, before.len) in
    let len : length ys ≡ length to - got = omega (arith, c.read_at.auto.to, length-drop got to, length-take (length to - got) (drop got to)) in
    let few : count ≤ length ys = now.fits.1 in
    record {
      within = omega (arith, before.len, len, few, fits);
      len = len_kept to ys got fits len ∙ before.len;
      read = both_told (g.F.Folder.shows c.args.folder.now).told (g.F.Folder.shows c.loop-got.folder).told
          (λ (files : Files). take got to ≡ part_of c.args.from got (file_bytes files c.args.path.now))
          (λ (files : Files). take count ys ≡ take count (drop (c.args.from + got) (file_bytes files c.args.path.now)))
          (λ (files : Files). take (got + count) (put_mid got (length to - got) to ys) ≡ part_of c.args.from (got + count) (file_bytes files c.args.path.now))
          before.told before.read now.read
          (λ files a b. read_more to ys (file_bytes files c.args.path.now) got count c.args.from fits few a b);
      told = now.told ∙ before.told;
      later = omega (arith, before.later, now.later);
      others = keeps_on _ _ _ _ before.others now.others;
    }
