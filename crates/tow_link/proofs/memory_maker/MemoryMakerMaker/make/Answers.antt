use Rattle.std.proofs.Common.{◌≡◌, ℕ, refl, sym}
use Rattle.tow_link.specs.Counts.{count_at}
use Rattle.tow_link.specs.declared.maker.Made.TheVariants.{Large}
use Rattle.tow_link.proofs.Counting.{counted_listed, counted_other}
use Rattle.tow_link.proofs.Raising.{with_others, rose_known, later_known, other_count, later_others}
use Rattle.tow_link.proofs.memory_maker.MemoryMakerMaker.make.Goals as goal

pub returns-then-raise_known-clause-large : goal.returns-then-raise_known-clause-large
returns-then-raise_known-clause-large c is =
    let call = c.if-raise_known.ensures in
    rw (← c.self.view_is, call.found) (rose_known c.self.inside.larges c.self.inside.pack c.args.pattern.now (sym call.known))

pub returns-then-raise_known-clause-later : goal.returns-then-raise_known-clause-later
returns-then-raise_known-clause-later c p =
    let call = c.if-raise_known.ensures in
    rw (← c.self.view_is, call.found) (later_known c.self.inside.larges c.self.inside.pack c.args.pattern.now (sym call.known) call.fits p)

pub returns-clause-large : goal.returns-clause-large
returns-clause-large c is =
    let call = c.if-raise_known.ensures in
    let count : (others : ℕ) → count_at (with_others c.self.inside.larges others) c.args.pattern.now ≡ others = λ others. other_count c.self.inside.larges others c.args.pattern.now (sym call.known) in
    rw (← c.self.view_is, call.same, count, count) (c.make.ensures.large is)

pub returns-clause-later : goal.returns-clause-later
returns-clause-later c p =
    rw (← c.self.view_is, c.if-raise_known.ensures.same) (later_others c.self.inside.larges c.self.inside.pack _ p c.make.ensures.later)

pub returns-clause-only : goal.returns-clause-only
returns-clause-only c isnt =
    rw (← c.self.view_is, c.if-raise_known.ensures.same, c.make.ensures.only isnt) refl

pub returns-then-raise_known-clause-counted : goal.returns-then-raise_known-clause-counted
returns-then-raise_known-clause-counted c =
    let call = c.if-raise_known.ensures in
    rw (← c.self.view_is, call.found) (counted_listed c.self.inside.larges c.self.inside.pack c.args.pattern.now Large (sym call.known))

pub returns-clause-counted : goal.returns-clause-counted
returns-clause-counted c =
    let call = c.if-raise_known.ensures in
    rw (← c.self.view_is, call.same, c.make.ensures.counted) (counted_other c.self.inside.larges c.self.inside.pack c.args.pattern.now _ (sym call.known))
