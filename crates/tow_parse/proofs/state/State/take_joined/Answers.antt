use Rattle.std.proofs.Common.{refl, sym, ◌∙◌, ap, subst, true, false, [], ◌∷◌}
use Rattle.tow_language.specs.Symbols.{symbol_of}
use Rattle.tow_parse.specs.declared.goal.Goal.TheVariants.{Factor, Joined, Told}
use Rattle.tow_parse.specs.declared.goal.Joint.TheVariants as joints
use Rattle.tow_parse.specs.Looks.{Shows}
use Rattle.tow_parse.specs.Follows.{pending_parts}
use Rattle.tow_parse.specs.Parts.{raw_part}
use Rattle.std.specs.Prelude.{map}
use Rattle.tow_parse.proofs.JoinedMoves.{joined_end, joined_and, joined_or, joined_no}
use Rattle.tow_parse.proofs.Transport.{taken, told_none}
use Rattle.tow_parse.proofs.state.State.take_joined.Goals as goal

pub returns-then-ends-clause-ok : goal.returns-then-ends-clause-ok
returns-then-ends-clause-ok c =
    taken (Joined c.args.levels c.args.pending c.args.grouped ∷ c.args.self.now.goals) c.args.self.now.goals false (pending_parts c.args.pending) c.args.self.now (record { goals = c.tell_pending.new.self.goals; free = false; parts = c.tell_pending.new.self.parts; alloc = c.tell_pending.new.self.alloc })
    refl c.in_ok-tell_pending.ensures.told
    c.in_ok-tell_pending.ensures.goals (symbol_of c.args.text.now c.args.token)
    (joined_end c.args.levels c.args.pending c.args.grouped c.args.self.now.goals c.args.self.now.free (symbol_of c.args.text.now c.args.token) c.args.look c.requires.shows (sym c.if-ends.ensures) c.requires.shaped)

pub returns-in_ok-want-in-And-3-clause-ok : goal.returns-in_ok-want-in-And-3-clause-ok
returns-in_ok-want-in-And-3-clause-ok c =
    let s = subst (λ k. Shows k (symbol_of c.args.text.now c.args.token).sign) c.in-And.is c.requires.shows in
    taken (Joined c.args.levels c.args.pending c.args.grouped ∷ c.args.self.now.goals) (Factor c.args.levels ∷ Told joints.And ∷ Joined c.args.levels c.args.pending c.args.grouped ∷ c.args.self.now.goals) c.args.self.now.free [] c.args.self.now c.want-in-And-2.new.self
    (c.in_ok-want-in-And-3.ensures.free ∙ c.in_ok-want-in-And-2.ensures.free ∙ c.in_ok-want-in-And.ensures.free) (told_none c.args.self.now c.want-in-And-2.new.self (c.in_ok-want-in-And-3.ensures.parts ∙ c.in_ok-want-in-And-2.ensures.parts ∙ c.in_ok-want-in-And.ensures.parts))
    ((c.in_ok-want-in-And-3.ensures.goals ∙ ap (λ k. Factor c.args.levels ∷ k) (c.in_ok-want-in-And-2.ensures.goals ∙ ap (λ k. Told joints.And ∷ k) c.in_ok-want-in-And.ensures.goals))) (symbol_of c.args.text.now c.args.token)
    (joined_and c.args.levels c.args.pending c.args.grouped c.args.self.now.goals c.args.self.now.free (symbol_of c.args.text.now c.args.token) c.args.self.now.free s c.requires.shaped)

pub returns-in_ok-want-in-Or-2-clause-ok : goal.returns-in_ok-want-in-Or-2-clause-ok
returns-in_ok-want-in-Or-2-clause-ok c =
    let s = subst (λ k. Shows k (symbol_of c.args.text.now c.args.token).sign) c.in-Or.is c.requires.shows in
    taken (Joined c.args.levels c.args.pending c.args.grouped ∷ c.args.self.now.goals) (Factor c.args.levels ∷ Joined c.args.levels true c.args.grouped ∷ c.args.self.now.goals) c.args.self.now.free (pending_parts c.args.pending) c.args.self.now c.want-in-Or-2.new.self
    (c.in_ok-want-in-Or-2.ensures.free ∙ c.in_ok-want-in-Or.ensures.free ∙ c.in_ok-tell_pending-in-Or.ensures.free) (ap (map raw_part) (c.in_ok-want-in-Or-2.ensures.parts ∙ c.in_ok-want-in-Or.ensures.parts) ∙ c.in_ok-tell_pending-in-Or.ensures.told)
    ((c.in_ok-want-in-Or-2.ensures.goals ∙ ap (λ k. Factor c.args.levels ∷ k) (c.in_ok-want-in-Or.ensures.goals ∙ ap (λ k. Joined c.args.levels true c.args.grouped ∷ k) c.in_ok-tell_pending-in-Or.ensures.goals))) (symbol_of c.args.text.now c.args.token)
    (joined_or c.args.levels c.args.pending c.args.grouped c.args.self.now.goals c.args.self.now.free (symbol_of c.args.text.now c.args.token) c.args.self.now.free s c.requires.shaped)

pub returns-in_default : goal.returns-in_default
returns-in_default c =
    record { ok = tt; err = (refl, joined_no c.args.levels c.args.pending c.args.grouped c.args.self.now.goals c.args.self.now.free (symbol_of c.args.text.now c.args.token) c.args.look (sym c.if-ends.ensures) c.in_default.not-And c.in_default.not-Or c.requires.shows) }
