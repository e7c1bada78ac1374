use Rattle.std.proofs.Common.{rules, ◌≡◌, Bool, Some, None, slice_get, if◌then◌else◌, suc, ◌<◌, length, arith, sym, ap, subst, ◌∙◌, OnOk}
use Rattle.std.proofs.Math.Nat.{min-eq_left}
use Rattle.std.proofs.lemmas.Option.{slice_get_within}
use Rattle.tow_semantics.specs.Effects.{effect_of}
use Rattle.tow_semantics.specs.Predicates.{Held, held, test_of}
use Rattle.tow_exchange.specs.Exchanges.{after_test, moved_to, with_state}
use Rattle.tow_exchange.specs.declared.place.Place.TheVariants.{InText}
use Rattle.tow_program.specs.declared.instruction.Instruction.TheVariants.{Ask, Do, Skip}
use Rattle.tow_advance.specs.Moves.{acted, past, taken}
use Rattle.tow_advance.proofs.Among.{among_at}
use Rattle.tow_advance.proofs.steps.take.Goals.{then-held, else-held}
use Rattle.tow_advance.proofs.steps.take.Goals as goal

pub ask-requires-clause-among : goal.ask-requires-clause-among
ask-requires-clause-among c =
    let i = c.in-Some-Ask in
    let some : slice_get c.args.program.now c.args.at ≡ Some (Ask i.test i.holds i.fails) = search rules in
    among_at c.args.program.now c.args.at (Ask i.test i.holds i.fails) c.args.scratch.now some c.requires.among

pub returns-in-None-clause-ok : goal.returns-in-None-clause-ok
returns-in-None-clause-ok c =
    let none : slice_get c.args.program.now c.args.at ≡ None = search rules in
    c.look_for_default.ensures ∙ ap (λ o. taken c.args.program.now o c.args.at c.args.exchange.now) (sym none)

pub returns-after-held-clause-ok : goal.returns-after-held-clause-ok
returns-after-held-clause-ok c =
    let i = c.in-Some-Ask in
    let e = c.args.exchange.now in
    let h = held (test_of i.test e.request e.stand.state e.moment) e.stand.state in
    let some : slice_get c.args.program.now c.args.at ≡ Some (Ask i.test i.holds i.fails) = search rules in
    let told : h ≡ record { holds = c.in_ok-held-in-Some-Ask.held; state = c.ask.new.exchange.stand.state } = search rules in
    let noted : c.ask.new.exchange ≡ after_test (with_state c.ask.new.exchange.stand.state e) = search rules in
    let passed : c.if-held.passed ≡ (if c.in_ok-held-in-Some-Ask.held then i.holds else i.fails) =
    elim c.if-held.branch [
      | then-held w ↦ w.passed-is ∙ ap (λ (b : Bool). if b then i.holds else i.fails) (sym w.if-held.true)
      | else-held w ↦ w.passed-is ∙ ap (λ (b : Bool). if b then i.holds else i.fails) (sym w.if-held.false)
    ] in
    c.go_to.ensures
    ∙ ap (λ n. moved_to (InText n) c.ask.new.exchange) (c.past.ensures ∙ ap (past c.args.program.now c.args.at) passed)
    ∙ ap (moved_to (InText (past c.args.program.now c.args.at (if c.in_ok-held-in-Some-Ask.held then i.holds else i.fails)))) noted
    ∙ ap (λ (k : Held). moved_to (InText (past c.args.program.now c.args.at (if k.holds then i.holds else i.fails))) (after_test (with_state k.state e))) (sym told)
    ∙ ap (λ o. taken c.args.program.now o c.args.at e) (sym some)

pub returns-in-Some-Do-clause-ok : goal.returns-in-Some-Do-clause-ok
returns-in-Some-Do-clause-ok c =
    let i = c.in-Some-Do in
    let some : slice_get c.args.program.now c.args.at ≡ Some (Do i.action) = search rules in
    let e = c.args.exchange.now in
    let within : c.args.at < length c.args.program.now = slice_get_within c.args.program.now c.args.at (Do i.action) some in
    let next : c.past-next.result ≡ suc c.args.at = c.past-next.ensures ∙ min-eq_left (omega (arith, within)) ∙ omega arith in
    let same = ap (λ n. acted i.action (effect_of i.action e.request e.stand.state e.moment) n e) next
    ∙ ap (λ o. taken c.args.program.now o c.args.at e) (sym some) in
    subst (λ x. OnOk c.act.result (c.act.new.exchange ≡ x)) same c.act.ensures.ok

pub returns-in-Some-Skip-clause-ok : goal.returns-in-Some-Skip-clause-ok
returns-in-Some-Skip-clause-ok c =
    let i = c.in-Some-Skip in
    let some : slice_get c.args.program.now c.args.at ≡ Some (Skip i.passed) = search rules in
    c.go_to-in-Some-Skip.ensures
    ∙ ap (λ n. moved_to (InText n) c.args.exchange.now) c.past-in-Some-Skip.ensures
    ∙ ap (λ o. taken c.args.program.now o c.args.at c.args.exchange.now) (sym some)
