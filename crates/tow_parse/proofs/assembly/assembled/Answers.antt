use Rattle.std.proofs.Common.{◌≡◌, [], ◌∷◌, Ok, IfErr, map, sym, ap, ◌∙◌, subst}
use Rattle.std.proofs.lemmas.List.{nil_from_length}
use Rattle.std.proofs.lemmas.Result.{err_from_is_err_and}
use Rattle.std.specs.Vec.Iter.{into_iter_items}
use Rattle.tow_language.specs.Fit.{fit}
use Rattle.tow_parse.specs.Builders.{built_of}
use Rattle.tow_parse.specs.Building.{play, nothing}
use Rattle.tow_fit.specs.Calls.{counts_of}
use Rattle.tow_fit.specs.Faults.{Fails}
use Rattle.tow_parse.specs.Parts.{raw_part}
use Rattle.tow_parse.proofs.Playing.{played_out, fault_named, never_stuck}
use Rattle.tow_parse.proofs.assembly.assembled.Goals as goal
use Rattle.tow_parse.proofs.assembly.assembled.Goals.{In-Some}

-- the part and those behind it come to what all of them come to
played_from : (c : In-Some) → play (raw_part c.in-Some.part ∷ map raw_part (into_iter_items c.next.new.self)) (built_of c.loop-part.builder) ≡ play (map raw_part c.args.parts.items) nothing
played_from c = ap (λ items. play (map raw_part items) (built_of c.loop-part.builder)) (sym c.in-Some.ensures.steps.0) ∙ c.loop-part.invariant.played

pub take-requires : goal.take-requires
take-requires c =
    let at_part = (goal.at.take-requires c).In-Some in
    record { has = never_stuck c.requires.whole.0 (map raw_part c.args.parts.items) (raw_part c.in-Some.part) (map raw_part (into_iter_items c.next.new.self)) (built_of c.loop-part.builder) c.requires.whole.1 (played_from at_part) }

pub returns-in_err-take-clause-err : goal.returns-in_err-take-clause-err
returns-in_err-take-clause-err c =
    let at_part = (goal.at.returns-in_err-take-clause-err c).In-Some in
    let fault = err_from_is_err_and c.from_residual.result c.from_residual.ensures.1 in
    λ raw same.
    let named : Fails c.in_err-take.field-0.0 (fit raw) = fault_named raw (map raw_part c.args.parts.items) (raw_part c.in-Some.part) (map raw_part (into_iter_items c.next.new.self)) (built_of c.loop-part.builder) _ same (played_from at_part) c.in_err-take.ensures.err in
    let passed : c.in_err-take.field-0.0 ≡ fault.0 = cc fault.2 in
    subst (λ r. IfErr r (λ e. Fails e (fit raw))) (sym fault.1) (subst (λ e. Fails e (fit raw)) passed named)

pub returns-clause-ok : goal.returns-clause-ok
returns-clause-ok c =
    let counts = counts_of c.loop-part.builder.counts in
    let items = into_iter_items c.loop-part.part-iterator in
    let none_left : items ≡ [] = nil_from_length items (sym c.loop-part.invariant.same_len ∙ c.in-None.ensures.steps.0) in
    let end = ap (λ items. play (map raw_part items) (built_of c.loop-part.builder)) (sym none_left) ∙ c.loop-part.invariant.played in
    λ raw same.
    (counts, played_out raw (map raw_part c.args.parts.items) (built_of c.loop-part.builder) same end ∙ ap (λ tree. Ok (tree, counts)) (sym c.finish.ensures.tree), c.finish.ensures.patterns)
