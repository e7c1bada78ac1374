use Rattle.std.proofs.Common.{◌≡◌, ◌∙◌, ◌<◌, ap, arith, length, map, subst, sym, take}
use Rattle.std.proofs.lemmas.List.{take_all}
use Rattle.std.proofs.lemmas.Result.{err_from_is_err_and}
use Rattle.tow_language.specs.Symbols.{symbol_of, symbols_of}
use Rattle.tow_language.specs.Syntax.{IsList}
use Rattle.tow_language.specs.Tokens.{Cuts}
use Rattle.tow_parse.specs.Parts.{raw_part}
use Rattle.tow_parse.specs.Readers.{Agrees}
use Rattle.tow_parse.proofs.Bounds.{token_stands}
use Rattle.tow_parse.proofs.Reading.{front_of, front_more, steps_agree, halted, finished, early}
use Rattle.tow_parse.proofs.reader.read.Goals as goal

pub step-requires-clause-order : goal.step-requires-clause-order
step-requires-clause-order c =
    let cut = subst (λ k. Cuts c.args.text.now k) (sym c.as_slice-tokens.ensures) c.requires.cut in
    let lt : c.loop-i.i < length c.as_slice-tokens.result.now = omega arith in
    (token_stands c.args.text.now c.as_slice-tokens.result.now cut c.loop-i.i _ lt).0

pub step-requires-clause-within : goal.step-requires-clause-within
step-requires-clause-within c =
    let cut = subst (λ k. Cuts c.args.text.now k) (sym c.as_slice-tokens.ensures) c.requires.cut in
    let lt : c.loop-i.i < length c.as_slice-tokens.result.now = omega arith in
    (token_stands c.args.text.now c.as_slice-tokens.result.now cut c.loop-i.i _ lt).1

pub returns-in_err-step-clause-err : goal.returns-in_err-step-clause-err
returns-in_err-step-clause-err c =
    let cut = subst (λ k. Cuts c.args.text.now k) (sym c.as_slice-tokens.ensures) c.requires.cut in
    let lt : c.loop-i.i < length c.as_slice-tokens.result.now = omega arith in
    let p = err_from_is_err_and c.from_residual-in_err-step.result c.from_residual-in_err-step.ensures.1 in
    rw (p.1, p.2) (halted c.args.text.now c.as_slice-tokens.result.now cut c.loop-i.i c.loop-i.reader c.loop-i.invariant.0 _ lt c.in_err-step.field-0.0 c.in_err-step.ensures.err)

pub loop-i-preserved : goal.loop-i-preserved
loop-i-preserved c =
    let cut = subst (λ k. Cuts c.args.text.now k) (sym c.as_slice-tokens.ensures) c.requires.cut in
    let lt : c.loop-i.i < length c.as_slice-tokens.result.now = omega arith in
    let behind = steps_agree (front_of c.args.text.now c.as_slice-tokens.result.now cut c.loop-i.i) c.loop-i.reader _ c.step.new.self c.loop-i.invariant.0 c.in_ok-step.ensures.ok in
    let deep = c.in_ok-step.ensures.depth in
    (subst (λ k. Agrees k c.step.new.self) (sym (front_more c.args.text.now c.as_slice-tokens.result.now cut c.loop-i.i _ lt)) behind, omega (arith, deep))

pub returns-in_err-parts-clause-err : goal.returns-in_err-parts-clause-err
returns-in_err-parts-clause-err c =
    let cut = subst (λ k. Cuts c.args.text.now k) (sym c.as_slice-tokens.ensures) c.requires.cut in
    let whole : take c.loop-i.i c.as_slice-tokens.result.now ≡ c.as_slice-tokens.result.now = take_all c.loop-i.i c.as_slice-tokens.result.now (omega arith) in
    let agrees = subst (λ k. Agrees (map (symbol_of c.args.text.now) k) c.loop-i.reader) whole c.loop-i.invariant.0 in
    let p = err_from_is_err_and c.from_residual-in_err-parts.result c.from_residual-in_err-parts.ensures.1 in
    rw (p.1, p.2) (early c.args.text.now c.as_slice-tokens.result.now cut c.loop-i.reader agrees c.in_err-parts.field-0.0 c.in_err-parts.ensures.err)

pub returns-clause-ok : goal.returns-clause-ok
returns-clause-ok c =
    let cut = subst (λ k. Cuts c.args.text.now k) (sym c.as_slice-tokens.ensures) c.requires.cut in
    let whole : take c.loop-i.i c.as_slice-tokens.result.now ≡ c.as_slice-tokens.result.now = take_all c.loop-i.i c.as_slice-tokens.result.now (omega arith) in
    let agrees = subst (λ k. Agrees (map (symbol_of c.args.text.now) k) c.loop-i.reader) whole c.loop-i.invariant.0 in
    let made = finished c.args.text.now c.as_slice-tokens.result.now cut c.loop-i.reader agrees c.in_ok-parts.parts c.in_ok-parts.ensures.ok in
    (made.0, subst (λ k. IsList 32 (symbols_of c.args.text.now k) made.0) c.as_slice-tokens.ensures made.1, made.2 ∙ ap (map raw_part) (sym c.into_vec.ensures))
