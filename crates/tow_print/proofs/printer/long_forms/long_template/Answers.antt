use Rattle.std.proofs.Common.{arith, ◌≡◌, ◌+◌, ◌-◌, ◌++◌, Some, None, sym, ap, ◌∙◌, length, take, drop, length-drop}
use Rattle.std.proofs.Math.Seq.{take-length}
use Rattle.tow_language.specs.Templates.{spelled_template, spelled_long}
use Rattle.tow_print.specs.Parts.{spelled_form}
use Rattle.tow_print.proofs.Pieces.{long_at}
use Rattle.tow_print.proofs.printer.long_forms.long_template.Goals as goal

pub returns-in-Some : goal.returns-in-Some
returns-in-Some c =
    let ps = c.args.template.now in let at = c.loop-at.at - 1 in let long = spelled_form c.in-Some.long in
    let none : spelled_long (drop (at + 1) ps) ≡ None = ap (λ k. spelled_long (drop k ps)) {x = at + 1} {y = c.loop-at.at} (omega arith) ∙ c.loop-at.invariant.none_behind in
    let behind : take (length ps - (at + 1)) (drop (at + 1) ps) ≡ drop (at + 1) ps =
    ap (λ n. take n (drop (at + 1) ps)) (sym (length-drop (at + 1) ps)) ∙ take-length (drop (at + 1) ps) in
    ap (λ k. Some (spelled_template (take at ps) ++ (long ++ spelled_template k))) behind
    ∙ sym (long_at ps at c.index-template-at.result long (omega (arith, c.loop-at.invariant.within)) c.index-template-at.is none (sym c.in-Some.ensures))
