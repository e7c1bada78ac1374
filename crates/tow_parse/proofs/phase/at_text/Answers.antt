use Rattle.std.proofs.Common.{sym, subst, ◌≡◌, [], ◌∷◌, ◌++◌, IfSome}
use mathlib.Core.Logic.{inl, inr}
use Rattle.tow_language.specs.Symbols.{symbol_of, word, quoted}
use Rattle.tow_parse.specs.declared.goal.Phase.TheVariants as phases
use Rattle.tow_parse.specs.declared.phase.Place.TheVariants as places
use Rattle.tow_parse.specs.Phased.{PhaseTakes}
use Rattle.tow_parse.proofs.PhaseMoves.{text_text, array_eq, at}
use Rattle.tow_parse.proofs.phase.at_text.Goals as goal

pub returns-in_ok-grown-in-Some-clause-ok : goal.returns-in_ok-grown-in-Some-clause-ok
returns-in_ok-grown-in-Some-clause-ok c =
    let sign = subst (λ o. IfSome o (λ w. (symbol_of c.args.text.now c.args.token).sign ≡ word w.bytes)) c.in-Some.is c.in_ok-word.ensures.sign in
    let place = subst (λ o. IfSome o (λ w. (symbol_of c.args.text.now c.args.token).place ≡ w.place)) c.in-Some.is c.in_ok-word.ensures.place in
    subst (λ k. PhaseTakes c.args.square (phases.Text c.args.array) (symbol_of c.args.text.now c.args.token) (places.At (phases.AfterText k))) (sym (array_eq c.in_ok-grown-in-Some.field-0 c.args.array.slot c.args.array.place (c.args.array.texts ++ c.in-Some.word ∷ []) c.in_ok-grown-in-Some.ensures.slot c.in_ok-grown-in-Some.ensures.place c.in_ok-grown-in-Some.ensures.texts))
    (at c.args.square (phases.Text c.args.array) (symbol_of c.args.text.now c.args.token) (phases.AfterText (record { slot = c.args.array.slot; place = c.args.array.place; texts = c.args.array.texts ++ c.in-Some.word ∷ [] })) (λ xs M. text_text (symbol_of c.args.text.now c.args.token) xs c.args.square M c.args.array c.in-Some.word (inl sign, place)))

pub returns-in_ok-grown-in-Some-2-clause-ok : goal.returns-in_ok-grown-in-Some-2-clause-ok
returns-in_ok-grown-in-Some-2-clause-ok c =
    let sign = subst (λ o. IfSome o (λ w. (symbol_of c.args.text.now c.args.token).sign ≡ quoted w.bytes)) c.in-Some-2.is c.in_ok-quoted-in-None.ensures.sign in
    let place = subst (λ o. IfSome o (λ w. (symbol_of c.args.text.now c.args.token).place ≡ w.place)) c.in-Some-2.is c.in_ok-quoted-in-None.ensures.place in
    subst (λ k. PhaseTakes c.args.square (phases.Text c.args.array) (symbol_of c.args.text.now c.args.token) (places.At (phases.AfterText k))) (sym (array_eq c.in_ok-grown-in-Some-2.field-0 c.args.array.slot c.args.array.place (c.args.array.texts ++ c.in-Some-2.quoted ∷ []) c.in_ok-grown-in-Some-2.ensures.slot c.in_ok-grown-in-Some-2.ensures.place c.in_ok-grown-in-Some-2.ensures.texts))
    (at c.args.square (phases.Text c.args.array) (symbol_of c.args.text.now c.args.token) (phases.AfterText (record { slot = c.args.array.slot; place = c.args.array.place; texts = c.args.array.texts ++ c.in-Some-2.quoted ∷ [] })) (λ xs M. text_text (symbol_of c.args.text.now c.args.token) xs c.args.square M c.args.array c.in-Some-2.quoted (inr sign, place)))
