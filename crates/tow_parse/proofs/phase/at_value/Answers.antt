use Rattle.std.proofs.Common.{refl, sym, subst, ◌≡◌, [], IfSome, IfNone, ℕ, List}
use mathlib.Core.Logic.{inl, inr}
use Rattle.tow_language.specs.Symbols.{symbol_of, word, quoted}
use Rattle.tow_fit.specs.declared.call.WrittenValue.TheVariants as values
use Rattle.tow_parse.specs.declared.goal.Phase.TheVariants as phases
use Rattle.tow_parse.specs.declared.look.Look.TheVariants as looks
use Rattle.tow_parse.specs.declared.phase.Place.TheVariants as places
use Rattle.tow_parse.specs.Looks.{Shows}
use Rattle.tow_parse.specs.Phased.{PhaseTakes, filled}
use Rattle.tow_parse.proofs.PhaseMoves.{value_text, value_brace, value_no, at, stop}
use Rattle.tow_parse.proofs.Shown.{same_look}
use Rattle.tow_parse.proofs.phase.at_value.Goals as goal

pub returns-in-OpenBrace-clause-ok : goal.returns-in-OpenBrace-clause-ok
returns-in-OpenBrace-clause-ok c =
    let s = subst (λ k. Shows k (symbol_of c.args.text.now c.args.token).sign) c.in-OpenBrace.is c.requires.shows in
    subst (λ k. PhaseTakes c.args.square (phases.Value c.args.slot) (symbol_of c.args.text.now c.args.token) (places.At (phases.Texts (record { slot = c.args.slot; place = c.args.token.from; texts = k })))) (sym c.new.ensures)
    (at c.args.square (phases.Value c.args.slot) (symbol_of c.args.text.now c.args.token) (phases.Texts (record { slot = c.args.slot; place = c.args.token.from; texts = [] })) (λ xs M. value_brace (symbol_of c.args.text.now c.args.token) xs c.args.square M c.args.slot c.args.token.from s refl))

pub returns-in_ok-filled-in-Some : goal.returns-in_ok-filled-in-Some
returns-in_ok-filled-in-Some c =
    let sign = subst (λ o. IfSome o (λ w. (symbol_of c.args.text.now c.args.token).sign ≡ word w.bytes)) c.in-Some.is c.in_ok-word-in_default.ensures.sign in
    let place = subst (λ o. IfSome o (λ w. (symbol_of c.args.text.now c.args.token).place ≡ w.place)) c.in-Some.is c.in_ok-word-in_default.ensures.place in
    record {
      ok = subst (λ k. PhaseTakes c.args.square (phases.Value c.args.slot) (symbol_of c.args.text.now c.args.token) (places.At (phases.After k))) (sym c.in_ok-filled-in-Some.ensures)
          (at c.args.square (phases.Value c.args.slot) (symbol_of c.args.text.now c.args.token) (phases.After (filled c.args.slot (values.One c.in-Some.word))) (λ xs M. value_text (symbol_of c.args.text.now c.args.token) xs c.args.square M c.args.slot c.in-Some.word (inl sign, place)));
      err = tt;
    }

pub returns-in_ok-filled-in-Some-2 : goal.returns-in_ok-filled-in-Some-2
returns-in_ok-filled-in-Some-2 c =
    let sign = subst (λ o. IfSome o (λ w. (symbol_of c.args.text.now c.args.token).sign ≡ quoted w.bytes)) c.in-Some-2.is c.in_ok-quoted-in-None.ensures.sign in
    let place = subst (λ o. IfSome o (λ w. (symbol_of c.args.text.now c.args.token).place ≡ w.place)) c.in-Some-2.is c.in_ok-quoted-in-None.ensures.place in
    record {
      ok = subst (λ k. PhaseTakes c.args.square (phases.Value c.args.slot) (symbol_of c.args.text.now c.args.token) (places.At (phases.After k))) (sym c.in_ok-filled-in-Some-2.ensures)
          (at c.args.square (phases.Value c.args.slot) (symbol_of c.args.text.now c.args.token) (phases.After (filled c.args.slot (values.One c.in-Some-2.quoted))) (λ xs M. value_text (symbol_of c.args.text.now c.args.token) xs c.args.square M c.args.slot c.in-Some-2.quoted (inr sign, place)));
      err = tt;
    }

pub returns-in-None-2 : goal.returns-in-None-2
returns-in-None-2 c =
    let no_word = subst (λ o. IfNone o ((bytes : List ℕ) → (symbol_of c.args.text.now c.args.token).sign ≡ word bytes → ⊥)) c.in-None.is c.in_ok-word-in_default.ensures.none in
    let no_quoted = subst (λ o. IfNone o ((bytes : List ℕ) → (symbol_of c.args.text.now c.args.token).sign ≡ quoted bytes → ⊥)) c.in-None-2.is c.in_ok-quoted-in-None.ensures.none in
    record {
      ok = tt;
      err = stop c.args.square (phases.Value c.args.slot) (symbol_of c.args.text.now c.args.token) (λ xs M f a. value_no (symbol_of c.args.text.now c.args.token) xs c.args.square M c.args.slot (λ e. c.in_default.not-OpenBrace (same_look c.args.look looks.OpenBrace (symbol_of c.args.text.now c.args.token).sign c.requires.shows e)) no_word no_quoted f a);
    }
