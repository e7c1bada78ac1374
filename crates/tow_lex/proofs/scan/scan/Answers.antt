use Rattle.std.proofs.Common.{◌≡◌, ◌+◌, ◌∙◌, [], ◌∷◌, ◌++◌, ap, subst, sym, arith, length, drop, length-drop, append_assoc}
use Rattle.std.proofs.lemmas.List.{append-nil}
use Rattle.std.proofs.lemmas.Result.{err_from_is_err_and}
use Rattle.tow_language.specs.Tokens.{CutsUpTo, Reaches}
use Rattle.tow_model.proofs.Spans.{none_then}
use Rattle.tow_lex.proofs.Stops.{gap_cuts, token_cuts, stop_there}
use Rattle.tow_lex.proofs.scan.scan.Goals as goal

pub returns-then-from-text-clause-ok : goal.returns-then-from-text-clause-ok
returns-then-from-text-clause-ok c =
    let text = c.args.text.now in let from = c.gap_end-from.result in let tokens = c.loop-tokens.tokens in
    let cut = c.loop-tokens.invariant.1 [] (drop from text) (gap_cuts text c.loop-tokens.end from c.gap_end-from.ensures.forward c.gap_end-from.ensures.white) in
    let over : drop from text ≡ [] = none_then text from (omega arith) in
    subst (λ k. CutsUpTo 0 text tokens k) over (subst (λ k. CutsUpTo 0 text k (drop from text)) (append-nil tokens) cut)

pub returns-in_err-token-clause-err : goal.returns-in_err-token-clause-err
returns-in_err-token-clause-err c =
    let text = c.args.text.now in let from = c.gap_end-from.result in let tokens = c.loop-tokens.tokens in
    let cut = c.loop-tokens.invariant.1 [] (drop from text) (gap_cuts text c.loop-tokens.end from c.gap_end-from.ensures.forward c.gap_end-from.ensures.white) in
    let n : length text ≡ from + length (drop from text) = omega (arith, length-drop from text) in
    let reach : Reaches text from (drop from text) = (tokens ++ [], cut, n) in
    let p = err_from_is_err_and c.from_residual.result c.from_residual.ensures.1 in
    rw (p.1, p.2) (stop_there text from _ reach c.in_err-token.ensures.err)

pub loop-tokens-preserved : goal.loop-tokens-preserved
loop-tokens-preserved c =
    let text = c.args.text.now in let from = c.gap_end-from.result in let tokens = c.loop-tokens.tokens in let t = c.in_ok-token.token in
    let next = c.in_ok-token.ensures.ok in
    let pushed : c.push.new.self ≡ tokens ++ t ∷ [] = c.in_ok-push.ensures.ok in (
      next.within,
      λ more left rest.
          let cut = c.loop-tokens.invariant.1 (t ∷ more) left
          (token_cuts text c.loop-tokens.end from t more left c.gap_end-from.ensures.forward c.gap_end-from.ensures.within c.gap_end-from.ensures.white next rest) in
          subst (λ k. CutsUpTo 0 text k left) (sym (append_assoc tokens (t ∷ []) more) ∙ ap (λ k. k ++ more) (sym pushed)) cut,
    )
