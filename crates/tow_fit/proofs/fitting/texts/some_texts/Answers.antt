use Rattle.std.proofs.Common.{◌∙◌, sym, ap, Ok}
use Rattle.tow_language.specs.Fit.{some_texts}
use Rattle.tow_fit.specs.Calls.{value_of}
use Rattle.tow_fit.proofs.Arrays.{array_texts}
use Rattle.tow_fit.proofs.fitting.texts.some_texts.Goals as goal

pub returns-in_ok-all_bytes-in-Array : goal.returns-in_ok-all_bytes-in-Array
returns-in_ok-all_bytes-in-Array c =
    ap (λ v. some_texts (value_of v)) c.in-Array.is
    ∙ array_texts c.in-Array.place c.in-Array.texts (λ none. c.if-len-eq0.false (c.len.ensures ∙ none))
    ∙ ap (λ k. Ok k) (sym c.in_ok-all_bytes-in-Array.ensures)
