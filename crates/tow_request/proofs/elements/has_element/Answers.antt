use Rattle.std.proofs.Common.{rules, tests, not, ◌&&◌, ◌==◌, sym, ap, ◌∙◌}
use Rattle.std.proofs.lemmas.Iterator.Search.{any_from_yields_List}
use Rattle.std.proofs.lemmas.Iterator.Splits.{YieldsList-from_slice_split}
use Rattle.std.specs.List.{list_any}
use Rattle.std.specs.Str.{bytes_eq}
use Rattle.http_header.specs.Token.{lowercase}
use Rattle.tow_model.specs.Texts.{is_empty, trimmed, cut_at}
use Rattle.tow_request.proofs.Listing.{any_piece, of_value}
use Rattle.tow_request.proofs.elements.has_element.Goals as goal

pub returns : goal.returns
returns c =
    let word = lowercase c.args.word.now in let value = c.args.value.now in
    any_from_yields_List (λ piece. not (is_empty (trimmed piece)) && bytes_eq word (lowercase (trimmed piece))) _ _ _ c.any.ensures.ran
    (YieldsList-from_slice_split _ (λ b. b == 44) value c.split.ensures.rest c.split.ensures.done c.split.ensures.closure (λ x r q k. search (rules, tests)))
    (λ x b q k. search (rules, tests))
    ∙ any_piece word (cut_at 44 value) ∙ ap (list_any (bytes_eq word)) (sym (of_value value))
