use Rattle.std.proofs.Common.{◌∙◌, ◌++◌, ap₂, flat_map, take}
use Rattle.tow_model.specs.declared.limits.TheConstants.{MAX_VALUE_LEN}
use Rattle.tow_semantics.specs.Values.{logged_piece}
use Rattle.tow_log.proofs.lines.line.Goals as goal

pub returns : goal.returns
returns c = record {
  exact =
      c.from_vec.ensures ∙ c.truncate.ensures.items ∙ c.in_ok-append_pieces.ensures
      ∙ ap₂ (λ out pieces. take MAX_VALUE_LEN (out ++ flat_map (λ p. logged_piece p c.args.request.now c.args.exchange.now c.args.moment) pieces)) c.in_ok-out.ensures.items c.as_slice.ensures;
}
