use Rattle.std.proofs.Common.{List, ◌++◌, map}
use Rattle.tow_model.specs.Texts.{Text}
use Rattle.tow_request.specs.Refusals.{Sums}
use Rattle.tow_request.proofs.Listing.{listed}
use Rattle.tow_request.proofs.codings.with_value.Given as goal

abbrev pub invariant-loop-piece : goal.invariant-loop-piece
invariant-loop-piece l = record {
  can_next : (goal.iterator-loop-piece).can_next l.piece-iterator;
  is_finite : (goal.iterator-loop-piece).is_finite l.piece-iterator;
  sums : (before : List Text) → Sums before l.fn.codings → Sums (before ++ listed (map (λ x. x.now) l.yielded)) l.longer;
}
