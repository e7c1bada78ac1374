use Rattle.std.proofs.Common.{◌≡◌, ◌∙◌, ◌<◌, ap, sym, ℕ, true, length, map, arith, List}
use Rattle.std.specs.Prelude.{bytes_eq}
use Rattle.tow_link.specs.Data.{raised}
use Rattle.tow_link.specs.declared.key_counts.KeyCount.{KeyCount}
use Rattle.tow_link.specs.Counts.{entry_of, raised_at}
use Rattle.tow_link.proofs.Raising.{raised_here}
use Rattle.tow_link.proofs.key_counts.raise_in.Goals as goal

pub returns-then-eq-clause-found : goal.returns-then-eq-clause-found
returns-then-eq-clause-found c =
    let name = c.args.key.now in
    let item = c.count-item.is in
    let within : c.counts.count-index < length c.counts.counts = omega arith in
    let same : bytes_eq c.count-item.result.key.items name ≡ true = ap (λ (count : KeyCount). bytes_eq count.key.items name) item ∙ ap (λ (text : List ℕ). bytes_eq text name) (sym c.as_slice.ensures.value) ∙ sym c.eq.ensures ∙ c.if-eq.true in
    let sum : c.saturating_add-count.result ≡ raised c.count-item.result.count = c.saturating_add-count.ensures ∙ ap (λ (count : KeyCount). raised count.count) (sym item) in
    raised_here entry_of c.counts.counts name c.counts.count-index c.count-item.result _ within item same (λ j. ((sym item j).key.items, sum j)) c.counts.invariant.raised ∙ ap (λ (counts : List KeyCount). raised_at (map entry_of counts) name) c.counts.invariant.same
