use Rattle.std.proofs.Common.{◌≡◌, ◌∙◌, ap, sym, take, drop, refl, arith, ◌-◌, ◌+◌, length-drop, length, ◌≤◌}
use Rattle.tow_link.specs.Data.{SourceData}
use Rattle.tow_link.proofs.Moving.{moved}
use Rattle.tow_link.proofs.memory_source.MemorySourceSource.read.Goals as goal

pub returns-clause-bytes : goal.returns-clause-bytes
returns-clause-bytes c =
    let bytes = c.self.inside.bytes.items in
    let at = c.self.inside.at in
    let count = c.min-count.result in
    let fits : count ≤ length (drop at bytes) = omega (arith, length-drop at bytes) in
    let same : at + count - at ≡ count = omega arith in
    let piece : c.copy_from_slice.new.self ≡ take count (drop at bytes) = c.copy_from_slice.ensures.after ∙ (λ i. take (same i) (drop at (c.deref-2.ensures.value i))) in
    moved _ bytes _ _ _ at count (ap (λ (s : SourceData). s.told) (sym c.self.view_is)) fits piece refl
