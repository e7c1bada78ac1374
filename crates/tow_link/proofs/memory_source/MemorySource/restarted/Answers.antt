use Rattle.std.proofs.Common.{◌≡◌, ◌++◌, IsSomeAnd, take, drop, subst, ap, sym, ◌∙◌, take-append-drop}
use Rattle.std.proofs.lemmas.List.Elements.{same_from_all_zip}
use Rattle.tow_link.specs.Data.{SourceData, fresh_source, content_of}
use Rattle.tow_link.proofs.memory_source.MemorySource.restarted.Goals as goal

pub returns : goal.returns
returns c =
    let bytes = c.self.inside.bytes.items in
    let at = c.self.inside.at in
    let copy : c.in_ok-clone.field-0.items ≡ take at bytes ++ drop at bytes = same_from_all_zip _ _ _ c.in_ok-clone.ensures.cases.0 (λ x y same. same) ∙ sym (take-append-drop at bytes) in
    subst (λ (source : SourceData). IsSomeAnd source.told (λ told. fresh_source c.in_ok-clone.field-0.items ≡ fresh_source (content_of told))) c.self.view_is (ap fresh_source copy)
