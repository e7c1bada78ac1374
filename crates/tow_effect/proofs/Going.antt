-- A text goes on from what was written.
use Rattle.std.proofs.Common.{◌≡◌, ◌∙◌, Option, IfSome, ap, sym}
use Rattle.std.specs.Option.{unwrap_or}
use Rattle.tow_model.specs.declared.record.Record.{Record}
use Rattle.tow_semantics.specs.Effects.{Takes}
use Rattle.tow_semantics.specs.Steps.{Go}
use Rattle.tow_semantics.specs.Writing.{or_unchanged}
use Rattle.tow_effect.specs.declared.outcome.Assign.{Assign}
use Rattle.tow_effect.specs.declared.outcome.Assign.TheVariants.{Assigned, BadValue, NoMemory}
use Rattle.tow_effect.specs.Shown.{of_write, shown}
use Rattle.tow_effect.specs.Writes.{Writes}

-- with the record that the write left, which is the one before where the value broke a rule
pub goes_on : (changed : Option Record) (done : Assign) (old new : Record) → Writes changed done old new →
    IfSome (shown (of_write done) new) (λ e. e ≡ Takes (Go (or_unchanged changed old)))
goes_on changed Assigned old new written = ap (λ o. Takes (Go (unwrap_or o old))) (sym written)
goes_on changed BadValue old new written = ap (λ x. Takes (Go x)) written.1 ∙ ap (λ o. Takes (Go (unwrap_or o old))) (sym written.0)
goes_on changed NoMemory old new written = tt
