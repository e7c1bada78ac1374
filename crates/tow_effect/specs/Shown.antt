-- What a call of `effect` shows: its answer, and the record that it leaves.
use Rattle.std.specs.Prelude.{Option, Some, None}
use Rattle.tow_model.specs.declared.record.Record.{Record}
use Rattle.tow_semantics.specs.Effects as model
use Rattle.tow_semantics.specs.Steps as step
use Rattle.tow_effect.specs.declared.outcome.Effect.{Effect}
use Rattle.tow_effect.specs.declared.outcome.Effect.TheVariants.{Go, Stop, Ask, Content, Page, Restart, ToDefault, NoMemory}
use Rattle.tow_effect.specs.declared.outcome.Assign.{Assign}
use Rattle.tow_effect.specs.declared.outcome.Assign.TheVariants as assign

abbrev pub shown : Effect → Record → Option model.Effect
shown Go x = Some (model.Takes (step.Go x))
shown Stop x = Some (model.Takes (step.Stop x))
shown (Ask limit) x = Some (model.Asks limit)
shown Content x = Some model.ReadsContent
shown (Page location listing) x = Some (model.LooksUp location listing)
shown Restart x = Some model.BeginsAgain
shown ToDefault x = Some model.GoesToDefault
shown NoMemory x = None

-- a value that breaks a rule is no reason to stop
abbrev pub of_write : Assign → Effect
of_write assign.Assigned = Go
of_write assign.BadValue = Go
of_write assign.NoMemory = NoMemory
