-- Whose turn it is.
use Rattle.tow_model.specs.declared.account.Role.{Role}
use Rattle.tow_model.specs.declared.account.Role.TheVariants.{Loop, Worker, Main}

abbrev pub IsLoop : Role → Type 0
IsLoop (Loop i) = Unit {0}
IsLoop (Worker i) = ⊥
IsLoop Main = ⊥
