use Rattle.tow_pass.specs.Shown.{most_at}
use Rattle.tow_pass.proofs.limits.Limits.enter.Given as goal

abbrev pub ghosts-enter_as : goal.ghosts-enter_as
ghosts-enter_as g a = record { limit = a.limit; most = most_at a.self.now.bounds a.limit; request = a.request }
