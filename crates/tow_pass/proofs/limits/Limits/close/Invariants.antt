use Rattle.tow_pass.proofs.limits.Limits.close.Given as goal

abbrev pub ghosts-close_as : goal.ghosts-close_as
ghosts-close_as a = record { bounds = a.self.now.bounds }
