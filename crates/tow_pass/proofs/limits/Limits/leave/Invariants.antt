use Rattle.tow_pass.proofs.limits.Limits.leave.Given as goal

abbrev pub ghosts-leave_as : goal.ghosts-leave_as
ghosts-leave_as a = record { limit = a.limit; most = 0; request = a.request }
