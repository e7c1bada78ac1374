use Rattle.tow_site.proofs.outcomes.+walk_again.Given as goal

-- the restarts that are left
abbrev pub decreases-walk_again : goal.decreases-walk_again
decreases-walk_again l = l.left
