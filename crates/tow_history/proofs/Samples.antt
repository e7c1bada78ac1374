-- The definitions at a few values.
use Rattle.std.proofs.Common.{◌≡◌, List, [], ◌∷◌, refl, inl, arith}
use Rattle.tow_model.specs.declared.account.What.TheVariants.{Enter, Leave}
use Rattle.tow_model.specs.declared.account.Verdict.TheVariants.{Admitted, Refused}
use Rattle.tow_history.specs.declared.entry.Entry.{Entry}
use Rattle.tow_history.specs.Legal.{legal, entry_of, state_after}
use Rattle.tow_history.specs.Histories.{of, verdicts}

-- one exchange that meets its limit of one again after a restart
abbrev restarted : List Entry
restarted = entry_of 0 0 1 (Enter Admitted) ∷ entry_of 0 0 1 (Enter Refused) ∷ entry_of 0 0 1 Leave ∷ []

restarted_legal : legal restarted 1 0
restarted_legal = (omega arith, (inl (refl, inl refl), (omega arith, tt)))

restarted_verdicts : verdicts (of restarted 0) ≡ Admitted ∷ Refused ∷ []
restarted_verdicts = refl

nobody_else : of restarted 1 ≡ []
nobody_else = refl

nobody_inside : (state_after restarted).inside ≡ []
nobody_inside = refl
