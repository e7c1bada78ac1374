use Rattle.std.proofs.Common.{◌+◌, ◌<◌, ◌≤◌}
use Rattle.std.proofs.lemmas.List.Elements.{All-from_recursion}
use Rattle.tow_history.specs.Legal.{nobody, state_after, tickets}
use Rattle.tow_history.specs.Histories.{granted_tickets}
use Rattle.tow_history.proofs.Sound.{sound_nobody, sound_after}
use Rattle.tow_history.proofs.Tickets.{tickets_split, drawn_rising, granted_below, waiting_above}
use Rattle.tow_history.proofs.laws.granted_in_order.Goals as goal

pub returns-clause-once : goal.returns-clause-once
returns-clause-once c = λ h most queue ok. drawn_rising most queue nobody h ok

pub returns-clause-order : goal.returns-clause-order
returns-clause-order c = λ h. tickets_split nobody h

pub returns-clause-granted : goal.returns-clause-granted
returns-clause-granted c = λ h most queue ok. All-from_recursion (λ t. t < (state_after h).left + most) (granted_tickets h) (granted_below most queue nobody h (sound_nobody most queue) ok)

pub returns-clause-waiting : goal.returns-clause-waiting
returns-clause-waiting c = λ h most queue ok. All-from_recursion (λ t. (state_after h).left + most ≤ t) (tickets (state_after h).line) (waiting_above most queue (state_after h) (sound_after most queue h ok))
