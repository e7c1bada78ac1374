use Rattle.tow_states.proofs.Sound.{states_are_sound}
use Rattle.tow_states.proofs.laws.states_are_sound.Goals as goal

pub returns : goal.returns
returns c = states_are_sound
