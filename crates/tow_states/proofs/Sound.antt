-- What is true in every state.
use Rattle.tow_progress.specs.Progress.{Progress, Origin}
use Rattle.tow_progress.specs.Accounts.{Tally}
use Rattle.tow_progress.specs.Inside.{KeepsInside}
use Rattle.tow_progress.proofs.Fronts.{front_follows}
use Rattle.tow_states.specs.Known.{Setting, Stands, run_in}
use Rattle.tow_states.specs.States.{IsSound, State, StatesAreSound, closing, cut, ending, gathering, reading, refusing, sending, to_run, walking}

sound : (s : Setting) (o : Origin) (c : Progress) (t : Tally) (state : State) → Stands s o c t
    → KeepsInside c.request (to_run state) t.calls → IsSound s o c t state
sound s o c t state stands inside =
    record { stands = stands; front = front_follows (run_in s) c stands.wire; inside = inside }

pub states_are_sound : StatesAreSound
states_are_sound s o c t reading is = sound s o c t reading is.stands is.inside
states_are_sound s o c t (refusing status to_put) is = sound s o c t (refusing status to_put) is.stands is.inside
states_are_sound s o c t (walking e n) is = sound s o c t (walking e n) is.stands is.exchange.inside
states_are_sound s o c t (gathering e n took) is = sound s o c t (gathering e n took) is.stands is.exchange.inside
states_are_sound s o c t (sending e n took to_put) is = sound s o c t (sending e n took to_put) is.stands is.exchange.inside
states_are_sound s o c t (closing e n d owed onward) is = sound s o c t (closing e n d owed onward) is.stands is.runs.inside
states_are_sound s o c t (ending thing) is = sound s o c t (ending thing) is.stands is.none_inside
states_are_sound s o c t (cut at) is = sound s o c t (cut at) is.stands is.none_inside
