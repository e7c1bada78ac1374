-- What a connection asks of limits.
use Rattle.std.specs.Prelude.{◌≡◌, ◌<◌, ◌≤◌, ℕ, [], ◌∷◌, ◌++◌, length}
use Rattle.std.specs.Vec.{vec_capacity}
use Rattle.tow_model.specs.declared.account.What.{What}
use Rattle.tow_stages.specs.Stages.{Stage}
use Rattle.tow_turns.specs.Nexts.{AsksLimit, OwesLimit}
use Rattle.tow_turns.specs.declared.base.Base.{Base}
use Rattle.tow_by_turns.specs.declared.conn.Conn.{Conn}

-- it waits for the verdict of a limit
abbrev pub AsksSome : Stage → Type 0
AsksSome stage = (limit : ℕ) × AsksLimit limit stage

-- it has to leave a limit
abbrev pub OwesSome : Stage → Type 0
OwesSome stage = (limit : ℕ) × OwesLimit limit stage

-- there is a place for a call
abbrev pub HasPlace : {L : Type 0} → Base L → Type 0
HasPlace base = length base.calls.items < vec_capacity base.calls

-- A call of the open request was noted, and all else but the stage is as it was.
pub record Notes {L : Type 0} (limit : ℕ) (what : What) (old new : Base L) : Type 0 where
  pub calls : new.calls.items ≡ old.calls.items ++ record { limit = limit; request = old.begun; what = what } ∷ []
  pub room : vec_capacity old.calls ≤ vec_capacity new.calls
  pub number : new.number ≡ old.number
  pub begun : new.begun ≡ old.begun
  pub port : new.port ≡ old.port
  pub silent : new.silent ≡ old.silent

-- so it was of a connection
pub record Calls {L : Type 0} (limit : ℕ) (what : What) (old new : Conn L) : Type 0 where
  pub notes : Notes limit what old.base new.base
  pub hops : new.hops ≡ old.hops
