-- What takes memory.
use Rattle.std.specs.Prelude.{Bool, true, false}
use Rattle.tow_model.specs.declared.action.Action.{Action}
use Rattle.tow_model.specs.declared.action.Action.TheVariants.{Clear, ResponseCode, RequestLimit, Blocking, Echo, Restart, Done}
use Rattle.tow_model.specs.declared.action.Target.{Target}
use Rattle.tow_model.specs.declared.action.Target.TheVariants.{RelativePath, Query, Status}
use Rattle.tow_model.specs.declared.record.Record.{Record}
use Rattle.tow_model.specs.Texts.{is_empty}

-- an action that may want memory
abbrev pub takes_memory : Action → Bool
takes_memory (Clear target) = false
takes_memory (ResponseCode status) = false
takes_memory (RequestLimit number most) = false
takes_memory Blocking = false
takes_memory Echo = false
takes_memory Restart = false
takes_memory Done = false
takes_memory other = true

-- the path is empty, so that there is no place yet for the `/` that clears it
abbrev pub lacks_path : Target → Record → Bool
lacks_path RelativePath x = is_empty x.path
lacks_path other x = false

-- an action that clears such a path
abbrev pub makes_path : Action → Record → Bool
makes_path (Clear target) x = lacks_path target x
makes_path other x = false

-- a target that may want memory beside that of the value
abbrev pub target_takes_memory : Target → Bool
target_takes_memory Query = false
target_takes_memory Status = false
target_takes_memory other = true
