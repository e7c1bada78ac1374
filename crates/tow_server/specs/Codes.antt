-- The exit status of each way to end.
use Rattle.std.specs.Prelude.{ℕ}
use Rattle.tow_server.specs.declared.status.Status.{Status}
use Rattle.tow_server.specs.declared.status.Status.TheVariants.{Done, Words, Text, HostFault, NoMemory, StreamFault}

abbrev pub code_of : Status → ℕ
code_of Done = 0
code_of (Words why) = 64
code_of Text = 65
code_of HostFault = 66
code_of NoMemory = 71
code_of StreamFault = 74
