-- Logs: the lines that they hold, and how often they have failed.
use Rattle.std.specs.Prelude.{◌≡◌, ℕ, ◌==◌, List, [], ◌∷◌, ◌++◌, filter, length, Option, Some, option_map}
use Rattle.tow_model.specs.declared.account.Line.{Line}
use Rattle.tow_faults.specs.Faults.{NumberedFaults}
use Rattle.tow_host.specs.declared.log_sink.Put.{Put}
use Rattle.tow_host.specs.declared.log_sink.Put.TheVariants.{Stored, Failed}

-- how often a log has failed, by the connection, and, where it tells, its lines
pub record LogData : Type 0 where
  pub faults : NumberedFaults
  pub lines : Option (List Line)

-- the line of a request of a connection, under the number of its log in the text
abbrev pub line_told : ℕ → ℕ → ℕ → List ℕ → Line
line_told k j number text = record { connection = k; request = j; number = number; text = text }

-- the log with one more line at its end, where it tells
abbrev pub with_line : Line → LogData → LogData
with_line line log = record log { lines = option_map (λ lines. lines ++ line ∷ []) log.lines }

-- `Stored` adds just the line, and `Failed` leaves all but the counts
abbrev pub PutAdds : LogData → LogData → Put → Line → Type 0
PutAdds old new Stored line = new ≡ with_line line old
PutAdds old new Failed line = new ≡ record old { faults = new.faults }

-- A log in memory: the connections of the lines that it refused, one for each; how many it refused without memory to note the
-- connection; and its lines.
pub record MemoryLogData : Type 0 where
  pub refused : List ℕ
  pub unnoted : ℕ
  pub lines : List Line

-- how often a number stands among these
abbrev pub times_among : List ℕ → ℕ → ℕ
times_among refused number = length (filter (λ other. other == number) refused)

-- the counts of faults, where these numbers were refused, one for each fault, and so many more without memory to note which
abbrev pub refused_faults : List ℕ → ℕ → NumberedFaults
refused_faults refused unnoted = record { own = times_among refused; shared = unnoted }

-- all of it, as every log shows it
abbrev pub memory_log : MemoryLogData → LogData
memory_log log = record {
  faults = refused_faults log.refused log.unnoted;
  lines = Some log.lines;
}
