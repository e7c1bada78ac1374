-- What the words of a command line ask for.
use Rattle.std.specs.Prelude.{◌<◌, ◌≤◌, ℕ, List, [], ◌∷◌, Option, Some, None, Result, Ok, Err, codes, bytes_eq, if◌then◌else◌}
use Rattle.std.specs.Option.{ForSome}
use Rattle.clap.specs.Walk.{Row, Text}
use Rattle.clap.specs.Simple.{App, matches_of}
use Rattle.tow_model.specs.declared.limits.TheConstants.{FIRST_UNDATED}
use Rattle.tow_words.specs.Forms as forms
use Rattle.tow_words.specs.Given.{has_matches, number_given, number_or, text_given}
use Rattle.tow_words.specs.declared.bounds.TheConstants.{DEFAULT_CONNECTIONS, DEFAULT_LOOPS, DEFAULT_SLOTS, DEFAULT_WORKERS, MAX_CONNECTIONS, MAX_DRILL, MAX_LOOPS, MAX_SLOTS, MAX_WORKERS}
use Rattle.tow_words.specs.declared.command.Command.{Command}
use Rattle.tow_words.specs.declared.command.Command.TheVariants.{Check, Ask, Drill, Serve}
use Rattle.tow_words.specs.declared.command.Options.{Options}
use Rattle.tow_words.specs.declared.command.Why.{Why}
use Rattle.tow_words.specs.declared.command.Why.TheVariants.{NoCommand, BadWords}
use Rattle.tow_words.specs.declared.words.Words.{Words}
use Rattle.tow_words.specs.declared.words.Words.TheVariants.{Run, Usage, NoMemory}

-- a command with its arguments, as plain data: `check TEXT`, `ask DIR TEXT` at a moment or at those of the clock, `drill N`, and
-- `serve DIR TEXT ADDRESS`
pub data CommandData : Type 0 where
  check : Text → CommandData
  ask : Text → Text → Option ℕ → CommandData
  drill : ℕ → CommandData
  serve : Text → Text → Text → Options → CommandData

-- what a command is as plain data
abbrev pub command_seen : Command → CommandData
command_seen (Check text) = check text.now
command_seen (Ask dir text moment) = ask dir.now text.now moment
command_seen (Drill number) = drill number
command_seen (Serve dir text address options) = serve dir.now text.now address.now options

-- a command, or why the words are none; nothing where memory was short
abbrev pub words_seen : Words → Option (Result CommandData Why)
words_seen (Run command) = Some (Ok (command_seen command))
words_seen (Usage why) = Some (Err why)
words_seen NoMemory = None

-- the options are within their bounds
pub record AreWithin (options : Options) : Type 0 where
  pub loops : (1 ≤ options.loops) × (options.loops ≤ MAX_LOOPS)
  pub workers : (1 ≤ options.workers) × (options.workers ≤ MAX_WORKERS)
  pub slots : (1 ≤ options.slots) × (options.slots ≤ MAX_SLOTS)
  pub connections : options.connections ≤ MAX_CONNECTIONS

-- each number of the command is within its bounds: a moment lies before the year 10000
abbrev pub IsWithin : Command → Type 0
IsWithin (Check text) = Unit {0}
IsWithin (Ask dir text moment) = ForSome moment (λ second. second < FIRST_UNDATED)
IsWithin (Drill number) = number ≤ MAX_DRILL
IsWithin (Serve dir text address options) = AreWithin options

abbrev pub IsWithinIfRun : Words → Type 0
IsWithinIfRun (Run command) = IsWithin command
IsWithinIfRun (Usage why) = Unit {0}
IsWithinIfRun NoMemory = Unit {0}

-- the options by the words that were given, and the defaults of the others
abbrev pub options_of : List Row → Options
options_of rows = record {
  loops = number_or DEFAULT_LOOPS (codes "loops") rows;
  workers = number_or DEFAULT_WORKERS (codes "workers") rows;
  slots = number_or DEFAULT_SLOTS (codes "slots") rows;
  connections = number_or DEFAULT_CONNECTIONS (codes "connections") rows;
}

-- each command by the words of its arguments
abbrev pub check_by : List Row → CommandData
check_by rows = check (text_given (codes "text") rows)

abbrev pub ask_by : List Row → CommandData
ask_by rows = ask (text_given (codes "dir") rows) (text_given (codes "text") rows) (number_given (codes "moment") rows)

abbrev pub drill_by : List Row → CommandData
drill_by rows = drill (number_or 0 (codes "number") rows)

abbrev pub serve_by : List Row → CommandData
serve_by rows = serve (text_given (codes "dir") rows) (text_given (codes "text") rows) (text_given (codes "address") rows) (options_of rows)

-- the command by its matches if the words have some; else they are bad
abbrev pub matched : App → (List Row → CommandData) → List Text → Result CommandData Why
matched app by words = if has_matches app words then Ok (by (matches_of app words)) else Err BadWords

-- the command of this name by the words after it
abbrev pub command_by : Text → List Text → Result CommandData Why
command_by name rest =
    if bytes_eq name (codes "check") then matched forms.check check_by rest
    else (if bytes_eq name (codes "ask") then matched forms.ask ask_by rest
    else (if bytes_eq name (codes "drill") then matched forms.drill drill_by rest
    else (if bytes_eq name (codes "serve") then matched forms.serve serve_by rest else Err NoCommand)))

-- the first word names the command
abbrev pub command_of : List Text → Result CommandData Why
command_of [] = Err NoCommand
command_of (name ∷ rest) = command_by name rest
