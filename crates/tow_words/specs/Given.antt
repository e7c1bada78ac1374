-- What a command's words give for its arguments.
use Rattle.std.specs.Prelude.{◌≡◌, ℕ, Bool, true, List, [], Option, Some, option_map, unwrap_or, is_some}
use Rattle.std.specs.Str.Parse.{digits_value, without_leading_plus}
use Rattle.clap.specs.Values.{IsUnsignedIn}
use Rattle.clap.specs.Walk.{Row, Text, first_of, is_empty, rows_of}
use Rattle.clap.specs.Matches.{found_of}
use Rattle.clap.specs.Built.{IsParsedFrom}
use Rattle.clap.specs.Simple.{App, app_of, matches_of}
use Rattle.clap.specs.Faults.{fault_of}
use Rattle.clap.specs.declared.builder.command.Command.{Command}
use Rattle.clap.specs.declared.parser.matches.ArgMatches.{ArgMatches}

-- the words have matches: each is one of the command's, no option comes twice, each number is within its bounds, and what has
-- to be there is there
abbrev pub has_matches : App → List Text → Bool
has_matches app words = is_empty (fault_of app words)

-- a decimal number; a `+` may stand before it, and zeros may lead it
abbrev pub number_of : Text → ℕ
number_of word = digits_value 10 (without_leading_plus word)

-- the word of an argument that has one, as each has that has to be there
abbrev pub text_given : Text → List Row → Text
text_given id rows = unwrap_or (first_of id rows) []

-- the number of an argument, if it has a word
abbrev pub number_given : Text → List Row → Option ℕ
number_given id rows = option_map number_of (first_of id rows)

-- the number of an argument, or this one
abbrev pub number_or : ℕ → Text → List Row → ℕ
number_or otherwise id rows = unwrap_or (number_given id rows) otherwise

-- the matches were read by a command of this form
pub record IsParsedBy (app : App) (matches : ArgMatches) : Type 0 where
  pub command : Command
  pub form : app_of command ≡ app
  pub parsed : IsParsedFrom command matches

-- these are the matches of the words under such a command
pub record AreMatches (app : App) (words : List Text) (matches : ArgMatches) : Type 0 where
  pub taken : has_matches app words ≡ true
  pub rows : rows_of (found_of matches) ≡ matches_of app words
  pub by : IsParsedBy app matches

-- the argument has a word
abbrev pub IsGiven : Text → List Row → Type 0
IsGiven id rows = is_some (first_of id rows) ≡ true

-- if the argument has a word, it is a number within these bounds
abbrev pub IsNumberIn : ℕ → ℕ → Text → List Row → Type 0
IsNumberIn least most id rows = (word : Text) → first_of id rows ≡ Some word → IsUnsignedIn least most word
